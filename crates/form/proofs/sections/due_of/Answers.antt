-- The sections of the form are sized, and their blocks can be numbered.
use Rattle.form.proofs.ListedLaws.{listed}
use Rattle.form.proofs.sections.due_of.Goals as goal

pub due_at-requires : goal.due_at-requires
due_at-requires c = rw c.sections.ensures (listed c.args.form c.requires)
