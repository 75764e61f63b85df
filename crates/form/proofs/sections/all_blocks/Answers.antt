-- The sections of the form are sized, and their blocks can be numbered.
use Rattle.form.proofs.ListedLaws.{listed}
use Rattle.form.proofs.sections.all_blocks.Goals as goal

pub due_count-requires : goal.due_count-requires
due_count-requires c = rw c.sections.ensures (listed c.args.form c.requires)
