-- The blocks' functions take the sections of the form.
use Rattle.form.proofs.ListedLaws.{listed}
use Rattle.holding.proofs.fault_between.Goals as goal

pub first_fault-requires-clause-sections : goal.first_fault-requires-clause-sections
first_fault-requires-clause-sections c = rw c.sections.ensures (listed c.args.form c.requires.0.limits)
