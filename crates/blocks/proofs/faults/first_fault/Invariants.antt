-- No block before block `number` is refused.
use Rattle.blocks.specs.Section.{due_of}
use Rattle.blocks.specs.Scan.{Scan}
use Rattle.blocks.proofs.faults.first_fault.Given as goal

abbrev pub invariant-loop-number : goal.invariant-loop-number
invariant-loop-number l = Scan l.letters l.sheet (due_of l.sections) l.from l.to l.number
