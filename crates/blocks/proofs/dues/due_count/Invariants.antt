-- The blocks of the sections so far, with those of the others, are all.
use Rattle.blocks.specs.InTurn.{Counted}
use Rattle.blocks.proofs.dues.due_count.Given as goal

abbrev pub invariant-loop-section : goal.invariant-loop-section
invariant-loop-section l = Counted l.sections l.section-index l.count
