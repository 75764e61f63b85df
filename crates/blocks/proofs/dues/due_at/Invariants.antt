-- A block past the blocks of a section is sought among those of the later ones.
use Rattle.blocks.specs.InTurn.{Sought}
use Rattle.blocks.proofs.dues.due_at.Given as goal

abbrev pub invariant-loop-section : goal.invariant-loop-section
invariant-loop-section l = Sought l.sections l.number l.section-index l.left
