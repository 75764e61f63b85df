-- The block is one of the section, or is sought among those of the later ones.
use Rattle.std.proofs.Common.{refl}
use Rattle.blocks.specs.InTurn.{sought_here, sought_later}
use Rattle.blocks.proofs.dues.due_at.Goals as goal

pub returns-then-left-count : goal.returns-then-left-count
returns-then-left-count c = rw c.min.ensures (sought_here c.loop-section.invariant c.loop-section-test.true refl c.block_count-count.ensures c.if-left-count.true)

pub loop-section-preserved : goal.loop-section-preserved
loop-section-preserved c = sought_later c.loop-section.invariant c.loop-section-test.true refl c.block_count-count.ensures c.if-left-count.false
