-- Each turn counts the blocks of the next section.
use Rattle.std.proofs.Common.{arith, refl}
use Rattle.blocks.specs.InTurn.{counted_room, counted_turn}
use Rattle.blocks.proofs.dues.due_count.Goals as goal

pub overflow_add-count : goal.overflow_add-count
overflow_add-count c = omega (arith, c.requires.few, counted_room c.loop-section.invariant c.loop-section-test.true refl c.block_count-count.ensures)

pub loop-section-preserved : goal.loop-section-preserved
loop-section-preserved c = counted_turn c.loop-section.invariant c.loop-section-test.true refl c.block_count-count.ensures
