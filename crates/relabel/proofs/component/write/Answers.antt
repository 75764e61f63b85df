-- Each turn gives the next region the label, and after the last all have it.
use native.Mathlib.Omega.{arith}
use mathlib.Core.Path.{refl}
use Rattle.relabel.specs.Writing.{writing_start, writing_few, writing_turn}
use Rattle.relabel.proofs.component.write.Goals as goal

pub loop-region-init : goal.loop-region-init
loop-region-init c = writing_start refl c.requires

pub overflow_add-n : goal.overflow_add-n
overflow_add-n c = omega (arith, writing_few c.loop-region.invariant, c.differ-n.ensures.upper_bound)

pub loop-region-preserved : goal.loop-region-preserved
loop-region-preserved c = writing_turn c.loop-region.invariant c.loop-region-test.true c.differ-n.ensures.value
