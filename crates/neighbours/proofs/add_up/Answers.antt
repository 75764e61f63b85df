-- Each turn puts one sum more in its count's place, and after the last all are sums.
use native.Mathlib.Omega.{arith}
use Rattle.neighbours.specs.Counts.{summed_bound, summed_more}
use Rattle.neighbours.proofs.add_up.Goals as goal

pub overflow_add-total : goal.overflow_add-total
overflow_add-total c = omega (arith, summed_bound c.loop-count.invariant (omega arith))

pub loop-count-preserved : goal.loop-count-preserved
loop-count-preserved c = summed_more c.loop-count.invariant (omega arith)
