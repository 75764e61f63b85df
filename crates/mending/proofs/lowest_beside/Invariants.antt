-- Each turn goes along the edge before those that are passed, both ways, and after the last edge the lowest is found.
use Rattle.mending.specs.Along.{Sought}
use Rattle.mending.proofs.lowest_beside.Given as goal

abbrev pub invariant-loop-k : goal.invariant-loop-k
invariant-loop-k l = Sought l.edges l.colouring l.region.0 l.k l.lowest
