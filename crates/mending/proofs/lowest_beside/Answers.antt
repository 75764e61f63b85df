-- Each turn goes along the edge before those that are passed, both ways, and after the last edge the lowest is found.
use native.Mathlib.Omega.{arith}
use Rattle.neighbours.specs.Edges.{taken_ends}
use Rattle.mending.specs.Along.{sought_none, sought_more, sought_all}
use Rattle.mending.proofs.lowest_beside.Goals as goal

pub loop-k-init : goal.loop-k-init
loop-k-init c = sought_none _ c.requires

pub beyond-requires : goal.beyond-requires
beyond-requires c = rw c.at-edge.ensures (taken_ends c.loop-k.invariant.taken c.loop-k-test.true).0

pub beyond-requires-in-loop-k : goal.beyond-requires-in-loop-k
beyond-requires-in-loop-k c = rw c.at-edge.ensures (taken_ends c.loop-k.invariant.taken c.loop-k-test.true).1

pub loop-k-preserved : goal.loop-k-preserved
loop-k-preserved c = sought_more c.loop-k.invariant c.loop-k-test.true (rw c.at-edge.ensures at c.beyond.ensures) c.lower-lowest.ensures (rw c.at-edge.ensures at c.beyond-in-loop-k.ensures) c.lower-lowest-in-loop-k.ensures

pub returns : goal.returns
returns c = sought_all c.loop-k.invariant (omega arith)
