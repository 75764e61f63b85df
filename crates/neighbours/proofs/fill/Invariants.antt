-- Each turn puts the edge before those that stand in their rows in front of both its rows, and after the last all edges stand there.
use lib.ListN.{length}
use Rattle.neighbours.specs.Rows.{Filled}
use Rattle.neighbours.proofs.fill.Given as goal

abbrev pub invariant-loop-k : goal.invariant-loop-k
invariant-loop-k l = Filled (length l.initial.start) (length l.initial.near) l.edges l.k l.start l.near l.areas
