-- Each turn counts the edge before those that are counted at both its ends, and after the last all are.
use lib.ListN.{length}
use Rattle.neighbours.specs.Counts.{Counted}
use Rattle.neighbours.proofs.count_edges.Given as goal

abbrev pub invariant-loop-k : goal.invariant-loop-k
invariant-loop-k l = Counted (length l.initial.counts) l.edges l.k l.counts
