-- The sums are the tally of the regions passed, since each region adds what it counts for to the sum of its sector.
use lib.ListN.{length}
use Rattle.lists.specs.Sums.{bit}
use Rattle.meaning.specs.Joined.{leads}
use Rattle.judge.specs.Tallies.{Tallied}
use Rattle.judge.proofs.tallies.tally_components.Given as goal

abbrev pub invariant-loop-i : goal.invariant-loop-i
invariant-loop-i l = Tallied (length l.initial.counts) l.labels l.colouring (λ u. bit (leads l.labels u)) l.i l.counts
