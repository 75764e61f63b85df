-- The loop passes the places up to i, none of which shows the sector.
use Prim.Native.Nat.{◌-◌}
use mathlib.Core.Logic.{◌≢◌}
use Rattle.lists.specs.Sums.{at}
use Rattle.lists.specs.Parts.{Passed}
use Rattle.search.proofs.skip.Given as goal

abbrev pub invariant-loop-i : goal.invariant-loop-i
invariant-loop-i l = Passed (λ x. at l.colouring x ≢ l.sector) l.near l.first l.end l.i

abbrev pub decreases-loop-i : goal.decreases-loop-i
decreases-loop-i l = l.end - l.i
