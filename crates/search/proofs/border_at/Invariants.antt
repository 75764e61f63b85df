-- The loop goes through the row up to place j, and its sum with what comes after makes the whole area.
use Prim.Native.Nat.{◌-◌}
use mathlib.Core.Bool.{not}
use lib.Dec.{eqb}
use lib.ListN.{length}
use Rattle.lists.specs.Sums.{at}
use Rattle.meaning.specs.Plan.{edges_of}
use Rattle.search.specs.Weighing.{Weighing}
use Rattle.search.proofs.border_at.Given as goal

abbrev pub invariant-loop-j : goal.invariant-loop-j
invariant-loop-j l = Weighing (length l.faces.start.now - 1) (edges_of l.faces.edges.now) l.faces.start.now l.faces.near.now l.faces.areas.now l.colouring l.region (λ w. not (eqb (at l.colouring w) l.own)) l.sum l.j
