-- The loop has found n components and is done with the first h regions of the queue; where all of it is done with, the next neighbour that shows the sector is of another component.
use Prim.Native.Nat.{◌+◌, ◌-◌}
use lib.ListN.{length}
use Rattle.meaning.specs.Plan.{edges_of}
use Rattle.search.specs.Searching.{Searching}
use Rattle.search.proofs.count_beside.Given as goal

abbrev pub invariant-loop-i : goal.invariant-loop-i
invariant-loop-i l = Searching (length l.faces.start.now - 1) (edges_of l.faces.edges.now) l.faces.start.now l.faces.near.now l.initial.colouring l.initial.queue l.region l.sector l.colouring l.queue l.n l.h l.e l.i

abbrev pub decreases-loop-i : goal.decreases-loop-i
decreases-loop-i l = (length l.faces.start.now - 1) + (length l.faces.start.now - 1) - (l.h + l.e)
