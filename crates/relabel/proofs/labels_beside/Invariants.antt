-- Each turn takes in the label of the next neighbour if it has the sector, and after the last all are taken in.
use Prim.Native.Nat.{◌+◌, ◌-◌}
use lib.ListN.{length}
use Rattle.meaning.specs.Plan.{edges_of}
use Rattle.search.specs.Ranging.{Ranging}
use Rattle.relabel.proofs.labels_beside.Given as goal

abbrev pub invariant-loop-neighbour : goal.invariant-loop-neighbour
invariant-loop-neighbour l = Ranging (length l.faces.start.now - 1) (edges_of l.faces.edges.now) l.faces.start.now l.faces.near.now l.colouring l.labels l.region l.sector l.region l.low l.high (l.first + l.neighbour-index)
