-- Each turn labels the component of the next neighbour if it shows the sector, and after the last none shows it.
use Prim.Native.Nat.{◌+◌, ◌-◌}
use lib.ListN.{length}
use Rattle.meaning.specs.Plan.{edges_of}
use Rattle.relabel.specs.Repairing.{Repairing}
use Rattle.relabel.proofs.component.relabel_pieces.Given as goal

abbrev pub invariant-loop-neighbour : goal.invariant-loop-neighbour
invariant-loop-neighbour l = Repairing (length l.faces.start.now - 1) (edges_of l.faces.edges.now) l.faces.start.now l.faces.near.now l.initial.colouring l.initial.queue l.region l.sector l.initial.labels l.colouring l.labels l.queue l.e l.relabelled (l.first + l.neighbour-index)
