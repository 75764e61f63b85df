-- The loop goes through the neighbours up to place j: what is marked is the labels of those of the sector, and nothing else.
use Prim.Native.Nat.{◌-◌}
use lib.ListN.{length}
use Rattle.meaning.specs.Plan.{edges_of}
use Rattle.search.specs.Touches.{Touching}
use Rattle.search.proofs.touching.Given as goal

abbrev pub invariant-loop-j : goal.invariant-loop-j
invariant-loop-j l = Touching (length l.faces.start.now - 1) (edges_of l.faces.edges.now) l.faces.start.now l.faces.near.now l.labels l.initial.colouring l.initial.queue l.region l.sector l.colouring l.queue l.e l.j
