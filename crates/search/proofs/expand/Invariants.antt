-- The loop goes through the neighbours up to place j: none of them shows the sector any longer, and each that did is marked and in the queue.
use Prim.Native.Nat.{◌-◌}
use lib.ListN.{length}
use Rattle.meaning.specs.Plan.{edges_of}
use Rattle.search.specs.Expanding.{Expanding}
use Rattle.search.proofs.expand.Given as goal

abbrev pub invariant-loop-j : goal.invariant-loop-j
invariant-loop-j l = Expanding (length l.faces.start.now - 1) (edges_of l.faces.edges.now) l.faces.start.now l.faces.near.now l.sector l.initial.colouring l.initial.queue l.end l.region l.colouring l.queue l.e l.j
