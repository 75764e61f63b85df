-- The loop goes through the row up to place j, and its two sums with what comes after make the whole areas.
use Prim.Native.Nat.{◌-◌}
use lib.ListN.{length}
use Rattle.meaning.specs.Plan.{edges_of}
use Rattle.search.specs.Weighing.{Towards}
use Rattle.search.proofs.areas_of.Given as goal

abbrev pub invariant-loop-j : goal.invariant-loop-j
invariant-loop-j l = Towards (length l.faces.start.now - 1) (edges_of l.faces.edges.now) l.faces.start.now l.faces.near.now l.faces.areas.now l.colouring l.region l.own l.here l.j × Towards (length l.faces.start.now - 1) (edges_of l.faces.edges.now) l.faces.start.now l.faces.near.now l.faces.areas.now l.colouring l.region l.sector l.there l.j
