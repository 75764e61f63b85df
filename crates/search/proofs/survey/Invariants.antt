-- The loop goes through the row up to place j: its two sums with what comes after make the whole areas, and the labels so far lie between low and high.
use Prim.Native.Nat.{◌-◌}
use lib.ListN.{length}
use Rattle.meaning.specs.Plan.{edges_of}
use Rattle.search.specs.Ranging.{Ranging}
use Rattle.search.specs.Weighing.{Towards}
use Rattle.search.proofs.survey.Given as goal

abbrev pub invariant-loop-j : goal.invariant-loop-j
invariant-loop-j l = Towards (length l.faces.start.now - 1) (edges_of l.faces.edges.now) l.faces.start.now l.faces.near.now l.faces.areas.now l.colouring l.region l.own l.here l.j
    × (Towards (length l.faces.start.now - 1) (edges_of l.faces.edges.now) l.faces.start.now l.faces.near.now l.faces.areas.now l.colouring l.region l.sector l.there l.j
    × Ranging (length l.faces.start.now - 1) (edges_of l.faces.edges.now) l.faces.start.now l.faces.near.now l.colouring l.labels l.region l.sector (length l.colouring) l.low l.high l.j)
