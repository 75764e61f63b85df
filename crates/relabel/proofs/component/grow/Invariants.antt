-- Each turn is done with one region more of the queue, and after the last with all.
use Prim.Native.Nat.{◌-◌}
use lib.ListN.{length}
use Rattle.meaning.specs.Plan.{edges_of}
use Rattle.relabel.specs.Growing.{Growing}
use Rattle.relabel.proofs.component.grow.Given as goal

abbrev pub invariant-loop-h : goal.invariant-loop-h
invariant-loop-h l = Growing (length l.faces.start.now - 1) (edges_of l.faces.edges.now) l.faces.start.now l.faces.near.now l.sector l.initial.colouring l.initial.queue l.end l.colouring l.queue l.e l.h

abbrev pub decreases-loop-h : goal.decreases-loop-h
decreases-loop-h l = length l.faces.start.now - 1 - l.h
