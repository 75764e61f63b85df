-- Each turn labels the component of the next region if it has no label yet, and after the last all have theirs.
use Prim.Native.Nat.{◌-◌}
use lib.ListN.{length}
use Rattle.meaning.specs.Plan.{edges_of}
use Rattle.relabel.specs.Labelling.{Labelling}
use Rattle.relabel.proofs.label_all.Given as goal

abbrev pub invariant-loop-v : goal.invariant-loop-v
invariant-loop-v l = Labelling (length l.faces.start.now - 1) (edges_of l.faces.edges.now) l.faces.start.now l.faces.near.now l.initial.colouring l.initial.queue l.colouring l.labels l.queue l.v
