-- Each turn labels the component of the next region if it has no label yet, and after the last all have theirs.
use Rattle.relabel.specs.Labelling.{labelling_past, labelling_turn, labelling_end}
use Rattle.relabel.proofs.label_all.Goals as goal
use Rattle.relabel.proofs.label_all.Goals.{then-labels-v-eq0, else-labels-v-eq0}

pub loop-v-preserved : goal.loop-v-preserved
loop-v-preserved c =
    elim c.if-labels-v-eq0.branch [
      | then-labels-v-eq0 w ↦ rw (w.colouring-is, w.labels-is, w.queue-is) (labelling_turn c.loop-v.invariant c.loop-v-test.true w.relabel_own.ensures.colouring_unchanged w.relabel_own.auto.queue w.relabel_own.ensures.renewed)
      | else-labels-v-eq0 w ↦ rw (w.colouring-is, w.labels-is, w.queue-is) (labelling_past c.loop-v.invariant c.loop-v-test.true w.if-labels-v-eq0.false)
    ]

pub returns : goal.returns
returns c = record { colouring_unchanged = c.loop-v.invariant.same; labels_after = labelling_end c.loop-v.invariant c.loop-v-test.false }
