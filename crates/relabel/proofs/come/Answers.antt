-- Where the labels beside the region are one only its own is new, and otherwise its component is labelled anew.
use native.Mathlib.Omega.{arith}
use mathlib.Core.Path.{refl, sym, ◌∙◌}
use Rattle.relabel.specs.Differing.{differing-set}
use Rattle.relabel.specs.Lifting.{coming_size, coming_range, coming_still, coming_next, coming_end}
use Rattle.relabel.proofs.come.Goals as goal

pub labels_beside-beside-requires : goal.labels_beside-beside-requires
labels_beside-beside-requires c = coming_range c.requires

pub bounds-labels-z : goal.bounds-labels-z
bounds-labels-z c = omega (arith, coming_size c.requires, c.requires.lifted.counting.region)

pub bounds-labels-z-then-beside-label : goal.bounds-labels-z-then-beside-label
bounds-labels-z-then-beside-label c = omega (arith, coming_size c.requires, c.requires.lifted.counting.region)

pub returns-then-beside-label : goal.returns-then-beside-label
returns-then-beside-label c = record { colouring_after = refl; labels_after = coming_still c.requires c.labels_beside-beside.ensures c.if-beside-label.true; value = c.differ-n.ensures.value ∙ sym (differing-set _ _ (coming_size c.requires) c.requires.lifted.counting.region) }

pub relabel_own-requires : goal.relabel_own-requires
relabel_own-requires c = record { counting = coming_next c.requires; labels_len = coming_size c.requires }

pub returns : goal.returns
returns c = record { colouring_after = c.relabel_own.ensures.colouring_unchanged; labels_after = coming_end c.requires c.relabel_own.ensures.renewed; value = c.relabel_own.ensures.renewed.number }
