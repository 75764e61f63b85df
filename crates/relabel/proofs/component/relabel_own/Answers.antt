-- The region is the only one that is looked at, and its sector is given back to all that is marked.
use mathlib.Core.Path.{◌∙◌}
use Rattle.relabel.specs.Sowing.{owning_next, owning_turn, owning_end}
use Rattle.relabel.proofs.component.relabel_own.Goals as goal

pub label_from-reach-requires : goal.label_from-reach-requires
label_from-reach-requires c = owning_next c.requires.counting c.requires.labels_len

pub returns : goal.returns
returns c = record { colouring_unchanged = c.restore.ensures ∙ (owning_turn c.requires.counting c.requires.labels_len c.label_from-reach.ensures).same; renewed = owning_end c.requires.counting c.requires.labels_len c.label_from-reach.ensures }
