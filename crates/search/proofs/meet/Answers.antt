-- Where the labels of the neighbours there are one or none, so are the components; otherwise they are counted, and what is added up is what the region meets.
use mathlib.Core.Path.{refl, ◌∙◌}
use Rattle.neighbours.specs.Net.{table_net}
use Rattle.search.specs.Touches.{beside_few}
use Rattle.search.specs.Looking.{looking_counting, looking_meets}
use Rattle.search.proofs.meet.Goals as goal

pub returns-then-seen : goal.returns-then-seen
returns-then-seen c =
    let few = beside_few _ (table_net c.requires.looking.table) c.requires.looking.size c.requires.labels_value c.survey-seen.ensures.ranged c.if-seen.true in
    record { meets = looking_meets c.requires.looking refl (c.min.ensures ∙ few) (c.survey-seen.ensures.here_value, c.survey-seen.ensures.there_value); colouring_unchanged = refl }

pub touching-joined-requires : goal.touching-joined-requires
touching-joined-requires c = record { counting = looking_counting c.requires.looking; labels_value = c.requires.labels_value }

pub returns : goal.returns
returns c = record { meets = looking_meets c.requires.looking refl c.touching-joined.ensures.value (c.survey-seen.ensures.here_value, c.survey-seen.ensures.there_value); colouring_unchanged = c.touching-joined.ensures.colouring_unchanged }
