-- What the region meets and the pieces that are found as the labels follow make a look, and with what the two sectors have and the flights gain and lose they make the change.
use Rattle.search.specs.Looking.{looked_both}
use Rattle.engine.specs.Turning.{turning_labels, turning_paying, turning_costs, turning_movable, turning_turns, turning_followed}
use Rattle.engine.proofs.turn.turn.Goals as goal

pub paid-after-requires : goal.paid-after-requires
paid-after-requires c = let r = turning_paying c.requires.turning c.requires.before_value c.requires.limited_value in record { paying = r.0; passing = r.1 }

pub recolour-labelled-requires : goal.recolour-labelled-requires
recolour-labelled-requires c = turning_labels c.requires.turning c.meet-met.ensures.colouring_unchanged c.meet-met.auto.queue c.requires.labels_value

pub change_of-change-requires : goal.change_of-change-requires
change_of-change-requires c = turning_movable c.requires.turning c.requires.before_value (looked_both c.meet-met.ensures.colouring_unchanged c.meet-met.ensures.meets c.recolour-labelled.ensures.pieces_value)

pub returns : goal.returns
returns c =
    let costs = turning_costs c.requires.turning c.requires.flown c.meet-met.ensures.colouring_unchanged c.swing_at-dwell.ensures in
    let turns = turning_turns c.requires.turning c.requires.before_value (looked_both c.meet-met.ensures.colouring_unchanged c.meet-met.ensures.meets c.recolour-labelled.ensures.pieces_value) c.requires.limited_value c.paid-after.ensures costs c.change_of-change.ensures in
    record { followed = turning_followed c.requires.turning c.meet-met.ensures.colouring_unchanged c.requires.labels_value c.recolour-labelled.ensures.colouring_after c.recolour-labelled.ensures.labels_after c.recolour-labelled.ensures.relabelled_value turns; single = turns.single }
