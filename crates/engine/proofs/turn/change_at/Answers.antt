-- What stands in the work memory and beside it, what the look finds and what the flights gain and lose make the change; the look leaves the colouring as it was.
use Rattle.engine.specs.Memory.{kept-labels}
use Rattle.engine.specs.Turning.{turning_placed, turning_sides, turning_looking, turning_remembered, turning_remembers, turning_paying, turning_costs, turning_movable, turning_turns}
use Rattle.engine.proofs.turn.change_at.Goals as goal

pub sides_in-before-requires : goal.sides_in-before-requires
sides_in-before-requires c = turning_placed c.requires.turning c.requires.kept c.requires.paid.prices

pub look_at-look-requires : goal.look_at-look-requires
look_at-look-requires c = record { remembered = turning_remembered c.requires.turning c.requires.remembered; looking = turning_looking c.requires.turning; labels_value = kept-labels c.requires.kept }

pub paid-after-requires : goal.paid-after-requires
paid-after-requires c = let r = turning_paying c.requires.turning (turning_sides c.requires.turning c.requires.kept c.requires.paid.prices c.sides_in-before.ensures) c.requires.paid.limited in record { paying = r.0; passing = r.1 }

pub change_of-requires : goal.change_of-requires
change_of-requires c = turning_movable c.requires.turning (turning_sides c.requires.turning c.requires.kept c.requires.paid.prices c.sides_in-before.ensures) c.look_at-look.ensures.looked

pub returns : goal.returns
returns c =
    let before = turning_sides c.requires.turning c.requires.kept c.requires.paid.prices c.sides_in-before.ensures in
    let costs = turning_costs c.requires.turning c.requires.flown c.look_at-look.ensures.colouring_unchanged c.swing_at-dwell.ensures in
    let turns = turning_turns c.requires.turning before c.look_at-look.ensures.looked c.requires.paid.limited c.paid-after.ensures costs c.change_of.ensures in
    record { remembered = turning_remembers c.requires.turning c.look_at-look.ensures.remembered_2; turns = turns; colouring_after = c.look_at-look.ensures.colouring_unchanged }
