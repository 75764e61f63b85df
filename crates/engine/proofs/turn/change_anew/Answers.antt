-- What the two sectors have, what the look finds and what the flights gain and lose make the change; the look leaves the colouring as it was.
use Rattle.engine.specs.Turning.{turning_paying, turning_costs, turning_movable, turning_turns}
use Rattle.engine.proofs.turn.change_anew.Goals as goal

pub paid-after-requires : goal.paid-after-requires
paid-after-requires c = let r = turning_paying c.requires.turning c.requires.before_value c.requires.limited_value in record { paying = r.0; passing = r.1 }

pub change_of-requires : goal.change_of-requires
change_of-requires c = turning_movable c.requires.turning c.requires.before_value c.look_anew-look.ensures.looked

pub returns : goal.returns
returns c =
    let costs = turning_costs c.requires.turning c.requires.flown c.look_anew-look.ensures.colouring_unchanged c.swing_at-dwell.ensures in
    record { turns = turning_turns c.requires.turning c.requires.before_value c.look_anew-look.ensures.looked c.requires.limited_value c.paid-after.ensures costs c.change_of.ensures; colouring_after = c.look_anew-look.ensures.colouring_unchanged }
