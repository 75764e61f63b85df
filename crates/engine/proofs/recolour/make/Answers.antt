-- A region given to its own sector changes nothing; given to another, the colouring and the labels follow the change, and then all else.
use Rattle.engine.specs.Memory.{kept-labels}
use Rattle.engine.specs.Turning.{turning_placed, turning_sides}
use Rattle.engine.specs.Settling.{followed_settling, followed_remade}
use Rattle.engine.specs.Recolouring.{still_remade, recolouring-kept, recolouring_turning}
use Rattle.engine.proofs.recolour.make.Goals as goal

pub returns-then-own-sector : goal.returns-then-own-sector
returns-then-own-sector c = still_remade c.requires.recolouring c.if-own-sector.true

pub sides_in-before-requires : goal.sides_in-before-requires
sides_in-before-requires c = turning_placed (recolouring_turning c.requires.recolouring c.if-own-sector.false) (recolouring-kept c.requires.recolouring) c.requires.recolouring.ready.prices

pub turn-turned-requires : goal.turn-turned-requires
turn-turned-requires c =
    let t = recolouring_turning c.requires.recolouring c.if-own-sector.false in
    let kept = recolouring-kept c.requires.recolouring in
    record { limited_value = c.requires.sorted.limited; turning = t; before_value = turning_sides t kept c.requires.recolouring.ready.prices c.sides_in-before.ensures; labels_value = kept-labels kept; flown = c.requires.flown }

pub settle-settled-requires : goal.settle-settled-requires
settle-settled-requires c = record { shared_value = c.requires.sorted.shared; settling = followed_settling c.requires.recolouring.setting c.requires.recolouring.ready c.turn-turned.ensures.followed }

pub returns : goal.returns
returns c = followed_remade c.requires.recolouring.setting c.requires.recolouring.ready c.turn-turned.ensures.followed c.settle-settled.ensures.left c.settle-settled.ensures.r_value
