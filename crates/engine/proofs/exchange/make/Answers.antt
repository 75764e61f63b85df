-- Regions of one sector change nothing; otherwise the colouring and the labels follow both recolourings, and then all else.
use Rattle.engine.specs.Memory.{kept-labels}
use Rattle.engine.specs.Turning.{turning_placed, turning_sides}
use Rattle.engine.specs.Swapping.{swapping_first}
use Rattle.engine.specs.Settling.{followed_settling, followed_remade}
use Rattle.engine.specs.Exchanging.{alike_remade, exchanging_kept, exchanging_swapping}
use Rattle.engine.proofs.exchange.make.Goals as goal

pub returns-then-from-to : goal.returns-then-from-to
returns-then-from-to c = alike_remade c.requires.exchanging c.if-from-to.true

pub sides_in-before-requires : goal.sides_in-before-requires
sides_in-before-requires c = turning_placed (swapping_first (exchanging_swapping c.requires.exchanging c.if-from-to.false)) (exchanging_kept c.requires.exchanging) c.requires.exchanging.ready.prices

pub turn_both-turned-requires-clause-before_value : goal.turn_both-turned-requires-clause-before_value
turn_both-turned-requires-clause-before_value c = turning_sides (swapping_first (exchanging_swapping c.requires.exchanging c.if-from-to.false)) (exchanging_kept c.requires.exchanging) c.requires.exchanging.ready.prices c.sides_in-before.ensures

pub turn_both-turned-requires-clause-labels_value : goal.turn_both-turned-requires-clause-labels_value
turn_both-turned-requires-clause-labels_value c = kept-labels (exchanging_kept c.requires.exchanging)

pub settle-settled-requires-clause-settling : goal.settle-settled-requires-clause-settling
settle-settled-requires-clause-settling c = followed_settling c.requires.exchanging.setting c.requires.exchanging.ready c.turn_both-turned.ensures

pub returns : goal.returns
returns c = followed_remade c.requires.exchanging.setting c.requires.exchanging.ready c.turn_both-turned.ensures c.settle-settled.ensures.left c.settle-settled.ensures.r_value
