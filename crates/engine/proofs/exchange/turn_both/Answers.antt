-- Each recolouring is made in turn, so the two changes make one, and the labels kept from before are compared with those after both.
use native.Mathlib.Omega.{arith}
use mathlib.Core.Path.{sym, ◌∙◌}
use lib.Seq.{length-take-le}
use Rattle.engine.specs.Turning.{followed_turns}
use Rattle.engine.specs.Swapping.{swapping_addable, swapping_size, swapping_followed}
use Rattle.engine.proofs.exchange.turn_both.Goals as goal

pub copy-requires : goal.copy-requires
copy-requires c = omega (arith, swapping_size c.requires.swapping c.requires.labels_value, c.requires.swapping.basis.limits.R)

pub differing-requires : goal.differing-requires
differing-requires c =
    length-take-le _ c.copy.new.to (omega (arith, c.copy.auto.to, c.requires.swapping.basis.limits.R))
    ∙ sym (c.turn-twice.auto.labels ∙ c.turn-once.auto.labels ∙ swapping_size c.requires.swapping c.requires.labels_value)

pub together-requires : goal.together-requires
together-requires c = swapping_addable c.requires.swapping c.turn-once.ensures.followed.colouring (followed_turns c.turn-once.ensures.followed c.turn-once.ensures.single) (followed_turns c.turn-twice.ensures.followed c.turn-twice.ensures.single)

pub returns : goal.returns
returns c = swapping_followed c.requires.swapping c.requires.labels_value c.turn-once.ensures.followed _ c.turn-twice.ensures.followed c.turn-once.ensures.single c.turn-twice.ensures.single c.copy.ensures c.differing.ensures (c.together.ensures.change_value, c.together.ensures.relabelled_value)
