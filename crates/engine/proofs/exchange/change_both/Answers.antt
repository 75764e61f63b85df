-- The second is looked at on the colouring that the first makes, so the two changes make one; then the first is given back.
use mathlib.Core.Path.{◌∙◌}
use Rattle.engine.specs.Swapping.{swapping_between, swapping_back, swapping_addable, swapping_changed}
use Rattle.engine.proofs.exchange.change_both.Goals as goal

pub in_turn-requires : goal.in_turn-requires
in_turn-requires c = swapping_addable c.requires.swapping (swapping_between c.requires.swapping c.change_at-once.ensures.colouring_after) c.change_at-once.ensures.turns c.change_anew-twice.ensures.turns

pub returns : goal.returns
returns c =
    let mid = swapping_between c.requires.swapping c.change_at-once.ensures.colouring_after in
    record { remembered = c.change_at-once.ensures.remembered; changed = rw c.in_turn.ensures (swapping_changed c.requires.swapping mid c.change_at-once.ensures.turns c.change_anew-twice.ensures.turns); colouring_after = swapping_back c.requires.swapping (c.change_anew-twice.ensures.colouring_after ∙ mid) }
