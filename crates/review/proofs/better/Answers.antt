-- The new total is taken where none is known, or where it goes before the known one; else the known one stays.
use Rattle.std.proofs.Common.{sym, ◌∙◌}
use Rattle.review.specs.Review.{better}
use Rattle.review.proofs.better.Goals as goal
use Rattle.review.proofs.better.Goals.{in_default, in_default-2}

pub returns-in-Some : goal.returns-in-Some
unfolding better
returns-in-Some g c = λ before says.
    rw (c.in-Some.is, sym (says _ _ _ c.goes_before.ensures) ∙ c.if-not-goes_before.true)

pub returns : goal.returns
unfolding better
returns g c = λ before says.
    elim c.match-known.branch [
      | in_default-2 w ↦ rw (w.result-is, w.in-Some.is, sym (says _ _ _ w.goes_before.ensures) ∙ w.if-not-goes_before.false)
      | in_default w ↦ rw (w.result-is, w.in_default.is)
    ]
