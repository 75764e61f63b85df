-- Each turn turns the next constraint.
use Rattle.std.proofs.Common.{◌≡◌, ◌+◌, ◌*◌, ◌∙◌, arith, set, get_or, sym}
use Rattle.std.proofs.lemmas.List.Edits.{swap_is}
use Rattle.meaning.specs.Plan.{constraint_length}
use Rattle.form.proofs.TurningLaws.{turning_more, turning_end}
use Rattle.form.proofs.turning.turn.Goals as goal

pub loop-k-preserved : goal.loop-k-preserved
loop-k-preserved c =
    let at = constraint_length * c.loop-k.k in
    let xs = c.loop-k.constraints in
    let next : constraint_length * (c.loop-k.k + 1) ≡ at + constraint_length = omega arith in
    let swapped : c.swap.new.self ≡ set (set xs (at + 2) (get_or xs (at + 3) 0)) (at + 3) (get_or xs (at + 2) 0) = c.swap.ensures.after ∙ sym (swap_is xs (at + 2) (at + 3) 0 (omega arith) (omega arith)) in
    rw (next, swapped) (turning_more c.loop-k.invariant (omega (arith, c.loop-k-test.true, c.loop-k.invariant.size)))

pub returns : goal.returns
returns c = turning_end c.loop-k.invariant (omega (arith, c.loop-k-test.false, c.loop-k.invariant.size))
