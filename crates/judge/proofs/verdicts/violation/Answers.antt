-- Each arm settles the kind, and with it what is due to it.
use Prim.Native.Nat.{◌+◌}
use native.Mathlib.Omega.{arith}
use mathlib.Core.Bool.{not}
use mathlib.Core.Path.{sym, ap, ◌∙◌}
use Rattle.lists.specs.Tests.{bit_le}
use Rattle.terms.specs.Distance.{stands}
use Rattle.meaning.proofs.Holds.{by_kind_1, by_kind_2, by_kind_3, by_kind_late}
use Rattle.judge.specs.Figures.{violation_by}
use Rattle.judge.proofs.verdicts.violation.Goals as goal

pub overflow_add-result : goal.overflow_add-result
overflow_add-result c = omega (arith, c.missed.ensures, bit_le (not (stands c.args.constraint.relation c.args.figures.components c.args.constraint.limit)))

pub returns-in-1 : goal.returns-in-1
unfolding violation_by
returns-in-1 c =
    ap (λ n. n + c.args.figures.excess) c.missed.ensures
    ∙ sym (by_kind_1 _ _ _ _ _ c.in-1.is)

pub returns-in-2 : goal.returns-in-2
unfolding violation_by
returns-in-2 c = c.saturating_sub.ensures ∙ sym (by_kind_2 _ _ _ _ _ c.in-2.is)

pub returns-in-3 : goal.returns-in-3
unfolding violation_by
returns-in-3 c = c.saturating_sub-in-3.ensures ∙ sym (by_kind_3 _ _ _ _ _ c.in-3.is)

pub returns-in_default : goal.returns-in_default
unfolding violation_by
returns-in_default c = sym (by_kind_late _ _ _ _ (omega arith) (omega arith))
