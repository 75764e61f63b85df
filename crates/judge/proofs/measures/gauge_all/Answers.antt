-- What is passed has its gauge, and each turn stores the next.
use Prim.Native.Nat.{◌<◌}
use native.Mathlib.Omega.{arith}
use mathlib.Core.Path.{sym, ◌∙◌}
use borrow.Author.Rules.{rules}
use lib.ListN.{length-set}
use Rattle.lists.specs.ListLaws.{length-list_of, drop-list_of}
use Rattle.lists.specs.Loops.{mapped_start, mapped_turn, mapped_end}
use Rattle.meaning.specs.Plan.{constraints_of, ConstraintLimits}
use Rattle.kinds.specs.Constraints.{constraint_every}
use Rattle.judge.specs.Figures.{constraint_count, gauge_by, gauges_by}
use Rattle.judge.specs.Small.{unweighted-limits}
use Rattle.judge.proofs.measures.gauge_all.Goals as goal

pub loop-k-init : goal.loop-k-init
unfolding constraints_of
loop-k-init c = (search rules, mapped_start (c.requires.gauges_len ∙ sym (length-list_of _ _)))

pub gauge_of-requires : goal.gauge_of-requires
gauge_of-requires c =
    let h : c.loop-k.k < constraint_count c.args.constraints.now = omega arith in
    record { few = c.requires.few; constraint_limits = rw c.at.ensures (unweighted-limits (constraint_every _ h ConstraintLimits c.requires.every)) }

pub loop-k-preserved : goal.loop-k-preserved
unfolding constraints_of gauge_by
loop-k-preserved c =
    let h : c.loop-k.k < constraint_count c.args.constraints.now = omega arith in (
      simp length-set c.loop-k.invariant.0,
      mapped_turn c.loop-k.invariant.1 (drop-list_of _ _ c.loop-k.k h) (rw c.at.ensures at c.gauge_of.ensures),
    )

pub shape_of-gauges : goal.shape_of-gauges
shape_of-gauges c = c.loop-k.invariant.0

pub returns : goal.returns
unfolding gauges_by constraints_of
returns c = mapped_end c.loop-k.invariant.1 (rw length-list_of (omega arith))
