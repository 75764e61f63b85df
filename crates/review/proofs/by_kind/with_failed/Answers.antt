-- The kinds passed have what failed before and what fails in this sheet, and each turn stores the next.
use Rattle.std.proofs.Common.{◌≡◌, ◌+◌, ◌-◌, arith}
use Rattle.lists.specs.SumLaws.{get_or_bound}
use Rattle.lists.specs.ListLaws.{drop-up_to}
use Rattle.lists.specs.Loops.{mapped_turn, mapped_end}
use Rattle.review.specs.Next.{with_failed}
use Rattle.review.specs.Bounds.{failing_most}
use Rattle.review.proofs.by_kind.with_failed.Goals as goal

pub overflow_add-more : goal.overflow_add-more
overflow_add-more c =
    omega (
      arith,
      c.failing.ensures,
      get_or_bound c.args.failed c.loop-k.k c.requires.every,
      failing_most (c.loop-k.k + 1) c.args.constraints.now c.args.verdicts.now,
      c.requires.constraint_length_len_bound,
    )

pub loop-k-preserved : goal.loop-k-preserved
loop-k-preserved c =
    let e : c.loop-k.k + 1 - 1 ≡ c.loop-k.k = omega arith in
    mapped_turn c.loop-k.invariant (drop-up_to _ c.loop-k.k c.loop-k-test.true) (rw (e, c.failing.ensures))

pub returns : goal.returns
unfolding with_failed
returns c = mapped_end c.loop-k.invariant (omega arith)
