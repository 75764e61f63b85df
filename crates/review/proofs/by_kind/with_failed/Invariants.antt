-- The kinds passed have what failed before and what fails in this sheet, and each turn stores the next.
use Rattle.std.proofs.Common.{◌+◌}
use Rattle.lists.specs.Sums.{at, up_to}
use Rattle.lists.specs.Loops.{Mapped}
use Rattle.meaning.specs.Plan.{most_kind}
use Rattle.review.specs.Review as review
use Rattle.review.proofs.by_kind.with_failed.Given as goal

abbrev pub invariant-loop-k : goal.invariant-loop-k
invariant-loop-k l = Mapped (λ kind. at l.failed kind + review.failing kind l.constraints l.verdicts) (up_to most_kind) l.k l.more
