-- The refused sheets are one more, and all else stays.
use Rattle.std.proofs.Common.{refl}
use Rattle.review.specs.Next.{with_refused}
use Rattle.review.proofs.Review.with_refused.Goals as goal

pub returns : goal.returns
unfolding with_refused
returns c = refl
