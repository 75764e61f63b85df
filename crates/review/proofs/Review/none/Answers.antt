-- Over no sheet each count is 0, and there is no total.
use Rattle.std.proofs.Common.{refl}
use Rattle.review.specs.Review.{extreme_from, review_of}
use Rattle.review.proofs.Review.none.Goals as goal

pub returns : goal.returns
unfolding review_of extreme_from
returns c = refl
