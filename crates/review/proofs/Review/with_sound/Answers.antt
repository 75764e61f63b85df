-- The figures are those of the callees, and the two counts that grow stay small.
use Rattle.std.proofs.Common.{◌≡◌, Bool, true, false, refl, rules}
use Rattle.std.specs.Int.{from_bool}
use Rattle.lists.specs.Sums.{bit}
use Rattle.review.specs.Review.{smaller, larger}
use Rattle.review.specs.Next.{with_sound}
use Rattle.review.proofs.Review.with_sound.Goals as goal

bit_from : (b : Bool) → from_bool b ≡ bit b
bit_from true = refl
bit_from false = refl

pub returns : goal.returns
unfolding with_sound
returns c =
    rw (
      c.from.ensures,
      bit_from,
      c.better-self.ensures smaller (λ x y b h. search rules),
      c.better-self-2.ensures larger (λ x y b h. search rules),
    )
