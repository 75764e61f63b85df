-- Document 02, C-22: a refused sheet counts only as refused, wherever it stands.
-- Assumes nothing.
use Rattle.std.specs.Prelude.{ℕ, suc, ◌≡◌, Bool, cond, Option, None, Some}
use Rattle.std.proofs.Common.{ap}
use Rattle.std.proofs.Math.Path.{refl, sym}
use Rattle.std.proofs.Math.Bool.{true, false}
use Rattle.std.proofs.lemmas.Bool.{false≢true}
use mathlib.Core.List.{List, [], ◌∷◌}
use borrow.Author.Tests.{eqb-false}
use Rattle.lists.specs.Sums.{bit, passing}
use Rattle.lists.specs.ListLaws.{table_same}
use Rattle.lists.specs.Passing.{sum-passing}
use Rattle.meaning.specs.Plan.{most_kind}
use Rattle.judgement.specs.Promise.{code, total_of}
use Rattle.review.specs.declared.Extreme.{Extreme}
use Rattle.review.specs.declared.Review.{Review}
use Rattle.review.specs.Review.{sound, zero_total, failed_in, extreme, shown, better, extreme_from, smaller, larger, review_of}
use Rattle.review.specs.Next.{refused-none_failed}

-- ---- the totals

-- there are both, and they have the same total, or there is neither
data Alike : Option Extreme → Option Extreme → Type 0 where
  neither : Alike None None
  both : {x y : Extreme} → x.total ≡ y.total → Alike (Some x) (Some y)

-- so the same total is shown
alike-shown : {x y : Option Extreme} → Alike x y → (shown x).total ≡ (shown y).total
alike-shown neither = refl
alike-shown (both e) = e

module _ (before : ℕ → ℕ → Bool) where
  -- so they are with one more total, whatever its places
  alike-better : {x y : Option Extreme} (total p q : ℕ) → Alike x y → Alike (better before x total p) (better before y total q)
  unfolding better
  alike-better total p q neither = both refl
  alike-better total p q (both {x} {y} e) = go (before total x.total) (before total y.total) (ap (before total) e)
    where
      go : (b c : Bool) → b ≡ c → Alike (cond b (Some (extreme total p)) (Some x)) (cond c (Some (extreme total q)) (Some y))
      go true true h = both refl
      go true false h = absurd (false≢true (sym h))
      go false true h = absurd (false≢true h)
      go false false h = both e

  -- so the total goes by the sheets that are read soundly
  alike-passing : {x y : Option Extreme} (p q : ℕ) (ss : List (List ℕ)) → Alike x y → Alike (extreme_from before x p (passing sound ss)) (extreme_from before y q ss)
  unfolding passing extreme_from
  alike-passing {x = x} {y = y} p q [] a = a
  alike-passing {x = x} {y = y} p q (s ∷ ss) a =
      go (sound s) refl
      (alike-passing {x = better before x (total_of s) p} {y = better before y (total_of s) q} (suc p) (suc q) ss (alike-better (total_of s) p q a))
      (alike-passing {x = x} {y = y} p (suc q) ss a)
    where
      rest : List (List ℕ)
      rest = passing sound ss

      go : (b : Bool) → sound s ≡ b
          → Alike (extreme_from before (better before x (total_of s) p) (suc p) rest) (extreme_from before (better before y (total_of s) q) (suc q) ss)
          → Alike (extreme_from before x p rest) (extreme_from before y (suc q) ss)
          → Alike (extreme_from before x p (cond b (s ∷ rest) rest)) (extreme_from before (cond b (better before y (total_of s) q) y) (suc q) ss)
      go true e taken left = rw (extreme_from, e) taken
      go false e taken left = left

-- ---- the figures

-- two figures that differ at most in what is refused, and in places
pub record SameButRefused (r q : Review) : Type 0 where
  pub sound : r.sound ≡ q.sound
  pub zero : r.zero ≡ q.zero
  pub failed : r.failed ≡ q.failed
  pub smallest : (shown r.smallest).total ≡ (shown q.smallest).total
  pub largest : (shown r.largest).total ≡ (shown q.largest).total

-- the figures over all sheets are so those over the ones that are read soundly
pub refused_only : (sheets : List (List ℕ)) → SameButRefused (review_of (passing sound sheets)) (review_of sheets)
unfolding review_of
refused_only sheets =
    record {
      sound = sum-passing sound (λ s. bit (sound s)) (λ s e. ap bit e) sheets;
      zero = sum-passing sound (λ s. bit (zero_total s)) (λ s e. rw e) sheets;
      failed = table_same most_kind _ _ (λ kind i. sum-passing sound (failed_in kind) (λ s e. refused-none_failed s (eqb-false (code s) 0 e) kind) sheets);
      smallest = alike-shown (alike-passing smaller 1 1 sheets neither);
      largest = alike-shown (alike-passing larger 1 1 sheets neither);
    }
