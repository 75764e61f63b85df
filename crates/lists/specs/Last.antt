-- One more at the end of a list: what every list has, sums and counts.
-- Assumes nothing.
use Rattle.std.specs.Prelude.{ℕ, ◌+◌, ◌≡◌, Bool, true, false, List, [], ◌∷◌, ◌++◌}
use Rattle.std.proofs.Common.{arith, ap, append-nil}
use Rattle.std.proofs.Math.Seq.{append_snoc}
use Rattle.lists.specs.Sums.{bit, sum, count}
use Rattle.lists.specs.SumLaws.{sum-append}

module _ {A : Type 0} where
  -- what the empty list has, and a list with one more wherever the list has it, every list has
  pub by_last : (P : List A → Type 0) → P [] → ((xs : List A) (x : A) → P xs → P (xs ++ (x ∷ []))) → (xs : List A) → P xs
  by_last P none more xs = go [] xs none
    where
      go : (done left : List A) → P done → P (done ++ left)
      go done [] p = rw (append-nil done) p
      go done (x ∷ left) p = rw append_snoc at (go (done ++ (x ∷ [])) left (more done x p))

  -- its term comes to the sum
  pub sum_end : (f : A → ℕ) (xs : List A) (x : A) → sum (xs ++ (x ∷ [])) f ≡ sum xs f + f x
  sum_end f xs x = omega (arith, sum-append xs (x ∷ []) f)

  module _ (test : A → Bool) (xs : List A) (x : A) where
    -- it counts where it passes a test
    pub count_yes : test x ≡ true → count (xs ++ (x ∷ [])) test ≡ count xs test + 1
    count_yes e = omega (arith, sum_end (λ y. bit (test y)) xs x, ap bit e)

    -- and not where it fails it
    pub count_no : test x ≡ false → count (xs ++ (x ∷ [])) test ≡ count xs test
    count_no e = omega (arith, sum_end (λ y. bit (test y)) xs x, ap bit e)
