-- Laws of how many of a list, and of how many of 1..n, pass a test.
-- Assumes nothing.
use Rattle.std.specs.Prelude.{ℕ, zero, suc, ◌+◌, ◌≤◌, ◌<◌, ◌≡◌, refl, List, [], ◌∷◌, ◌≢◌, ◌⊎◌, Bool, true, false, not, ◌&&◌, ◌||◌, eqb, length, get_or}
use Rattle.std.proofs.Common.{le_of_eq, le_of_suc-le-suc, not-suc-le-zero, arith, ap, ◌∙◌, inl, inr, eqb-true, eq-eqb, ne_eqb}
use mathlib.Mathlib.Data.Bool.Basic.{or_inl, or_inr}
use Rattle.lists.specs.Sums.{In, bit, up_to, count}
use Rattle.lists.specs.SumLaws.{length_from, few_bound, every_all, every_up_to, sum_same, sum-zero, sum-change}
use Rattle.lists.specs.Tests.{bit_le}

-- ---- of a list

module _ {A : Type 0} where
  -- some, where the one at an index does
  pub counts_some : (test : A → Bool) (xs : List A) (i : ℕ) (d : A) → i < length xs → test (get_or xs i d) ≡ true → 0 < count xs test
  counts_some test [] i d h t = absurd (not-suc-le-zero h)
  counts_some test (x ∷ xs) zero d h t = omega (arith, ap bit t)
  counts_some test (x ∷ xs) (suc i) d h t = omega (arith, counts_some test xs i d (le_of_suc-le-suc h) t)

  -- none, where none at any index does
  pub counts-none : (test : A → Bool) (xs : List A) (d : A) → ((i : ℕ) → i < length xs → test (get_or xs i d) ≡ false) → count xs test ≡ 0
  counts-none test [] d h = refl
  counts-none test (x ∷ xs) d h = omega (arith, ap bit (h 0 (omega arith)), counts-none test xs d (λ i l. h (suc i) (omega arith)))

  -- those that pass it and those that fail it are all
  pub count_parts : (test : A → Bool) (xs : List A) → count xs test + count xs (λ x. not (test x)) ≡ length xs
  count_parts test [] = refl
  count_parts test (x ∷ xs) = omega (arith, count_parts test xs, one (test x))
    where
      one : (b : Bool) → bit b + bit (not b) ≡ 1
      one true = refl
      one false = refl

  -- those that pass it pass another or fail that
  pub count_split : (p q : A → Bool) (xs : List A) → count xs (λ x. p x && q x) + count xs (λ x. p x && not (q x)) ≡ count xs p
  count_split p q [] = refl
  count_split p q (x ∷ xs) = omega (arith, count_split p q xs, one (p x) (q x))
    where
      one : (a b : Bool) → bit (a && b) + bit (a && not b) ≡ bit a
      one true true = refl
      one true false = refl
      one false b = refl

-- ---- of 1..n

-- tests that agree on 1..n count the same
pub count_same : (n : ℕ) (p q : ℕ → Bool) → ((u : ℕ) → In n u → p u ≡ q u) → count (up_to n) p ≡ count (up_to n) q
count_same n p q h = sum_same n (λ u. bit (p u)) (λ u. bit (q u)) (λ u i. ap bit (h u i))

-- a test that none of 1..n passes counts 0
pub count_none : (n : ℕ) (p : ℕ → Bool) → ((u : ℕ) → In n u → p u ≡ false) → count (up_to n) p ≡ 0
count_none n p h = sum-zero (up_to n) (λ u. bit (p u)) (every_up_to (λ u. bit (p u) ≡ 0) n (λ u i. ap bit (h u i)))

-- a test that one number passes more counts one more
pub count_more : (n m : ℕ) (p q : ℕ → Bool) → In n m → p m ≡ true → q m ≡ false → ((u : ℕ) → In n u → u ≢ m → p u ≡ q u)
    → count (up_to n) p ≡ count (up_to n) q + 1
count_more n m p q i t f h =
    omega (arith, sum-change n m (λ u. bit (p u)) (λ u. bit (q u)) i (λ u j ne. ap bit (h u j ne)), ap bit t, ap bit f)

-- the test p, which m passes too
abbrev pub also : ℕ → (ℕ → Bool) → ℕ → Bool
also m p u = eqb u m || p u

-- what passes it is m, or passes p
pub also_cases : (m : ℕ) (p : ℕ → Bool) (u : ℕ) → also m p u ≡ true → (u ≡ m) ⊎ (p u ≡ true)
also_cases m p u = go (eqb u m) refl
  where
    go : (t : Bool) → eqb u m ≡ t → t || p u ≡ true → (u ≡ m) ⊎ (p u ≡ true)
    go true e h = inl (eqb-true u m e)
    go false e h = inr h

-- m passes it
pub also-own : (m : ℕ) (p : ℕ → Bool) (u : ℕ) → u ≡ m → also m p u ≡ true
also-own m p u e = or_inl (eqb u m) (p u) (eq-eqb u m e)

-- and so does what passes p
pub also_old : (m : ℕ) (p : ℕ → Bool) (u : ℕ) → p u ≡ true → also m p u ≡ true
also_old m p u h = or_inr (eqb u m) (p u) h

-- it counts one more where m did not pass
pub count-also : (n m : ℕ) (p : ℕ → Bool) → In n m → p m ≡ false → count (up_to n) (also m p) ≡ count (up_to n) p + 1
count-also n m p i f =
    count_more n m (also m p) p i (also-own m p m refl) f (λ u j ne. ap (λ (t : Bool). t || p u) (ne_eqb u m ne))

-- a test that all pass counts all of 1..n
pub count-all : (n : ℕ) → count (up_to n) (λ u. true) ≡ n
count-all n = ones (up_to n) ∙ length_from 1 n
  where
    ones : (xs : List ℕ) → count xs (λ u. true) ≡ length xs
    ones [] = refl
    ones (x ∷ xs) = omega (arith, ones xs)

-- at most n of 1..n pass a test
pub count-le : (n : ℕ) (p : ℕ → Bool) → count (up_to n) p ≤ n
count-le n p =
    omega (arith, few_bound n 1 (up_to n) (λ u. bit (p u)) (le_of_eq (length_from 1 n)) (every_all (λ u. bit (p u) ≤ 1) (λ u. bit_le (p u)) (up_to n)))

-- fewer than n, where one of them fails it
pub count_less : (n m : ℕ) (p : ℕ → Bool) → In n m → p m ≡ false → count (up_to n) p < n
count_less n m p i f = omega (arith, count-also n m p i f, count-le n (also m p))
