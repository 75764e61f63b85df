-- Laws of tests, and of how many of 1..n pass one.
-- Assumes nothing.
use Rattle.std.specs.Prelude.{ℕ, ◌+◌, ◌≤◌, ◌≡◌, refl, Bool, true, not, ◌&&◌, eqb}
use Rattle.std.proofs.Common.{arith, ap, eq-eqb, ne_eqb}
use Rattle.std.proofs.Math.Decide.{ℕ_discrete}
use Rattle.lists.specs.Sums.{In, bit, up_to, count}
use Rattle.lists.specs.Counts.{count_more}

-- the test that two numbers differ counts 0 where they are equal
pub differ_none : (a b : ℕ) → a ≡ b → bit (not (eqb a b)) ≡ 0
differ_none a b e = ap (λ (t : Bool). bit (not t)) (eq-eqb a b e)

-- the test p, which m does not pass
abbrev except : ℕ → (ℕ → Bool) → ℕ → Bool
except m p u = not (eqb u m) && p u

-- without a number that passes, one less does
count-except : (n m : ℕ) (p : ℕ → Bool) → In n m → p m ≡ true → count (up_to n) p ≡ count (up_to n) (except m p) + 1
count-except n m p i t =
    count_more n m p (except m p) i t (ap (λ (s : Bool). not s && p m) (eq-eqb m m refl)) (λ u j ne. rw (ne_eqb u m ne))

-- where at most one number passes, any two that pass are one
pub count_one : (n : ℕ) (p : ℕ → Bool) {a b : ℕ} → count (up_to n) p ≤ 1 → In n a → In n b → p a ≡ true → p b ≡ true → a ≡ b
count_one n p {a} {b} few i j s t = go (ℕ_discrete b a)
  where
    go : Dec (b ≡ a) → a ≡ b
    go (yes e) = rw e
    go (no ne) = absurd (omega (arith, count-except n a p i s, count-except n b (except a p) j (rw (ne_eqb b a ne) t)))
