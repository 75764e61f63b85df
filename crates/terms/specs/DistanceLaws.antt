-- What the distance of document 01, "Meaning of the four kinds", tells: it is 0 exactly where the relation holds, and how large it gets.
-- Assumes nothing.
use Rattle.std.specs.Prelude.{ℕ, ◌+◌, ◌≤◌, ◌≡◌, refl, ◌↔◌, Bool, true, false, cond, not, eqb}
use Rattle.std.proofs.Common.{arith}
use Rattle.std.proofs.lemmas.Bool.{false≢true}
use borrow.Author.Tests.{eqb-true, eq-eqb, leb-true, le-leb, ltb-true, lt-ltb}
use Rattle.lists.specs.Tests.{cond-le, test-same}
use Rattle.terms.specs.Distance.{stands, distance}

-- one of two numbers, each 0 exactly when its test passes
cond-zero : (t : Bool) {a b : ℕ} {p q : Bool} → (a ≡ 0 ↔ p ≡ true) → (b ≡ 0 ↔ q ≡ true) → cond t a b ≡ 0 ↔ cond t p q ≡ true
cond-zero true h k = h
cond-zero false h k = k

-- 1 for a test that passes: 0 exactly when it fails
not-zero : (t : Bool) → cond {A = ℕ} t 1 0 ≡ 0 ↔ not t ≡ true
not-zero true = (λ e. absurd (omega arith), λ e. absurd (false≢true e))
not-zero false = (λ e. refl, λ e. refl)

module _ (relation x t : ℕ) where
  -- x stands in the relation to t exactly when its distance is 0
  pub distance-zero : distance relation x t ≡ 0 ↔ stands relation x t ≡ true
  unfolding distance stands
  distance-zero =
      cond-zero (eqb relation 1) (omega (arith, leb-true, le-leb))
      (cond-zero (eqb relation 2) (omega (arith, ltb-true, lt-ltb))
      (cond-zero (eqb relation 3) (omega (arith, eqb-true, eq-eqb))
      (cond-zero (eqb relation 4) (not-zero (eqb x t))
      (cond-zero (eqb relation 5) (omega (arith, ltb-true, lt-ltb))
      (omega (arith, leb-true, le-leb))))))

  -- a distance is at most x + t + 1
  pub distance_bound : distance relation x t ≤ x + t + 1
  unfolding distance
  distance_bound =
      cond-le (eqb relation 1) (omega arith)
      (cond-le (eqb relation 2) (omega arith)
      (cond-le (eqb relation 3) (omega arith)
      (cond-le (eqb relation 4) (cond-le (eqb x t) (omega arith) (omega arith))
      (cond-le (eqb relation 5) (omega arith) (omega arith)))))

-- x stands in the relation to t exactly where the test of its distance for 0 passes
pub distance-stands : (relation x t : ℕ) → eqb (distance relation x t) 0 ≡ stands relation x t
distance-stands relation x t =
    test-same _ _ (λ h. (distance-zero relation x t).0 (eqb-true _ 0 h)) (λ h. eq-eqb _ 0 ((distance-zero relation x t).1 h))
