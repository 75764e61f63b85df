-- Laws of tests and of values that a test picks.
-- Assumes nothing.
use Rattle.std.specs.Prelude.{ℕ, ◌+◌, ◌≤◌, ◌≡◌, refl, ◌≢◌, ◌⊎◌, ◌↔◌, Bool, true, false, cond, not, ◌&&◌, ◌||◌, eqb}
use Rattle.std.proofs.Common.{arith, sym, inl, inr, eqb-true, eq-eqb}
use Rattle.std.proofs.Math.Bool.{and-eq-true_iff}
use Rattle.std.proofs.lemmas.Bool.{eqb-false}
use Rattle.lists.specs.Sums.{bit}

-- one of two numbers that are at most B
pub cond-le : (t : Bool) {a b B : ℕ} → a ≤ B → b ≤ B → cond t a b ≤ B
cond-le true h k = h
cond-le false h k = k

-- a test counts for at most 1
pub bit_le : (t : Bool) → bit t ≤ 1
bit_le true = omega arith
bit_le false = omega arith

-- what an equality test picks of a and b has P, if a has it where the test passes and b where it fails
pub by_eqb : {A : Type 0} (x y : ℕ) (P : A → Type 0) (a b : A) → (x ≡ y → P a) → (x ≢ y → P b) → P (cond (eqb x y) a b)
by_eqb x y P a b f g = go (eqb x y) refl
  where
    go : (t : Bool) → eqb x y ≡ t → P (cond t a b)
    go true e = f (eqb-true x y e)
    go false e = g (eqb-false x y e)

-- two tests that pass together are equal
pub test-same : (s t : Bool) → (s ≡ true → t ≡ true) → (t ≡ true → s ≡ true) → s ≡ t
test-same true t f g = sym (f refl)
test-same false true f g = g refl
test-same false false f g = refl

-- where one of two tests passes, it is the first or the second
pub or_cases : (s t : Bool) → s || t ≡ true → (s ≡ true) ⊎ (t ≡ true)
or_cases true t h = inl h
or_cases false t h = inr h

-- two equality tests pass exactly where both equations hold
pub eqb_both : (a b c d : ℕ) → (eqb a b && eqb c d ≡ true) ↔ ((a ≡ b) × (c ≡ d))
eqb_both a b c d = (
  λ h. let t = (and-eq-true_iff (eqb a b) (eqb c d)).0 h in (eqb-true a b t.0, eqb-true c d t.1),
  λ e. (and-eq-true_iff (eqb a b) (eqb c d)).1 (eq-eqb a b e.0, eq-eqb c d e.1),
)

-- where two equations hold exactly where two others do, their tests are equal
pub eqb-alike : {a b c d a' b' c' d' : ℕ} → ((a ≡ b) × (c ≡ d)) ↔ ((a' ≡ b') × (c' ≡ d')) → (eqb a b && eqb c d) ≡ (eqb a' b' && eqb c' d')
eqb-alike {a} {b} {c} {d} {a'} {b'} {c'} {d'} e =
    test-same _ _ (λ t. (eqb_both a' b' c' d').1 (e.0 ((eqb_both a b c d).0 t))) (λ t. (eqb_both a b c d).1 (e.1 ((eqb_both a' b' c' d').0 t)))

-- an equality test is the same either way round
pub eqb_sym : (a b : ℕ) → eqb a b ≡ eqb b a
eqb_sym a b = test-same _ _ (λ h. eq-eqb b a (sym (eqb-true a b h))) (λ h. eq-eqb a b (sym (eqb-true b a h)))

-- what f makes of the one of two that a test picks is the one of what it makes of both
pub cond_ap : {A B : Type 0} (f : A → B) (t : Bool) (x y : A) → f (cond t x y) ≡ cond t (f x) (f y)
cond_ap f true x y = refl
cond_ap f false x y = refl

-- where a test fails, and where it passes, are all cases
pub cond_parts : (t : Bool) (n : ℕ) → cond (not t) n 0 + cond t n 0 ≡ n
cond_parts true n = omega arith
cond_parts false n = omega arith

-- a test does not matter where it picks one of two that are the same
pub cond_same : (t : Bool) (n : ℕ) → cond t n n ≡ n
cond_same true n = refl
cond_same false n = refl

-- two pairs of tests whose first do not both pass: what is picked by either pair is what each picks
pub cond_either : (s p t q : Bool) (n : ℕ) → (s ≡ true → t ≡ true → ⊥) → cond ((s && p) || (t && q)) n 0 ≡ cond s (cond p n 0) 0 + cond t (cond q n 0) 0
cond_either true p true q n h = absurd (h refl refl)
cond_either true true false q n h = omega arith
cond_either true false false q n h = omega arith
cond_either false p true q n h = omega arith
cond_either false p false q n h = omega arith
