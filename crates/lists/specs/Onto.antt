-- Some of 1..n that go one to one onto 1..m: what is summed over the ones is summed over the others.
-- Assumes nothing.
use Rattle.std.specs.Prelude.{ℕ, zero, suc, ◌+◌, ◌*◌, ◌≤◌, ◌≡◌, List, [], ◌∷◌, Bool, true, false, ◌&&◌, eqb}
use Rattle.std.proofs.Common.{le_of_eq, arith, ◌∙◌, eqb-true, eq-eqb, ne_eqb}
use Rattle.std.proofs.Math.Nat.{one-mul}
use Rattle.std.proofs.Math.Decide.{ℕ_discrete}
use Rattle.std.proofs.Math.Path.{refl, sym, ap}
use Rattle.std.proofs.Math.Bool.{cond, and-eq-true_iff}
use Rattle.lists.specs.Sums.{In, bit, up_to, sum, count}
use Rattle.lists.specs.SumLaws.{in_more, in_last, in_less, length_from, few_bound, every_up_to, sum-last, sum_same, sum_one, sum-none, sum-swap}
use Rattle.lists.specs.Counts.{count_none}

-- those of 1..n that pass the test go one to one into 1..m, and are m in number
pub record Onto (n m : ℕ) (some : ℕ → Bool) (p : ℕ → ℕ) : Type 0 where
  pub within : (c : ℕ) → In n c → some c ≡ true → In m (p c)
  pub apart : (c d : ℕ) → In n c → In n d → some c ≡ true → some d ≡ true → p c ≡ p d → c ≡ d
  pub size : count (up_to n) some ≡ m

-- where any two of 1..n that pass a test are the same, it counts at most 1
count_single : (n : ℕ) (t : ℕ → Bool) → ((c d : ℕ) → In n c → In n d → t c ≡ true → t d ≡ true → c ≡ d) → count (up_to n) t ≤ 1
count_single zero t h = omega arith
count_single (suc n) t h = go (t (suc n)) refl (count_single n t (λ c d i j. h c d (in_more i) (in_more j)))
  where
    fails : t (suc n) ≡ true → (u : ℕ) → In n u → (b : Bool) → t u ≡ b → b ≡ false
    fails e u i true f = absurd (omega (arith, i.high, h u (suc n) (in_more i) (in_last n) f e))
    fails e u i false f = refl

    go : (b : Bool) → t (suc n) ≡ b → count (up_to n) t ≤ 1 → count (up_to (suc n)) t ≤ 1
    go true e r = omega (arith, sum-last n (λ u. bit (t u)), ap bit e, count_none n t (λ u i. fails e u i (t u) refl))
    go false e r = omega (arith, sum-last n (λ u. bit (t u)), ap bit e, r)

-- n terms that are at most 1 and sum to n are all 1
sum_full : (n : ℕ) (f : ℕ → ℕ) → ((u : ℕ) → In n u → f u ≤ 1) → sum (up_to n) f ≡ n → (u : ℕ) → In n u → f u ≡ 1
sum_full zero f h e u i = absurd (omega (arith, i.low, i.high))
sum_full (suc n) f h e u i = go (ℕ_discrete u (suc n)) (sum_full n f (λ w j. h w (in_more j)))
  where
    few : sum (up_to n) f ≤ n
    few = omega (arith, few_bound n 1 (up_to n) f (le_of_eq (length_from 1 n)) (every_up_to (λ w. f w ≤ 1) n (λ w j. h w (in_more j))))

    go : Dec (u ≡ suc n) → (sum (up_to n) f ≡ n → (w : ℕ) → In n w → f w ≡ 1) → f u ≡ 1
    go (yes z) r = omega (arith, ap f z, sum-last n f, few, h (suc n) (in_last n))
    go (no ne) r = r (omega (arith, sum-last n f, few, h (suc n) (in_last n))) u (in_less i ne)

-- a number for each that passes a test: the number, as often as the test counts
sum-cond : {A : Type 0} (xs : List A) (t : A → Bool) (k : ℕ) → sum xs (λ x. cond (t x) k 0) ≡ count xs t * k
sum-cond [] t k = omega arith
sum-cond {A} (x ∷ xs) t k = go (t x) (sum-cond xs t k)
  where
    go : (b : Bool) → sum xs (λ y. cond (t y) k 0) ≡ count xs t * k → cond b k 0 + sum xs (λ y. cond (t y) k 0) ≡ (bit b + count xs t) * k
    go true e = omega (arith, e)
    go false e = omega (arith, e)

module _ {n m : ℕ} {some : ℕ → Bool} {p : ℕ → ℕ} (o : Onto n m some p) where
  -- c passes the test and goes to d
  goes : ℕ → ℕ → Bool
  goes c d = some c && eqb (p c) d

  -- what is picked where c goes is picked once, if c passes the test
  picked : (g : ℕ → ℕ) (c : ℕ) → In n c → (b : Bool) → some c ≡ b → sum (up_to m) (λ d. cond (b && eqb (p c) d) (g d) 0) ≡ cond b (g (p c)) 0
  picked g c i true e =
      sum_one m (p c) _ (o.within c i e) (λ d j ne. rw (ne_eqb (p c) d (λ z. ne (sym z)))) ∙ rw (eq-eqb (p c) (p c) refl)
  picked g c i false e = sum-none (up_to m)

  -- how many go to d
  arrive : ℕ → ℕ
  arrive d = count (up_to n) (λ c. goes c d)

  -- to each of 1..m goes one: no more, since they go one to one, and m go in all
  one_arrives : (d : ℕ) → In m d → arrive d ≡ 1
  unfolding arrive goes
  one_arrives = sum_full m arrive few (sum-swap (up_to m) (up_to n) (λ d c. bit (goes c d)) ∙ sum_same n _ _ each ∙ o.size)
    where
      few : (d : ℕ) → In m d → arrive d ≤ 1
      few d j =
          count_single n (λ c. goes c d)
          (λ a b i k s t.
          let x = (and-eq-true_iff (some a) (eqb (p a) d)).0 s in
          let y = (and-eq-true_iff (some b) (eqb (p b) d)).0 t in
          o.apart a b i k x.0 y.0 (eqb-true (p a) d x.1 ∙ sym (eqb-true (p b) d y.1)))

      as_cond : (b : Bool) → bit b ≡ cond b 1 0
      as_cond true = refl
      as_cond false = refl

      each : (c : ℕ) → In n c → sum (up_to m) (λ d. bit (goes c d)) ≡ bit (some c)
      each c i =
          sum_same m (λ d. bit (goes c d)) (λ d. cond (goes c d) 1 0) (λ d j. as_cond (goes c d))
          ∙ picked (λ d. 1) c i (some c) refl
          ∙ sym (as_cond (some c))

  -- a sum over 1..m is one over 1..n, where the term of c is that of p c if c passes the test, and else 0
  pub sum_onto : (f g : ℕ → ℕ) → ((c : ℕ) → In n c → f c ≡ cond (some c) (g (p c)) 0) → sum (up_to m) g ≡ sum (up_to n) f
  unfolding goes arrive
  sum_onto f g same =
      sum_same m g (λ d. sum (up_to n) (λ c. cond (goes c d) (g d) 0)) (λ d j. sym (sum-cond (up_to n) (λ c. goes c d) (g d) ∙ ap (λ (k : ℕ). k * g d) (one_arrives d j) ∙ one-mul (g d)))
      ∙ sum-swap (up_to m) (up_to n) (λ d c. cond (goes c d) (g d) 0)
      ∙ sum_same n _ f (λ c i. picked g c i (some c) refl ∙ sym (same c i))
