-- The constraints of some kinds, and sums over constraints, each by its weight and its kind.
-- Assumes nothing.
use Rattle.std.specs.Prelude.{ℕ, zero, suc, ◌+◌, ◌*◌, ◌≤◌, ◌≡◌, Bool, eqb, leb}
use Rattle.std.proofs.Common.{zero-mul, mul-add, add-mul, ◌∙◌}
use Rattle.std.proofs.Math.Nat.{mul-zero}
use native.Mathlib.Omega.{arith}
use Rattle.std.proofs.Math.Path.{refl}
use mathlib.Core.List.{List, [], ◌∷◌}
use Rattle.std.proofs.Math.Bool.{true, false, cond, and-eq-true_iff}
use borrow.Author.Tests.{leb-true, le-leb, lt-leb, eqb-true, eq-eqb, ne_eqb}
use Rattle.std.proofs.Math.ListN.{length}
use Rattle.lists.specs.Sums.{sum, Every}
use Rattle.lists.specs.SumLaws.{sum-all, mul-sum, sum-add, sum-zero, sum-swap, every_all}
use Rattle.lists.specs.Tests.{test-same}
use Rattle.terms.specs.Plan.{within}
use Rattle.meaning.specs.Plan.{Constraint, ConstraintLimits}
use Rattle.meaning.specs.Kinds.{by_kind}
use Rattle.meaning.specs.Prices.{of_kinds, weighted, weight_of}

-- ---- the constraints of some kinds

module _ (low high : ℕ) where
  -- they keep the limits that all constraints keep
  pub kinds_limits : (ks : List Constraint) → Every ConstraintLimits ks → Every ConstraintLimits (of_kinds low high ks)
  unfolding of_kinds
  kinds_limits [] l = tt
  kinds_limits (k ∷ ks) l = go (within low k.kind high) (kinds_limits ks l.1)
    where
      go : (t : Bool) → Every ConstraintLimits (of_kinds low high ks) → Every ConstraintLimits (cond t (k ∷ of_kinds low high ks) (of_kinds low high ks))
      go true r = (l.0, r)
      go false r = r

  -- there are no more of them
  pub kinds_few : (ks : List Constraint) → length (of_kinds low high ks) ≤ length ks
  unfolding of_kinds
  kinds_few [] = omega arith
  kinds_few (k ∷ ks) = go (within low k.kind high) (kinds_few ks)
    where
      go : (t : Bool) → length (of_kinds low high ks) ≤ length ks → length (cond t (k ∷ of_kinds low high ks) (of_kinds low high ks)) ≤ length (k ∷ ks)
      go true r = omega arith
      go false r = omega arith

  -- only they add to a sum that gives 0 to all others
  pub kinds_sum : (ks : List Constraint) (f : Constraint → ℕ) → weighted ks (λ k. cond (within low k.kind high) (f k) 0) ≡ weighted (of_kinds low high ks) f
  unfolding of_kinds
  kinds_sum [] f = refl
  kinds_sum (k ∷ ks) f = go (within low k.kind high) (kinds_sum ks f)
    where
      go : (t : Bool) → weighted ks (λ k. cond (within low k.kind high) (f k) 0) ≡ weighted (of_kinds low high ks) f
          → k.weight * cond t (f k) 0 + weighted ks (λ k. cond (within low k.kind high) (f k) 0) ≡ weighted (cond t (k ∷ of_kinds low high ks) (of_kinds low high ks)) f
      go true e = omega arith
      go false e = omega (arith, mul-zero k.weight)

-- the kinds n to n are the kind n
within_one : (n x : ℕ) → within n x n ≡ eqb x n
within_one n x =
    test-same _ _
    (λ h. let t = (and-eq-true_iff (leb n x) (leb x n)).0 h in eq-eqb x n (omega (arith, leb-true n x t.0, leb-true x n t.1)))
    (λ h. let e = eqb-true x n h in (and-eq-true_iff (leb n x) (leb x n)).1 (le-leb n x (omega arith), le-leb x n (omega arith)))

-- ---- weighted sums

-- sums whose numbers are equal are equal
pub weighted-all : (ks : List Constraint) (f g : Constraint → ℕ) → ((k : Constraint) → f k ≡ g k) → weighted ks f ≡ weighted ks g
weighted-all ks f g h = sum-all ks _ _ (λ k. rw (h k))

-- a sum of two numbers for each constraint
pub weighted-add : (ks : List Constraint) (f g : Constraint → ℕ) → weighted ks (λ k. f k + g k) ≡ weighted ks f + weighted ks g
weighted-add ks f g = sum-all ks _ _ (λ k. mul-add k.weight (f k) (g k)) ∙ sum-add ks _ _

-- a sum for each constraint: the weighted sums of its terms, summed
pub weighted-sum : {A : Type 0} (ks : List Constraint) (xs : List A) (f : Constraint → A → ℕ) → weighted ks (λ k. sum xs (f k)) ≡ sum xs (λ x. weighted ks (λ k. f k x))
weighted-sum ks xs f = sum-all ks _ _ (λ k. mul-sum k.weight xs (f k)) ∙ sum-swap ks xs (λ k x. k.weight * f k x)

-- where a test fails nothing is weighed
pub weighted-cond : (t : Bool) (ks : List Constraint) (f : Constraint → ℕ) → weighted ks (λ k. cond t (f k) 0) ≡ cond t (weighted ks f) 0
weighted-cond true ks f = refl
weighted-cond false ks f = sum-zero ks _ (every_all _ (λ k. mul-zero k.weight) ks)

-- only the constraints of a kind add to a sum that gives 0 to all others
pub kind_sum : (kind : ℕ) (ks : List Constraint) (f : Constraint → ℕ) → weighted ks (λ k. cond (eqb k.kind kind) (f k) 0) ≡ weighted (of_kinds kind kind ks) f
kind_sum kind ks f = weighted-all ks _ _ (λ k. rw (within_one kind k.kind)) ∙ kinds_sum kind kind ks f

-- where all constraints of a kind have one number, it is taken as often as they weigh
pub weight_of_lem : (kind : ℕ) (ks : List Constraint) (a : ℕ) → weight_of kind ks * a ≡ weighted ks (λ k. cond (eqb k.kind kind) a 0)
unfolding weight_of
weight_of_lem kind [] a = zero-mul a
weight_of_lem kind (k ∷ ks) a = go (eqb k.kind kind) (weight_of_lem kind ks a)
  where
    go : (t : Bool) → weight_of kind ks * a ≡ weighted ks (λ k. cond (eqb k.kind kind) a 0)
        → (cond t k.weight 0 + weight_of kind ks) * a ≡ k.weight * cond t a 0 + weighted ks (λ k. cond (eqb k.kind kind) a 0)
    go true e = omega (arith, add-mul k.weight (weight_of kind ks) a)
    go false e = omega (arith, mul-zero k.weight)

-- ---- what is due to the kinds

-- what holds of the kinds 0 to 5, and of all above, holds of each
each_kind : (Q : ℕ → Type 0) → Q 0 → Q 1 → Q 2 → Q 3 → Q 4 → Q 5 → ((kind : ℕ) → 6 ≤ kind → Q kind) → (kind : ℕ) → Q kind
each_kind Q q0 q1 q2 q3 q4 q5 q zero = q0
each_kind Q q0 q1 q2 q3 q4 q5 q (suc zero) = q1
each_kind Q q0 q1 q2 q3 q4 q5 q (suc (suc zero)) = q2
each_kind Q q0 q1 q2 q3 q4 q5 q (suc (suc (suc zero))) = q3
each_kind Q q0 q1 q2 q3 q4 q5 q (suc (suc (suc (suc zero)))) = q4
each_kind Q q0 q1 q2 q3 q4 q5 q (suc (suc (suc (suc (suc zero))))) = q5
each_kind Q q0 q1 q2 q3 q4 q5 q (suc (suc (suc (suc (suc (suc n)))))) = q _ (omega arith)

-- a kind above all others is none of them
none_of : (n : ℕ) → n ≤ 5 → (kind : ℕ) → 6 ≤ kind → eqb kind n ≡ false
none_of n h kind l = ne_eqb kind n (λ e. omega arith)

module _ (a b c d e : ℕ) where
  -- to the kinds 1 to 3, each by itself
  shared_kinds : (kind : ℕ) → cond (within 1 kind 3) (by_kind kind a b c d e) 0 ≡ cond (eqb kind 1) a 0 + cond (eqb kind 2) b 0 + cond (eqb kind 3) c 0
  unfolding by_kind
  shared_kinds =
      each_kind _ (omega arith) (omega arith) (omega arith) (omega arith) (omega arith) (omega arith)
      (λ kind l. rw (none_of 1 (omega arith) kind l, none_of 2 (omega arith) kind l, none_of 3 (omega arith) kind l, lt-leb kind 3 (omega arith), le-leb 1 kind (omega arith)))

  -- to those and to the kinds 4 and 5
  pub kinds_apart : (kind : ℕ) → by_kind kind a b c d e ≡ cond (within 1 kind 3) (by_kind kind a b c d e) 0 + cond (eqb kind 4) d 0 + cond (eqb kind 5) e 0
  unfolding by_kind
  kinds_apart =
      each_kind _ (omega arith) (omega arith) (omega arith) (omega arith) (omega arith) (omega arith)
      (λ kind l.
      rw (
        none_of 1 (omega arith) kind l,
        none_of 2 (omega arith) kind l,
        none_of 3 (omega arith) kind l,
        none_of 4 (omega arith) kind l,
        none_of 5 (omega arith) kind l,
        lt-leb kind 3 (omega arith),
        le-leb 1 kind (omega arith),
      ))

-- the kinds 1 to 3 have the same for all constraints: it is taken as often as those of the kind weigh
pub shared-sum : (ks : List Constraint) (a b c : ℕ) (d e : Constraint → ℕ)
    → weighted ks (λ k. cond (within 1 k.kind 3) (by_kind k.kind a b c (d k) (e k)) 0) ≡ weight_of 1 ks * a + weight_of 2 ks * b + weight_of 3 ks * c
shared-sum ks a b c d e =
    weighted-all ks _ _ (λ k. shared_kinds a b c (d k) (e k) k.kind)
    ∙ weighted-add ks (λ k. cond (eqb k.kind 1) a 0 + cond (eqb k.kind 2) b 0) (λ k. cond (eqb k.kind 3) c 0)
    ∙ omega (arith, weighted-add ks (λ k. cond (eqb k.kind 1) a 0) (λ k. cond (eqb k.kind 2) b 0), weight_of_lem 1 ks a, weight_of_lem 2 ks b, weight_of_lem 3 ks c)
