-- What it means that a constraint holds, kind by kind, that its verdict says so, and that the total is 0.
-- Assumes nothing.
use Prim.Native.Nat.{ℕ, zero, suc, ◌+◌, ◌*◌, ◌≤◌, ◌<◌}
use Rattle.std.proofs.Common.{mul-zero, mul-le-mul_right, ap, ◌∙◌}
use native.Mathlib.Omega.{arith}
use Rattle.std.proofs.Math.Decide.{ℕ_discrete}
use Rattle.std.specs.Prelude.{◌≡◌, ◌↔◌, Bool, length, get_or}
use Rattle.std.proofs.Math.Path.{refl}
use mathlib.Core.List.{List, [], ◌∷◌}
use Rattle.std.proofs.Math.Logic.Iff
use Rattle.std.proofs.Math.Bool.{true, false, not}
use Rattle.std.proofs.lemmas.Bool.{false≢true}
use borrow.Author.Tests.{eqb-true, eq-eqb}
use Rattle.std.proofs.Math.Dec.{eqb}
use Rattle.lists.specs.Sums.{bit, sum, Every}
use Rattle.lists.specs.SumLaws.{zero-each, every_all, every_turn}
use Rattle.terms.specs.Distance.{stands}
use Rattle.terms.specs.DistanceLaws.{distance-zero}
use Rattle.meaning.specs.Plan.{Constraint, Plan}
use Rattle.meaning.specs.Stretches.{stretches, dwell_of}
use Rattle.meaning.specs.Kinds.{ncc_all, border, counts, loads, deviation, connected, bounded, dwelling, by_kind, violation, holds, total}
use Rattle.meaning.specs.Moves.{verdict_length, verdict, verdicts_of}

-- each of the first n verdicts of a flat list says 1: its constraint holds
abbrev pub SayHolds : ℕ → List ℕ → Type 0
SayHolds n verdicts = (k : ℕ) → k < n → get_or verdicts (verdict_length * k) 0 ≡ 1

-- where each term is 0 exactly when Q holds of its place, in the list or not, the sum is 0 exactly when Q holds of all
zero-all : {A : Type 0} (Q : A → Type 0) (xs : List A) (f : A → ℕ) → ((x : A) → (f x ≡ 0 ↔ Q x)) → sum xs f ≡ 0 ↔ Every Q xs
zero-all Q xs f h = zero-each Q xs f (every_all (λ x. f x ≡ 0 ↔ Q x) h xs)

module _ {kind : ℕ} (a b c d e : ℕ) where
  -- what is due to kind 1
  pub by_kind_1 : kind ≡ 1 → by_kind kind a b c d e ≡ a
  unfolding by_kind
  by_kind_1 p = rw p

  -- what is due to kind 2
  pub by_kind_2 : kind ≡ 2 → by_kind kind a b c d e ≡ b
  unfolding by_kind
  by_kind_2 p = rw p

  -- what is due to kind 3
  pub by_kind_3 : kind ≡ 3 → by_kind kind a b c d e ≡ c
  unfolding by_kind
  by_kind_3 p = rw p

  -- what is due to kind 4
  pub by_kind_4 : kind ≡ 4 → by_kind kind a b c d e ≡ d
  unfolding by_kind
  by_kind_4 p = rw p

  -- what is due to kind 5
  pub by_kind_5 : kind ≡ 5 → by_kind kind a b c d e ≡ e
  unfolding by_kind
  by_kind_5 p = rw p

-- what is due to kinds 4 and 5 alike
pub by_kind_late : {kind : ℕ} (a b c d : ℕ) → 4 ≤ kind → kind ≤ 5 → by_kind kind a b c d d ≡ d
by_kind_late {kind} a b c d low high = go (ℕ_discrete kind 4)
  where
    go : Dec (kind ≡ 4) → by_kind kind a b c d d ≡ d
    go (yes e) = by_kind_4 a b c d d e
    go (no ne) = by_kind_5 a b c d d (omega arith)

-- a sum of two is 0 exactly when both are
both_zero : {x y : ℕ} {A B : Type 0} → (x ≡ 0 ↔ A) → (y ≡ 0 ↔ B) → x + y ≡ 0 ↔ A × B
both_zero h k = (λ e. (h.0 (omega arith), k.0 (omega arith)), λ p. omega (arith, h.1 p.0, k.1 p.1))

-- 1 for a test that fails: 0 exactly when it passes
pub failed_zero : (t : Bool) → bit (not t) ≡ 0 ↔ t ≡ true
failed_zero true = (λ e. refl, λ e. refl)
failed_zero false = (λ e. absurd (omega arith), λ e. absurd (false≢true e))

-- 1 for a test that passes: 1 exactly when it does
bit_one : (t : Bool) → bit t ≡ 1 ↔ t ≡ true
bit_one true = (λ e. refl, λ e. refl)
bit_one false = (λ e. absurd (omega arith), λ e. absurd (false≢true e))

module _ (P : Plan) (col : List ℕ) where
  -- a constraint holds exactly when its violation is 0
  pub holds-zero : (k : Constraint) → holds P col k ≡ true ↔ violation P col k ≡ 0
  unfolding holds
  holds-zero k = (eqb-true (violation P col k) 0, eq-eqb (violation P col k) 0)

  -- a constraint that weighs something adds 0 to the total exactly when it holds
  weighted-zero : (k : Constraint) → 1 ≤ k.weight → k.weight * violation P col k ≡ 0 ↔ holds P col k ≡ true
  weighted-zero k h = (
    λ e. (holds-zero k).1 (omega (arith, mul-le-mul_right (violation P col k) h)),
    λ e. ap (λ v. k.weight * v) ((holds-zero k).0 e) ∙ mul-zero k.weight,
  )

  -- the total is 0 exactly when all constraints hold
  pub total-zero : Every (λ k. 1 ≤ k.weight) P.constraints → total P col ≡ 0 ↔ Every (λ k. holds P col k ≡ true) P.constraints
  unfolding total
  total-zero h =
      zero-each (λ k. holds P col k ≡ true) P.constraints (λ k. k.weight * violation P col k)
      (every_turn weighted-zero P.constraints h)

  -- all constraints hold exactly when each verdict says 1
  pub verdicts_hold : (ks : List Constraint) → Every (λ k. holds P col k ≡ true) ks ↔ SayHolds (length ks) (verdicts_of P col ks)
  unfolding verdicts_of verdict
  verdicts_hold [] = (λ e k h. absurd (omega arith), λ f. tt)
  verdicts_hold (c ∷ ks) =
      let r = verdicts_hold ks in (
        λ e. said (r.0 e.1) e.0,
        λ f. ((bit_one (holds P col c)).0 (f 0 (omega arith)), r.1 (λ k h. rw (later k) at (f (suc k) (omega arith)))),
      )
    where
      later : (k : ℕ) → verdict_length * suc k ≡ suc (suc (verdict_length * k))
      later k = omega arith

      said : SayHolds (length ks) (verdicts_of P col ks) → holds P col c ≡ true → SayHolds (suc (length ks)) (verdicts_of P col (c ∷ ks))
      said f e zero h = (bit_one (holds P col c)).1 e
      said f e (suc k) h = rw (later k) (f k (omega arith))

  -- so 0 is said of one that does not hold, and of no other
  pub verdict_says : (ks : List Constraint) (d : Constraint) (k : ℕ) → k < length ks → eqb (get_or (verdicts_of P col ks) (verdict_length * k) 0) 0 ≡ not (holds P col (get_or ks k d))
  unfolding verdicts_of verdict
  verdict_says [] d k h = absurd (omega arith)
  verdict_says (c ∷ ks) d zero h = one (holds P col c)
    where
      one : (b : Bool) → eqb (bit b) 0 ≡ not b
      one true = refl
      one false = refl
  verdict_says (c ∷ ks) d (suc k) h =
      let later : verdict_length * suc k ≡ suc (suc (verdict_length * k)) = omega arith in rw later (verdict_says ks d k (omega arith))

  module _ (k : Constraint) where
    -- it holds exactly when the number that its violation comes to is 0
    holds_at : {x : ℕ} → violation P col k ≡ x → holds P col k ≡ true ↔ x ≡ 0
    holds_at e = rw (← e) (holds-zero k)

    -- kind 1 holds exactly when the number of components stands in the relation to the limit and no sector has two of them
    pub connected-holds : k.kind ≡ 1 → holds P col k ≡ true ↔ (stands k.relation (ncc_all P col) k.limit ≡ true) × Every (λ n. n ≤ 1) (counts P col)
    unfolding violation connected
    connected-holds e =
        Iff.trans (holds_at (by_kind_1 _ _ _ _ _ e))
        (both_zero (failed_zero (stands k.relation (ncc_all P col) k.limit)) (zero-all _ (counts P col) _ (λ n. omega arith)))

    -- kind 2 holds exactly when the border is at most the limit
    pub border-holds : k.kind ≡ 2 → holds P col k ≡ true ↔ border P col ≤ k.limit
    unfolding violation
    border-holds e = Iff.trans (holds_at (by_kind_2 _ _ _ _ _ e)) (omega arith)

    -- kind 3 holds exactly when the deviation is at most the limit
    pub balanced_holds : k.kind ≡ 3 → holds P col k ≡ true ↔ deviation P col ≤ k.limit
    unfolding violation
    balanced_holds e = Iff.trans (holds_at (by_kind_3 _ _ _ _ _ e)) (omega arith)

    -- kind 4 holds exactly when each sector's workload stands in the relation to the limit
    pub bounded-holds : k.kind ≡ 4 → holds P col k ≡ true ↔ Every (λ x. stands k.relation x k.limit ≡ true) (loads P col)
    unfolding violation bounded
    bounded-holds e = Iff.trans (holds_at (by_kind_4 _ _ _ _ _ e)) (zero-all _ (loads P col) _ (λ x. distance-zero k.relation x k.limit))

    -- kind 5 holds exactly when the summed dwell of each stretch stands in the relation to the limit
    pub dwelling-holds : k.kind ≡ 5 → holds P col k ≡ true ↔ Every (λ flight. Every (λ s. stands k.relation (dwell_of s) k.limit ≡ true) (stretches col flight)) P.flights
    unfolding violation dwelling
    dwelling-holds e =
        Iff.trans (holds_at (by_kind_5 _ _ _ _ _ e))
        (zero-all _ P.flights _ (λ flight. zero-all _ (stretches col flight) _ (λ s. distance-zero k.relation (dwell_of s) k.limit)))
