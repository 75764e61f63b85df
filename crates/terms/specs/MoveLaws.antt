-- Making a move of three numbers loses none of them.
-- Assumes nothing.
use Rattle.std.specs.Prelude.{ℕ, ◌+◌, ◌≤◌, ◌≡◌, ◌≢◌, Bool, cond, ◌&&◌, [], ◌∷◌, eqb, leb, Some, None}
use Rattle.std.proofs.Common.{arith, sym}
use Rattle.std.proofs.Math.Path.{refl, ap}
use Rattle.std.proofs.Math.Bool.{true, false}
use borrow.Author.Tests.{eqb-true, eqb-false, leb-true, leb-false}
use Rattle.terms.specs.Plan.{within, region_of, sector_of}
use Rattle.terms.specs.Moves.{no_kind, no_second, recolouring, exchange, question, of_region, move_of, status, numbers}
use Rattle.terms.specs.declared.Move.{Move}
use Rattle.terms.specs.declared.Move.TheVariants.{Ask, Refused}

-- of the kinds n and n + 1, the test of the higher tells which it is
which : (n kind : ℕ) → n ≤ kind → kind ≤ n + 1 → cond (eqb kind (n + 1)) (n + 1) n ≡ kind
which n kind low high = go (eqb kind (n + 1)) refl
  where
    go : (t : Bool) → eqb kind (n + 1) ≡ t → cond t (n + 1) n ≡ kind
    go true e = sym (eqb-true kind (n + 1) e)
    go false e = let ne : kind ≢ n + 1 = eqb-false kind (n + 1) e in omega arith

module _ (R S kind a b : ℕ) where
  Kept : Move → Type 0
  Kept m = status m ≡ 0 → numbers m ≡ kind ∷ a ∷ b ∷ []

  kept-recolouring : 1 ≤ kind → kind ≤ 2 → (t : Bool) → Kept (recolouring (eqb kind 2) (record { 0 = a }) (cond t (Some (record { 0 = b })) None))
  unfolding Kept recolouring
  kept-recolouring low high true e = ap (λ (n : ℕ). n ∷ a ∷ b ∷ []) (which 1 kind low high)
  kept-recolouring low high false e = absurd (omega arith)

  kept-exchange : 3 ≤ kind → kind ≤ 4 → (t : Bool) → Kept (exchange (eqb kind 4) (record { 0 = a }) (cond t (Some (record { 0 = b })) None))
  unfolding Kept exchange
  kept-exchange low high true e = ap (λ (n : ℕ). n ∷ a ∷ b ∷ []) (which 3 kind low high)
  kept-exchange low high false e = absurd (omega arith)

  kept-question : kind ≡ 5 → (t : Bool) → eqb b 0 ≡ t → Kept (cond t (Ask (record { 0 = a })) (Refused no_second))
  unfolding Kept
  kept-question five true h e = rw (five, eqb-true b 0 h)
  kept-question five false h e = absurd (omega arith)

  kept_later : 3 ≤ kind → kind ≤ 5 → (t : Bool) → leb kind 4 ≡ t → Kept (cond t (exchange (eqb kind 4) (record { 0 = a }) (region_of R b)) (question (record { 0 = a }) b))
  unfolding question
  kept_later low high true h = kept-exchange low (leb-true kind 4 h) (within 1 b R)
  kept_later low high false h = let more = leb-false kind 4 h in kept-question (omega arith) (eqb b 0) refl

  kept-accepted : 1 ≤ kind → kind ≤ 5 → (t : Bool) → leb kind 2 ≡ t → Kept (cond t (recolouring (eqb kind 2) (record { 0 = a }) (sector_of S b)) (cond (leb kind 4) (exchange (eqb kind 4) (record { 0 = a }) (region_of R b)) (question (record { 0 = a }) b)))
  kept-accepted low high true h = kept-recolouring low (leb-true kind 2 h) (within 1 b S)
  kept-accepted low high false h = kept_later (leb-false kind 2 h) high (leb kind 4) refl

  kept_region : 1 ≤ kind → kind ≤ 5 → (t : Bool) → Kept (of_region R S kind (cond t (Some (record { 0 = a })) None) b)
  unfolding Kept of_region
  kept_region low high true = kept-accepted low high (leb kind 2) refl
  kept_region low high false = λ e. absurd (omega arith)

  kept_kind : (s t : Bool) → leb 1 kind ≡ s → leb kind 5 ≡ t → Kept (cond (s && t) (of_region R S kind (region_of R a) b) (Refused no_kind))
  unfolding Kept
  kept_kind true true p q = kept_region (leb-true 1 kind p) (leb-true kind 5 q) (within 1 a R)
  kept_kind true false p q = λ e. absurd (omega arith)
  kept_kind false t p q = λ e. absurd (omega arith)

  -- an accepted move has the three numbers that it was made from
  pub accepted-numbers : status (move_of R S kind a b) ≡ 0 → numbers (move_of R S kind a b) ≡ kind ∷ a ∷ b ∷ []
  unfolding Kept move_of
  accepted-numbers = kept_kind (leb 1 kind) (leb kind 5) refl refl
