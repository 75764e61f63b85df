-- A move by its three numbers: whether it is made, what it asks for, which status it has.
-- Assumes nothing.
use Rattle.std.specs.Prelude.{ℕ, ◌≡◌, ◌≢◌, ◌⊎◌, Bool, [], ◌∷◌, eqb, leb, ℤ, pos, Some, None}
use Rattle.std.proofs.Common.{arith, inl, inr, ne_eqb}
use Rattle.std.proofs.Math.Decide.{ℕ_discrete}
use Rattle.std.proofs.Math.Path.{refl}
use Rattle.std.proofs.Math.Bool.{true, false, cond, and-false}
use Rattle.terms.specs.Plan.{within, region_of, sector_of}
use Rattle.terms.specs.Moves.{no_kind, no_region, no_second, recolouring, exchange, question, of_region, move_of, status, numbers}
use Rattle.terms.specs.MoveLaws.{accepted-numbers}
use Rattle.terms.specs.declared.Move.{Move}
use Rattle.terms.specs.declared.Move.TheVariants.{Recolour, Exchange, Ask, Refused}
use Rattle.meaning.specs.Moves.{made}
use Rattle.demands.specs.MoveNumbers.{Probes, accepted, asked, is_made, second_right, status_of}

-- three numbers that are equal are equal one by one
three : {k a b k' a' b' : ℕ} → k ∷ a ∷ b ∷ [] ≡ k' ∷ a' ∷ b' ∷ [] → (k' ≡ k) × (a' ≡ a) × (b' ≡ b)
three e = (cc, cc, cc)

-- no numbers are not three
not_three : {k a b : ℕ} {A : Type 0} → [] ≡ k ∷ a ∷ b ∷ [] → A
not_three e = let n : ◌≡◌ {A = ℕ} 0 1 = cc in absurd (omega arith)

-- the numbers that a move has when it is accepted say, with its status, whether it is made
made_by : (m : Move) {kind a b : ℕ} → (status m ≡ 0 → numbers m ≡ kind ∷ a ∷ b ∷ []) → is_made kind (pos (status m)) ≡ made m
made_by (Recolour true v c) e = rw (three (e refl)).0
made_by (Recolour false v c) e = rw (three (e refl)).0
made_by (Exchange true a b) e = rw (three (e refl)).0
made_by (Exchange false a b) e = rw (three (e refl)).0
made_by (Ask v) e = rw (three (e refl)).0
made_by (Refused s) {kind} e = go (ℕ_discrete s 0)
  where
    go : Dec (s ≡ 0) → is_made kind (pos s) ≡ false
    go (yes z) = not_three (e z)
    go (no ne) = rw (ne_eqb s 0 ne, and-false)

-- and they say what it is
asked_by : (m : Move) {kind a b : ℕ} → numbers m ≡ kind ∷ a ∷ b ∷ [] → m ≡ asked kind a b
asked_by (Recolour true v c) e = let q = three e in rw (q.0, q.1, q.2)
asked_by (Recolour false v c) e = let q = three e in rw (q.0, q.1, q.2)
asked_by (Exchange true v w) e = let q = three e in rw (q.0, q.1, q.2)
asked_by (Exchange false v w) e = let q = three e in rw (q.0, q.1, q.2)
asked_by (Ask v) e = let q = three e in rw (q.0, q.1)
asked_by (Refused s) e = not_three e

module _ {kind a b : ℕ} where
  -- kinds 1 and 2 ask for a recolouring, which kind 2 makes
  pub asked-recolour : (kind ≡ 1) ⊎ (kind ≡ 2) → asked kind a b ≡ Recolour (eqb kind 2) (record { 0 = a }) (record { 0 = b })
  asked-recolour (inl e) = rw e
  asked-recolour (inr e) = rw e

  -- kinds 3 and 4 ask for an exchange, which kind 4 makes
  pub asked-exchange : (kind ≡ 3) ⊎ (kind ≡ 4) → asked kind a b ≡ Exchange (eqb kind 4) (record { 0 = a }) (record { 0 = b })
  asked-exchange (inl e) = rw e
  asked-exchange (inr e) = rw e

-- a move of a kind other than 2 and 4, as a probe or a question, is not made
pub kind_unmade : (kind : ℕ) (status : ℤ) → kind ≢ 2 → kind ≢ 4 → is_made kind status ≡ false
kind_unmade kind status n m = rw (ne_eqb kind 2 n, ne_eqb kind 4 m)

module _ (R S kind a b : ℕ) where
  -- a move is made exactly where its kind and its status say so
  pub made-numbers : is_made kind (pos (status (move_of R S kind a b))) ≡ made (move_of R S kind a b)
  made-numbers = made_by (move_of R S kind a b) (accepted-numbers R S kind a b)

  -- an accepted move is the one that its numbers ask for
  pub accepted-asked : status (move_of R S kind a b) ≡ 0 → move_of R S kind a b ≡ asked kind a b
  accepted-asked e = asked_by (move_of R S kind a b) (accepted-numbers R S kind a b e)

  -- the status of a move is that of its numbers
  pub status-numbers : status (move_of R S kind a b) ≡ status_of R S kind a b
  unfolding move_of of_region recolouring exchange question status_of
  status-numbers = by_kind (within 1 kind 5)
    where
      by_sector : (t : Bool) → status (recolouring (eqb kind 2) (record { 0 = a }) (cond t (Some (record { 0 = b })) None)) ≡ cond t 0 no_second
      by_sector true = refl
      by_sector false = refl

      by_region : (t : Bool) → status (exchange (eqb kind 4) (record { 0 = a }) (cond t (Some (record { 0 = b })) None)) ≡ cond t 0 no_second
      by_region true = refl
      by_region false = refl

      by_zero : (t : Bool) → status (cond t (Ask (record { 0 = a })) (Refused no_second)) ≡ cond t 0 no_second
      by_zero true = refl
      by_zero false = refl

      by_second : (s t : Bool) → status (cond s (recolouring (eqb kind 2) (record { 0 = a }) (sector_of S b)) (cond t (exchange (eqb kind 4) (record { 0 = a }) (region_of R b)) (question (record { 0 = a }) b)))
          ≡ cond (cond s (within 1 b S) (cond t (within 1 b R) (eqb b 0))) 0 no_second
      by_second true t = by_sector (within 1 b S)
      by_second false true = by_region (within 1 b R)
      by_second false false = by_zero (eqb b 0)

      by_first : (t : Bool) → status (of_region R S kind (cond t (Some (record { 0 = a })) None) b) ≡ cond t (cond (second_right R S kind b) 0 no_second) no_region
      by_first true = by_second (leb kind 2) (leb kind 4)
      by_first false = refl

      by_kind : (t : Bool) → status (cond t (of_region R S kind (region_of R a) b) (Refused no_kind)) ≡ cond t (cond (within 1 a R) (cond (second_right R S kind b) 0 no_second) no_region) no_kind
      by_kind true = by_first (within 1 a R)
      by_kind false = refl

-- a probe has the status that making it has
pub probe_status : (R S : ℕ) {kind kind' : ℕ} (a b : ℕ) → Probes kind kind' → status_of R S kind a b ≡ status_of R S kind' a b
unfolding status_of
probe_status R S a b (inl e) = rw (e.0, e.1)
probe_status R S a b (inr e) = rw (e.0, e.1)
