-- A move by its three numbers: whether it is made, what it asks for, which status it has.
-- Assumes nothing.
use Rattle.std.specs.Prelude.{ℕ, ◌≡◌, ◌⊎◌, Bool, ◌&&◌, ◌||◌, eqb, leb, ℤ, pos, negsuc}
use Rattle.std.proofs.Math.Bool.{false, cond}
use Rattle.terms.specs.Plan.{within}
use Rattle.terms.specs.Moves.{no_kind, no_region, no_second, status, numbers}
use Rattle.terms.specs.declared.Move.{Move}
use Rattle.terms.specs.declared.Move.TheVariants.{Recolour, Exchange, Ask}
use Rattle.meaning.specs.Moves.{made}

-- a row's status is 0: the move is accepted
abbrev pub accepted : ℤ → Bool
accepted (pos n) = eqb n 0
accepted (negsuc n) = false

-- a move of this kind, with this status in its row, is made
abbrev pub is_made : ℕ → ℤ → Bool
is_made kind status = (eqb kind 2 || eqb kind 4) && accepted status

-- what three numbers that are accepted ask for
abbrev pub asked : ℕ → ℕ → ℕ → Move
asked kind a b =
    cond (leb kind 2) (Recolour (eqb kind 2) (record { 0 = a }) (record { 0 = b }))
    (cond (leb kind 4) (Exchange (eqb kind 4) (record { 0 = a }) (record { 0 = b })) (Ask (record { 0 = a })))

-- the second number is a sector for kinds 1 and 2, a region for 3 and 4, and 0 for 5
abbrev pub second_right : ℕ → ℕ → ℕ → ℕ → Bool
second_right R S kind b = cond (leb kind 2) (within 1 b S) (cond (leb kind 4) (within 1 b R) (eqb b 0))

-- the status of three numbers, checked in order: 21 kind not 1..5, 22 first number not in 1..R, 23 second number not right, else 0
unfoldable pub status_of : ℕ → ℕ → ℕ → ℕ → ℕ → ℕ
status_of R S kind a b = cond (within 1 kind 5) (cond (within 1 a R) (cond (second_right R S kind b) 0 no_second) no_region) no_kind

-- the first kind probes what the second makes: 1 and 2, or 3 and 4
abbrev pub Probes : ℕ → ℕ → Type 0
Probes kind kind' = ((kind ≡ 1) × (kind' ≡ 2)) ⊎ ((kind ≡ 3) × (kind' ≡ 4))
