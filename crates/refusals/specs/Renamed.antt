-- Document 02, C-18: refused numbers keep their refusals, whatever the names of the sectors.
-- Assumes nothing.
use Rattle.std.specs.Prelude.{ℕ, suc, ◌≡◌, refl, List, [], ◌∷◌, length, get_or}
use Rattle.std.proofs.Common.{ap}
use Rattle.std.proofs.lemmas.List.{length-map}
use Rattle.meaning.specs.Names.{Renaming, name, renamed, renamed_moves}
use Rattle.meaning.proofs.NameLaws.{get_or-renamed, name-within}
use Rattle.scans.specs.Items.{sector_right}
use Rattle.refusals.specs.Table.{plan_table, room_table}
use Rattle.refusals.specs.Passed.{off_same}

-- a number of the colouring is a sector where its new name is
sector-renamed : {S : ℕ} {p : ℕ → ℕ} → Renaming S p → (col : List ℕ) (k : ℕ) → sector_right S (renamed S p col) k ≡ sector_right S col k
sector-renamed {S} {p} r col k = rw (get_or-renamed S p col k) (name-within r (get_or col k 0))

-- so the rows of the table on a plan and its colouring are the same
pub plan_renamed : (kinds R S : ℕ) (workloads outside edges counts visits constraints col : List ℕ) {p : ℕ → ℕ} → Renaming S p
    → plan_table kinds R S workloads outside edges counts visits constraints (renamed S p col) ≡ plan_table kinds R S workloads outside edges counts visits constraints col
unfolding plan_table
plan_renamed kinds R S workloads outside edges counts visits constraints col {p} r =
    rw (length-map col (name S p), off_same 0 (length col) (sector_right S (renamed S p col)) (sector_right S col) (sector-renamed r col))

-- moves have as many numbers in the new names
length-renamed : (S : ℕ) (p : ℕ → ℕ) (xs : List ℕ) → length (renamed_moves S p xs) ≡ length xs
unfolding renamed_moves
length-renamed S p [] = refl
length-renamed S p (kind ∷ []) = refl
length-renamed S p (kind ∷ a ∷ []) = refl
length-renamed S p (kind ∷ a ∷ b ∷ xs) = ap (λ (n : ℕ). suc (suc (suc n))) (length-renamed S p xs)

-- so the rows on the moves and the room are the same
pub room_renamed : (R S : ℕ) (constraints moves : List ℕ) (rows verdicts work : ℕ) (p : ℕ → ℕ)
    → room_table R S constraints (renamed_moves S p moves) rows verdicts work ≡ room_table R S constraints moves rows verdicts work
unfolding room_table
room_renamed R S constraints moves rows verdicts work p = rw (length-renamed S p moves)
