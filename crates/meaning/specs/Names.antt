-- Document 02, C-18: sectors by other names.
-- Assumes nothing.
use Rattle.std.specs.Prelude.{ℕ, ◌≡◌, cond, List, [], ◌∷◌, map}
use Rattle.lists.specs.Sums.{In}
use Rattle.terms.specs.Plan.{within}
use Rattle.terms.specs.declared.Move.{Move}
use Rattle.terms.specs.declared.Move.TheVariants.{Recolour, Exchange, Ask, Refused}

-- a one-to-one renaming of 1..S: sector c is called p c
pub record Renaming (S : ℕ) (p : ℕ → ℕ) : Type 0 where
  pub within : (c : ℕ) → In S c → In S (p c)
  pub apart : (c d : ℕ) → In S c → In S d → p c ≡ p d → c ≡ d

-- the new name of a sector; a number that is no sector's stays
unfoldable pub name : ℕ → (ℕ → ℕ) → ℕ → ℕ
name S p c = cond (within 1 c S) (p c) c

-- a colouring in the new names
abbrev pub renamed : ℕ → (ℕ → ℕ) → List ℕ → List ℕ
renamed S p col = map (name S p) col

-- a move in the new names: a recolouring names a sector, no other move does
abbrev pub renamed_move : ℕ → (ℕ → ℕ) → Move → Move
renamed_move S p (Recolour make v c) = Recolour make v (record { 0 = name S p c.0 })
renamed_move S p (Exchange make a b) = Exchange make a b
renamed_move S p (Ask v) = Ask v
renamed_move S p (Refused s) = Refused s

-- the second number of a move in the new names: kinds 1 and 2 have a sector there
abbrev pub renamed_second : ℕ → (ℕ → ℕ) → ℕ → ℕ → ℕ
renamed_second S p kind b = cond (within 1 kind 2) (name S p b) b

-- the numbers of a list of moves in the new names
unfoldable pub renamed_moves : ℕ → (ℕ → ℕ) → List ℕ → List ℕ
renamed_moves S p [] = []
renamed_moves S p (kind ∷ []) = kind ∷ []
renamed_moves S p (kind ∷ a ∷ []) = kind ∷ a ∷ []
renamed_moves S p (kind ∷ a ∷ b ∷ moves) = kind ∷ a ∷ renamed_second S p kind b ∷ renamed_moves S p moves
