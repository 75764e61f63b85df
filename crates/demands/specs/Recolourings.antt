-- A made recolouring to another sector: how many components each sector has after it, and which labels stay. An exchange is two of them in turn.
-- Assumes nothing.
use Rattle.std.specs.Prelude.{ℕ, ◌+◌, ◌≡◌, ◌≢◌, Bool, false, ◌||◌, List, [], ◌∷◌, eqb}
use Rattle.lists.specs.Sums.{In, at}
use Rattle.terms.specs.Moves.{recolouring, exchange}
use Rattle.meaning.specs.Plan.{Plan}
use Rattle.meaning.specs.Joined.{labels}
use Rattle.meaning.specs.Faces.{shares, beside, pieces}
use Rattle.demands.specs.Work.{Numbers}

-- region u is in the component of region v, or in one of sector d that shares a face with v
unfoldable pub concerned : Plan → List ℕ → ℕ → ℕ → ℕ → Bool
concerned P col v d u =
    let ls = labels P.edges col in
    eqb (at ls u) (at ls v) || shares P.edges col ls v d (at ls u)

-- what labels and component counts do, from old to new, when region v goes from the sector that it has in the colouring before to sector d
pub record Recolouring (P : Plan) (before : List ℕ) (v d : ℕ) (old new : Numbers) : Type 0 where
  -- the old sector's components grow by the pieces that v's own falls into without v, less one
  pub goes : new.components (at before v) + 1 ≡ old.components (at before v) + pieces P.edges before v
  -- the new sector's components fall by those of them that share a face with v, less one
  pub comes : new.components d + beside P.edges before v d ≡ old.components d + 1
  -- every other sector has as many as before
  pub others : (c : ℕ) → In P.S c → c ≢ d → c ≢ at before v → new.components c ≡ old.components c
  -- every region outside these components keeps its label
  pub labels : (u : ℕ) → In P.R u → concerned P before v d u ≡ false → new.label u ≡ old.label u

-- three numbers that make a recolouring: region v is given to sector d
abbrev pub make_recolour : ℕ → ℕ → List ℕ
make_recolour v d = 2 ∷ v ∷ d ∷ []

-- three numbers that make an exchange of the sectors of regions a and b
abbrev pub make_exchange : ℕ → ℕ → List ℕ
make_exchange a b = 4 ∷ a ∷ b ∷ []
