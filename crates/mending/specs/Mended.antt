-- Document 02, C-21: a colouring in which some regions are lost, and what these are given. A region that is lost has 0, the sector of no region.
-- Assumes nothing.
use Rattle.std.specs.Prelude.{ℕ, Bool, cond, not, ◌&&◌, ◌||◌, false, List, [], ◌∷◌, map, eqb, length, get_or}
use Rattle.lists.specs.Sums.{at, up_to, passing}
use Rattle.meaning.specs.Plan.{Edge}
use Rattle.meaning.specs.Kinds.{leads_to}

-- ---- what is lost

-- the sector of region v did not survive
abbrev pub is_lost : List ℕ → ℕ → Bool
is_lost col v = eqb (at col v) 0

-- the regions that are lost, in increasing order
abbrev pub lost : List ℕ → List ℕ
lost col = passing (is_lost col) (up_to (length col))

-- ---- what they are given

-- some edge has v and w as its ends
unfoldable pub joins : List Edge → ℕ → ℕ → Bool
joins [] v w = false
joins (e ∷ es) v w = leads_to (eqb w) v e || joins es v w

-- w is a neighbour of v, and its sector survived
abbrev pub beside_kept : List Edge → List ℕ → ℕ → ℕ → Bool
beside_kept edges col v w = joins edges v w && not (is_lost col w)

-- the lowest-numbered neighbour of v whose sector survived; 0 where there is none
unfoldable pub lowest_beside : List Edge → List ℕ → ℕ → ℕ
lowest_beside edges col v = get_or (passing (beside_kept edges col v) (up_to (length col))) 0 0

-- its sector, or sector 1 where there is none
unfoldable pub sector_given : List Edge → List ℕ → ℕ → ℕ
sector_given edges col v = let w = lowest_beside edges col v in cond (eqb w 0) 1 (at col w)

-- a region that is lost is given a sector, and any other keeps its own
unfoldable pub mended : List Edge → List ℕ → List ℕ
mended edges col = map (λ v. cond (is_lost col v) (sector_given edges col v) (at col v)) (up_to (length col))
