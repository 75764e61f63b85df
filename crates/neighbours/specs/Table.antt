-- The edges at each region, and the arrays that hold them in compressed rows.
-- Assumes nothing.
use Rattle.std.specs.Prelude.{ℕ, ◌+◌, ◌≤◌, ◌<◌, ◌≡◌, List, [], ◌∷◌, Bool, true, false, eqb, length, get_or}
use Rattle.lists.specs.Sums.{In, at}
use Rattle.meaning.specs.Plan.{Edge}
use Rattle.meaning.specs.Paths.{Ends}

-- x in front, where the test passes
abbrev pub when : Bool → ℕ → List ℕ → List ℕ
when true x l = x ∷ l
when false x l = l

-- of each edge at v, in order, what f makes of its other end and of its area
unfoldable pub sides : (ℕ → ℕ → ℕ) → List Edge → ℕ → List ℕ
sides f [] v = []
sides f (e ∷ es) v = when (eqb e.a v) (f e.b e.area) (when (eqb e.b v) (f e.a e.area) (sides f es v))

-- the neighbours of v
abbrev pub near : List Edge → ℕ → List ℕ
near edges v = sides (λ w area. w) edges v

-- the areas of the faces that v shares with them
abbrev pub areas : List Edge → ℕ → List ℕ
areas edges v = sides (λ w area. area) edges v

-- start, near and areas hold, for each region of 1..R, the neighbours and the areas: those of region v stand from index `at start v` up to `get_or start v 0`
pub record Table (R : ℕ) (edges : List Edge) (start nb ar : List ℕ) : Type 0 where
  pub size : length start ≡ R + 1
  pub ends : Ends R edges
  pub next : (v : ℕ) → In R v → at start v + length (near edges v) ≡ get_or start v 0
  pub fits : (v : ℕ) → In R v → get_or start v 0 ≤ length nb
  pub same : length ar ≡ length nb
  pub cell : (v k : ℕ) → In R v → k < length (near edges v) → get_or nb (at start v + k) 0 ≡ get_or (near edges v) k 0
  pub area : (v k : ℕ) → In R v → k < length (near edges v) → get_or ar (at start v + k) 0 ≡ get_or (areas edges v) k 0
