-- Document 01, "Meaning of the four kinds": who is joined to whom, and the labels of the components.
-- Assumes nothing.
use Rattle.std.specs.Prelude.{ℕ, min, max, ◌≡◌, List, [], ◌∷◌, map, ◌⊎◌, Bool, cond, length, eqb}
use Rattle.lists.specs.Sums.{at, up_to}
use Rattle.meaning.specs.Plan.{Edge}

-- an edge has u and w as its ends
abbrev pub Neighbours : List Edge → ℕ → ℕ → Type 0
Neighbours [] u w = ⊥
Neighbours (e ∷ es) u w = ((u ≡ e.a) × (w ≡ e.b)) ⊎ (((u ≡ e.b) × (w ≡ e.a)) ⊎ Neighbours es u w)

-- two regions are joined when a path of edges links them through regions of their own sector only; a region is joined to itself
pub data Joined (edges : List Edge) (colouring : List ℕ) : ℕ → ℕ → Type 0 where
  itself : {u : ℕ} → Joined edges colouring u u
  along : {u w v : ℕ} → Neighbours edges u w → at colouring u ≡ at colouring w → Joined edges colouring w v → Joined edges colouring u v

-- y in the place of x
abbrev pub instead : ℕ → ℕ → ℕ → ℕ
instead x y l = cond (eqb l x) y l

-- the smaller of two labels takes the place of the larger everywhere
abbrev pub merge : ℕ → ℕ → List ℕ → List ℕ
merge x y labels = map (instead (max x y) (min x y)) labels

-- an edge whose ends share a sector merges their labels
unfoldable pub take_in : List ℕ → Edge → List ℕ → List ℕ
take_in colouring e labels =
    cond (eqb (at colouring e.a) (at colouring e.b)) (merge (at labels e.a) (at labels e.b) labels) labels

-- each edge in its turn
unfoldable pub take_every : List ℕ → List Edge → List ℕ → List ℕ
take_every colouring [] labels = labels
take_every colouring (e ∷ es) labels = take_every colouring es (take_in colouring e labels)

-- the label of each region: the smallest region that it is joined to (`Labels` proves that this is so)
unfoldable pub labels : List Edge → List ℕ → List ℕ
labels edges colouring = take_every colouring edges (up_to (length colouring))

-- a component is the regions of one label: u is in the component of label l
abbrev pub in_component : List ℕ → ℕ → ℕ → Bool
in_component labels l u = eqb (at labels u) l

-- u is the label of its component
abbrev pub leads : List ℕ → ℕ → Bool
leads labels u = in_component labels u u
