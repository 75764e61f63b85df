-- The visits of the flights as edges, each from the region that is visited to the flight.
-- Assumes nothing.
use Rattle.std.specs.Prelude.{ℕ, ◌+◌, ◌*◌, List, [], ◌∷◌, ◌++◌, map, cond, eqb, take, drop}
use Rattle.meaning.specs.Plan.{Edge, Visit, visit_length, visits_of}

-- a visit of the flight with a number, as an edge: the area is the index of the flight's first visit
abbrev pub hop : ℕ → ℕ → Visit → Edge
hop number first v = record { a = v.region; b = number; area = first }

-- the hops of flights that are numbered from m + 1, and whose visits have the indices from p on
unfoldable pub hops : ℕ → ℕ → List ℕ → List ℕ → List Edge
hops m p [] visits = []
hops m p (n ∷ counts) visits =
    map (hop (m + 1) p) (visits_of (take (visit_length * n) visits)) ++ hops (m + 1) (p + n) counts (drop (visit_length * n) visits)

-- the hops of all flights: they are numbered from R + 1, so that no flight has the number of a region
abbrev pub hops_of : ℕ → List ℕ → List ℕ → List Edge
hops_of R counts visits = hops R 0 counts visits

-- the hops at region v, in order
unfoldable pub hops_at : ℕ → List Edge → List Edge
hops_at v [] = []
hops_at v (e ∷ es) = cond (eqb e.a v) (e ∷ hops_at v es) (hops_at v es)
