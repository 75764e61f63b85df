-- Document 01, "The call and what it refuses", and document 02, C-11 and C-12: when an item of a flat list is right, and the first that is not.
-- Assumes nothing.
use Rattle.std.specs.Prelude.{ℕ, zero, suc, ◌+◌, ◌-◌, ◌/◌, ◌%◌, Bool, true, cond, ◌&&◌, ◌||◌, Option, None, Some, List, [], ◌∷◌, eqb, leb, ltb, length, get_or}
use Rattle.terms.specs.Plan.{within}
use Rattle.meaning.specs.Plan.{Edge, Visit, edge_at, flights_of, constraint_at, most_area, most_visits, most_dwell, most_limit, most_weight}

-- a flat list of records: whole records, and low..high of them
abbrev pub records : ℕ → ℕ → ℕ → List ℕ → Bool
records width low high xs = eqb (length xs % width) 0 && within low (length xs / width) high

-- the place, from 1, of the first of the items k, k + 1, .., n of them, that is not right; 0 where all are
unfoldable pub off_from : ℕ → ℕ → (ℕ → Bool) → ℕ
off_from k zero right = 0
off_from k (suc n) right = cond (right k) (off_from (suc k) n right) (suc k)

abbrev pub first_off : ℕ → (ℕ → Bool) → ℕ
first_off n right = off_from 0 n right

-- the place, from 1, of the item at an index; 0 where there is none
abbrev pub place_of : Option ℕ → ℕ
place_of None = 0
place_of (Some k) = k + 1

-- ---- the items

-- a workload, or a face to the outside
abbrev pub at_most : ℕ → List ℕ → ℕ → Bool
at_most most xs k = leb (get_or xs k 0) most

-- strictly increasing by a, then b
abbrev pub above : Edge → Edge → Bool
above d e = ltb d.a e.a || (eqb d.a e.a && ltb d.b e.b)

unfoldable pub edge_right : ℕ → List ℕ → ℕ → Bool
edge_right R edges k =
    let e = edge_at edges k in
    leb 1 e.a && ltb e.a e.b && leb e.b R && within 1 e.area most_area && (eqb k 0 || above (edge_at edges (k - 1)) e)

abbrev pub count_right : List ℕ → ℕ → Bool
count_right counts k = within 1 (get_or counts k 0) most_visits

-- a flight of which each visit is to a region, and of 1 to 86,400 seconds
unfoldable pub visits_right : ℕ → List Visit → Bool
visits_right R [] = true
visits_right R (v ∷ vs) = within 1 v.region R && within 1 v.dwell most_dwell && visits_right R vs

abbrev pub flight_right : ℕ → List ℕ → List ℕ → ℕ → Bool
flight_right R counts visits k = visits_right R (get_or (flights_of counts visits) k [])

-- kinds 1, 4 and 5 take any relation, kinds 2 and 3 relation 1 only
abbrev pub takes : ℕ → ℕ → Bool
takes kind relation = within 1 relation 6 && (eqb kind 1 || leb 4 kind || eqb relation 1)

-- of the kinds 1 to `kinds`
unfoldable pub constraint_right : ℕ → List ℕ → ℕ → Bool
constraint_right kinds constraints k =
    let c = constraint_at constraints k in
    within 1 c.kind kinds && takes c.kind c.relation && leb c.limit most_limit && within 1 c.weight most_weight

abbrev pub sector_right : ℕ → List ℕ → ℕ → Bool
sector_right S colouring k = within 1 (get_or colouring k 0) S
