-- The constraints sorted out by kind, and what those of the kinds 4 and 5 add to the total: each sector's workload, and each stretch of a flight, has its price.
-- Assumes nothing.
use Rattle.std.specs.Prelude.{ℕ, ◌*◌, List, [], ◌∷◌, map, Bool, true, cond, ◌||◌, eqb}
use Rattle.lists.specs.Sums.{sum}
use Rattle.terms.specs.Plan.{within}
use Rattle.terms.specs.Distance.{distance}
use Rattle.meaning.specs.Plan.{Visit, Constraint, Plan, sectors, most_sectors, most_flights, most_visits, most_constraints, most_weight}
use Rattle.meaning.specs.Stretches.{stretches, dwell_of, visits}
use Rattle.meaning.specs.Kinds.{load, bounded, dwelling}
use Rattle.meaning.specs.Bounds.{most_off, most_distance}

-- ---- the constraints by kind

-- the constraints of the kinds low to high
unfoldable pub of_kinds : ℕ → ℕ → List Constraint → List Constraint
of_kinds low high [] = []
of_kinds low high (k ∷ ks) = cond (within low k.kind high) (k ∷ of_kinds low high ks) (of_kinds low high ks)

-- those of the kinds 1 to 3: what they ask of a colouring is in a few numbers that all of them share
abbrev pub shared : List Constraint → List Constraint
shared ks = of_kinds 1 3 ks

-- those of kind 4, which limit the workload of each sector
abbrev pub limited : List Constraint → List Constraint
limited ks = of_kinds 4 4 ks

-- those of kind 5, which limit the time of each stretch
abbrev pub timed : List Constraint → List Constraint
timed ks = of_kinds 5 5 ks

-- a number for each constraint, times its weight, summed
abbrev pub weighted : List Constraint → (Constraint → ℕ) → ℕ
weighted ks f = sum ks (λ k. k.weight * f k)

-- the summed weight of the constraints of a kind
unfoldable pub weight_of : ℕ → List Constraint → ℕ
weight_of kind ks = sum ks (λ k. cond (eqb k.kind kind) k.weight 0)

-- the price of a number, be it a workload or the seconds of a stretch: its distance from the limit of each constraint, times the weight
unfoldable pub price : List Constraint → ℕ → ℕ
price ks x = weighted ks (λ k. distance k.relation x k.limit)

-- ---- the workloads

-- what sector c pays for all constraints of kind 4
unfoldable pub sector_price : Plan → List ℕ → ℕ → ℕ
sector_price P col c = price (limited P.constraints) (load P col c)

-- what each sector pays
unfoldable pub prices : Plan → List ℕ → List ℕ
prices P col = map (sector_price P col) (sectors P)

-- what the constraints of kind 4 add to the total
unfoldable pub limit_total : Plan → List ℕ → ℕ
limit_total P col = sum P.constraints (λ k. k.weight * cond (eqb k.kind 4) (bounded P col k) 0)

-- the most that a sector may pay
abbrev pub most_sector_price : ℕ
most_sector_price = most_constraints * (most_weight * most_distance)

-- the most that kind 4 may add, about 1.03 * 10 ^ 17: with what all other kinds may add it is within the most that a total may be (omega finds it)
abbrev pub most_limit_total : ℕ
most_limit_total = most_sectors * most_sector_price

-- ---- the flights

-- the price of a flight: of all its stretches, or only of those that visit region v
unfoldable pub flight_price : List Constraint → List ℕ → Bool → ℕ → List Visit → ℕ
flight_price ks col all v flight = sum (stretches col flight) (λ s. cond (all || visits v s) (price ks (dwell_of s)) 0)

-- the price of all flights
unfoldable pub flights_price : List Constraint → List ℕ → List (List Visit) → ℕ
flights_price ks col flights = sum flights (flight_price ks col true 0)

-- the price of the flights that visit region v: of all their stretches, or only of those that visit it
unfoldable pub visitors_price : List Constraint → List ℕ → Bool → ℕ → List (List Visit) → ℕ
visitors_price ks col all v flights = sum flights (λ flight. cond (visits v flight) (flight_price ks col all v flight) 0)

-- what the constraints of kind 5 add to the total
unfoldable pub dwell_total : Plan → List ℕ → ℕ
dwell_total P col = sum P.constraints (λ k. k.weight * cond (eqb k.kind 5) (dwelling P col k) 0)

-- the most that it may be, about 3.28 * 10 ^ 18: within the most that a total may be, and three times as much is below 2 ^ 64 (omega finds both)
abbrev pub most_dwell_total : ℕ
most_dwell_total = most_flights * (most_visits * (most_constraints * (most_weight * most_off)))
