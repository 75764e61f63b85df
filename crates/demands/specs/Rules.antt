-- Document 01's table of codes, with those of document 02, C-11 and C-12, turned round: the rule that each code stands for, and the place that it names.
-- Assumes nothing.
use Rattle.std.specs.Prelude.{ℕ, ◌+◌, ◌-◌, ◌*◌, ◌/◌, ◌%◌, ◌≤◌, ◌<◌, ◌≡◌, ◌⊎◌, List, [], ◌∷◌, ◌++◌, length, get_or}
use Rattle.lists.specs.Sums.{In, sum, Every}
use Rattle.meaning.specs.Plan.{Edge, EdgeLimits, VisitLimits, edge_length, visit_length, constraint_length, edge_at, flights_of, constraint_at, most_regions, most_sectors, most_workload, most_edges, most_area, most_flights, most_visits, most_kind, most_constraints, most_limit, most_weight, most_moves}
use Rattle.meaning.specs.Moves.{move_length, row_length, verdict_length}
use Rattle.refusals.specs.Table.{Given}
use Rattle.demands.specs.Tables.{Rule, ◌asks◌}

-- edge e comes after edge d: strictly increasing by a, then b
abbrev pub After : Edge → Edge → Type 0
After d e = (d.a < e.a) ⊎ ((d.a ≡ e.a) × (d.b < e.b))

-- edge k, from 0, keeps to its rules, and comes after the edge before it
pub record EdgeRules (R : ℕ) (edges : List ℕ) (k : ℕ) : Type 0 where
  pub limits : EdgeLimits R (edge_at edges k)
  pub after : (k ≡ 0) ⊎ After (edge_at edges (k - 1)) (edge_at edges k)

-- flight k, from 0, visits regions only, each of them for 1 to 86,400 seconds
abbrev pub FlightRules : ℕ → List ℕ → List ℕ → ℕ → Type 0
FlightRules R counts visits k = Every (VisitLimits R) (get_or (flights_of counts visits) k [])

-- constraint k, from 0, is of one of the kinds 1 to `kinds`, its kind takes its relation: kinds 1, 4 and 5 any, kinds 2 and 3 relation 1, and its limit and weight are within theirs
pub record ConstraintRules (kinds : ℕ) (constraints : List ℕ) (k : ℕ) : Type 0 where
  pub kind : In kinds (constraint_at constraints k).kind
  pub relation : In 6 (constraint_at constraints k).relation
  pub takes : (((constraint_at constraints k).kind ≡ 1) ⊎ (4 ≤ (constraint_at constraints k).kind)) ⊎ ((constraint_at constraints k).relation ≡ 1)
  pub limit : (constraint_at constraints k).limit ≤ most_limit
  pub weight : In most_weight (constraint_at constraints k).weight

-- each of n items, from 0, is right
abbrev pub Each : ℕ → (ℕ → Type 0) → Type 0
Each n Right = (k : ℕ) → k < n → Right k

-- place is that of the first of n items, from 1, that is not right
pub record First (n : ℕ) (Right : ℕ → Type 0) (place : ℕ) : Type 0 where
  pub named : In n place
  pub off : Right (place - 1) → ⊥
  pub before : Each (place - 1) Right

-- a list of the wrong length names no place; one of the right length names the first item that is not right
abbrev pub ListPlace : Type 0 → ℕ → (ℕ → Type 0) → ℕ → Type 0
ListPlace Long n Right place = ((Long → ⊥) × (place ≡ 0)) ⊎ (Long × First n Right place)

-- code 1: R is within its limits
abbrev pub RegionsFit : Given → Type 0
RegionsFit g = In most_regions g.R

-- code 2: S is within its limits
abbrev pub SectorsFit : Given → Type 0
SectorsFit g = In most_sectors g.S

-- code 3: the workload list is R long, and no workload is too large
abbrev pub WorkloadsFit : Given → Type 0
WorkloadsFit g = (length g.workloads ≡ g.R) × Each (length g.workloads) (λ k. get_or g.workloads k 0 ≤ most_workload)

-- code 14: the outside list is R long, and no outside area is too large
abbrev pub OutsideFits : Given → Type 0
OutsideFits g = (length g.outside ≡ g.R) × Each (length g.outside) (λ k. get_or g.outside k 0 ≤ most_area)

-- code 4: the edge numbers are a multiple of three, and there are not over 2,048 edges
abbrev pub EdgeCountFits : Given → Type 0
EdgeCountFits g = (length g.edges % edge_length ≡ 0) × (length g.edges / edge_length ≤ most_edges)

-- code 5: each edge keeps to its rules, and is above the edge before it
abbrev pub EdgesFit : Given → Type 0
EdgesFit g = Each (length g.edges / edge_length) (EdgeRules g.R g.edges)

-- code 13: there are not over 64 flights, and each count is one of 1..32;
abbrev pub CountsFit : Given → Type 0
CountsFit g = (length g.counts ≤ most_flights) × Each (length g.counts) (λ k. In most_visits (get_or g.counts k 0))

-- the visit list is twice their sum long, and each flight keeps to its rules
abbrev pub VisitsFit : Given → Type 0
VisitsFit g = (length g.visits ≡ visit_length * sum g.counts (λ n. n)) × Each (length g.counts) (FlightRules g.R g.counts g.visits)

-- code 6: the constraint numbers are a multiple of four, and there are 1..16 constraints
abbrev pub ConstraintCountFits : Given → Type 0
ConstraintCountFits g = (length g.constraints % constraint_length ≡ 0) × In most_constraints (length g.constraints / constraint_length)

-- code 7: each constraint has one of the kinds, a relation that its kind takes, and limit and weight within theirs
abbrev pub ConstraintsFit : ℕ → Given → Type 0
ConstraintsFit kinds g = Each (length g.constraints / constraint_length) (ConstraintRules kinds g.constraints)

-- code 8: the colouring is R long, and each sector is one of 1..S
abbrev pub ColouringFits : Given → Type 0
ColouringFits g = (length g.colouring ≡ g.R) × Each (length g.colouring) (λ k. In g.S (get_or g.colouring k 0))

-- code 9: the move numbers are a multiple of three, and there are not over 4,096 moves
abbrev pub MovesFit : Given → Type 0
MovesFit g = (length g.moves % move_length ≡ 0) × (length g.moves / move_length ≤ most_moves)

-- code 10: there is room for four numbers a move
abbrev pub RowsFit : Given → Type 0
RowsFit g = row_length * (length g.moves / move_length) ≤ g.rows

-- code 11: there is room for two numbers a constraint
abbrev pub VerdictsFit : Given → Type 0
VerdictsFit g = verdict_length * (length g.constraints / constraint_length) ≤ g.verdicts

-- code 12: the work memory is at least R + 2 S + 1 long
abbrev pub WorkFits : Given → Type 0
WorkFits g = g.R + 2 * g.S + 1 ≤ g.work

-- the codes on a plan with constraints of the kinds 1 to `kinds`, and their rules, in the order in which they are checked
abbrev pub plan_rules : ℕ → Given → List Rule
plan_rules kinds g =
    (1 asks RegionsFit g)
    ∷ (2 asks SectorsFit g)
    ∷ (3 asks WorkloadsFit g)
    ∷ (14 asks OutsideFits g)
    ∷ (4 asks EdgeCountFits g)
    ∷ (5 asks EdgesFit g)
    ∷ (13 asks (CountsFit g × VisitsFit g))
    ∷ (6 asks ConstraintCountFits g)
    ∷ (7 asks ConstraintsFit kinds g)
    ∷ (8 asks ColouringFits g)
    ∷ []

-- those on the moves and on the room that is lent
abbrev pub room_rules : Given → List Rule
room_rules g =
    (9 asks MovesFit g)
    ∷ (10 asks RowsFit g)
    ∷ (11 asks VerdictsFit g)
    ∷ (12 asks WorkFits g)
    ∷ []

-- all of the call's
abbrev pub rules : Given → List Rule
rules g = plan_rules most_kind g ++ room_rules g

-- ---- places

-- code 3: none for a list not R long, else the first workload that is too large
abbrev pub WorkloadPlace : Given → ℕ → Type 0
WorkloadPlace g = ListPlace (length g.workloads ≡ g.R) (length g.workloads) (λ k. get_or g.workloads k 0 ≤ most_workload)

-- code 14: none for a list not R long, else the first outside area that is too large
abbrev pub OutsidePlace : Given → ℕ → Type 0
OutsidePlace g = ListPlace (length g.outside ≡ g.R) (length g.outside) (λ k. get_or g.outside k 0 ≤ most_area)

-- code 5: the first edge against its rules
abbrev pub EdgePlace : Given → ℕ → Type 0
EdgePlace g = First (length g.edges / edge_length) (EdgeRules g.R g.edges)

-- code 13: none for more than 64 flights, else the first flight with a wrong count; then none for a visit list not twice their sum long, else the first flight with a wrong visit
abbrev pub FlightPlace : Given → ℕ → Type 0
FlightPlace g place =
    ListPlace (length g.counts ≤ most_flights) (length g.counts) (λ k. In most_visits (get_or g.counts k 0)) place
    ⊎ (CountsFit g × ListPlace (length g.visits ≡ visit_length * sum g.counts (λ n. n)) (length g.counts) (FlightRules g.R g.counts g.visits) place)

-- code 7: the first constraint against its rules
abbrev pub ConstraintPlace : ℕ → Given → ℕ → Type 0
ConstraintPlace kinds g = First (length g.constraints / constraint_length) (ConstraintRules kinds g.constraints)

-- code 8: none for a list not R long, else the first sector outside 1..S
abbrev pub SectorPlace : Given → ℕ → Type 0
SectorPlace g = ListPlace (length g.colouring ≡ g.R) (length g.colouring) (λ k. In g.S (get_or g.colouring k 0))
