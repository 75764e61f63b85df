-- Document 01, "The plan", and document 02, C-11 and C-12: a plan and its parts, from the flat lists of numbers.
-- Assumes nothing.
use Rattle.std.specs.Prelude.{ℕ, ◌+◌, ◌*◌, ◌/◌, ◌≤◌, ◌<◌, ◌≡◌, List, [], ◌∷◌, length, get_or, take, drop, replicate}
use Rattle.lists.specs.Sums.{In, at, up_to, list_of, Every}
use Rattle.meaning.specs.declared.Edge as edge
use Rattle.meaning.specs.declared.Constraint as constraint

-- two regions that share a face, and the area of the face
abbrev pub Edge : Type 0
Edge = edge.Edge

-- what is asked of a plan, and how much it weighs
abbrev pub Constraint : Type 0
Constraint = constraint.Constraint

-- a region that a flight visits, and for how many seconds
pub record Visit : Type 0 where
  pub region : ℕ
  pub dwell : ℕ

-- a plan but for its colouring: how many regions and sectors there are, each region's workload and the area of its face to the outside, the edges, the visits of each flight in order, and the constraints
pub record Plan : Type 0 where
  pub R : ℕ
  pub S : ℕ
  pub workloads : List ℕ
  pub outside : List ℕ
  pub edges : List Edge
  pub flights : List (List Visit)
  pub constraints : List Constraint

-- how many numbers of the flat lists an edge, a visit and a constraint take
abbrev pub edge_length : ℕ
edge_length = 3

abbrev pub visit_length : ℕ
visit_length = 2

abbrev pub constraint_length : ℕ
constraint_length = 4

-- edge k, from 0, of the flat list
abbrev pub edge_at : List ℕ → ℕ → Edge
edge_at xs k = record { a = get_or xs (edge_length * k) 0; b = get_or xs (edge_length * k + 1) 0; area = get_or xs (edge_length * k + 2) 0 }

-- visit k, from 0, of the flat list
abbrev pub visit_at : List ℕ → ℕ → Visit
visit_at xs k = record { region = get_or xs (visit_length * k) 0; dwell = get_or xs (visit_length * k + 1) 0 }

-- constraint k, from 0, of the flat list
abbrev pub constraint_at : List ℕ → ℕ → Constraint
constraint_at xs k =
    record {
      kind = get_or xs (constraint_length * k) 0;
      relation = get_or xs (constraint_length * k + 1) 0;
      limit = get_or xs (constraint_length * k + 2) 0;
      weight = get_or xs (constraint_length * k + 3) 0;
    }

-- the edges of the flat list, in its order
unfoldable pub edges_of : List ℕ → List Edge
edges_of xs = list_of (length xs / edge_length) (edge_at xs)

-- the visits of the flat list, in its order
unfoldable pub visits_of : List ℕ → List Visit
visits_of xs = list_of (length xs / visit_length) (visit_at xs)

-- the flights of the flat lists: each takes from the visits as many as its count says
unfoldable pub flights_of : List ℕ → List ℕ → List (List Visit)
flights_of [] visits = []
flights_of (n ∷ counts) visits = visits_of (take (visit_length * n) visits) ∷ flights_of counts (drop (visit_length * n) visits)

-- the constraints of the flat list, in its order: a constraint is known by its place in it
unfoldable pub constraints_of : List ℕ → List Constraint
constraints_of xs = list_of (length xs / constraint_length) (constraint_at xs)

-- the plan of the flat lists
abbrev pub plan_of : ℕ → ℕ → List ℕ → List ℕ → List ℕ → List ℕ → List ℕ → List ℕ → Plan
plan_of R S workloads outside edges counts visits constraints =
    record {
      R = R;
      S = S;
      workloads = workloads;
      outside = outside;
      edges = edges_of edges;
      flights = flights_of counts visits;
      constraints = constraints_of constraints;
    }

-- the plan with another number of sectors
abbrev pub with_sectors : Plan → ℕ → Plan
with_sectors P S =
    record {
      R = P.R;
      S = S;
      workloads = P.workloads;
      outside = P.outside;
      edges = P.edges;
      flights = P.flights;
      constraints = P.constraints;
    }

-- the outside areas of a plan that comes without them
abbrev pub no_outside : ℕ → List ℕ
no_outside R = replicate R 0

-- regions are numbered 1..R
abbrev pub regions : Plan → List ℕ
regions P = up_to P.R

-- sectors are numbered 1..S
abbrev pub sectors : Plan → List ℕ
sectors P = up_to P.S

-- ---- the limits

abbrev pub most_regions : ℕ
most_regions = 512

abbrev pub most_sectors : ℕ
most_sectors = 64

abbrev pub most_workload : ℕ
most_workload = 1_000_000

abbrev pub most_edges : ℕ
most_edges = 2_048

-- of an edge, or of a face to the outside
abbrev pub most_area : ℕ
most_area = 1_000_000

abbrev pub most_flights : ℕ
most_flights = 64

-- of one flight
abbrev pub most_visits : ℕ
most_visits = 32

abbrev pub most_dwell : ℕ
most_dwell = 86_400

-- how many kinds of constraints there are
abbrev pub most_kind : ℕ
most_kind = 5

abbrev pub most_constraints : ℕ
most_constraints = 16

abbrev pub most_limit : ℕ
most_limit = 100_000_000_000

abbrev pub most_weight : ℕ
most_weight = 1_000

abbrev pub most_moves : ℕ
most_moves = 4_096

-- an edge's ends are two regions, the lower first
pub record EdgeLimits (R : ℕ) (e : Edge) : Type 0 where
  pub low : 1 ≤ e.a
  pub rise : e.a < e.b
  pub high : e.b ≤ R
  pub area : In most_area e.area

pub record VisitLimits (R : ℕ) (v : Visit) : Type 0 where
  pub region : In R v.region
  pub dwell : In most_dwell v.dwell

pub record FlightLimits (R : ℕ) (flight : List Visit) : Type 0 where
  pub visits : In most_visits (length flight)
  pub visit : Every (VisitLimits R) flight

pub record ConstraintLimits (k : Constraint) : Type 0 where
  pub kind : In most_kind k.kind
  pub relation : In 6 k.relation
  pub limit : k.limit ≤ most_limit
  pub weight : In most_weight k.weight

-- a plan within the limits
pub record Limits (P : Plan) : Type 0 where
  pub R : In most_regions P.R
  pub S : In most_sectors P.S
  pub workloads : length P.workloads ≡ P.R
  pub workload : Every (λ w. w ≤ most_workload) P.workloads
  pub outside : length P.outside ≡ P.R
  pub outside_area : Every (λ a. a ≤ most_area) P.outside
  pub edges : length P.edges ≤ most_edges
  pub edge : Every (EdgeLimits P.R) P.edges
  pub flights : length P.flights ≤ most_flights
  pub flight : Every (FlightLimits P.R) P.flights
  pub constraints : length P.constraints ≤ most_constraints
  pub constraint : Every ConstraintLimits P.constraints

-- a colouring gives each region a sector: that of region u is `at colouring u`
pub record Coloured (P : Plan) (colouring : List ℕ) : Type 0 where
  pub size : length colouring ≡ P.R
  pub sector : (u : ℕ) → In P.R u → In P.S (at colouring u)
