-- The arrays that a call keeps of its own: their fronts are as long as the plan asks, and hold its neighbours, its constraints by kind and the flights that visit each region.
-- Assumes nothing.
use Rattle.std.specs.Prelude.{ℕ, ◌+◌, ◌-◌, ◌*◌, ◌/◌, ◌≤◌, ◌≡◌, refl, List, ℤ, ◌++◌, length, take, drop}
use Rattle.std.proofs.Common.{arith, ◌∙◌, length-take-le}
use Rattle.lists.specs.Sums.{sum}
use Rattle.lists.specs.SumLaws.{few_bound, every_turn}
use Rattle.lists.specs.ListLaws.{length-list_of}
use Rattle.lists.specs.Fronts.{zeros, zeros_room}
use Rattle.meaning.specs.Plan.{Plan, plan_of, edge_length, visit_length, constraint_length, edge_at, edges_of, constraints_of, most_regions, most_sectors, most_edges, most_flights, most_visits, most_constraints}
use Rattle.meaning.specs.Flights.{length-flights_of}
use Rattle.meaning.specs.Paths.{Ends, limits_ends}
use Rattle.meaning.specs.Prices.{shared, limited, timed}
use Rattle.kinds.specs.Constraints.{length_constraints}
use Rattle.flights.specs.Flying.{Flying}
use Rattle.visitors.specs.Visitors.{Visitors}
use Rattle.refusals.specs.Table.{Given}
use Rattle.refusals.specs.Valid.{Valid}
use Rattle.judge.specs.FigureLaws.{whole_by}
use Rattle.neighbours.specs.Table.{Table}
use Rattle.engine.specs.declared.Prepared.{Prepared}
use Rattle.engine.specs.State.{Setting, Opening}
use Rattle.engine.specs.Sorted.{Sorted, sorted_paying}
use Rattle.engine.specs.Flown.{Priced, Flown}
use Rattle.call.specs.Promise.{Input, input}

-- all that a call is given, of which the plan is prepared
abbrev pub input_prepared : Prepared → List ℕ → List ℕ → List ℤ → List ℕ → List ℕ → Input
input_prepared p =
    input (length p.lists.workloads.now) p.lists.sectors p.lists.workloads.now p.lists.outside.now p.faces.edges.now p.lists.counts.now p.lists.visits.now p.lists.constraints.now

-- ---- what a valid call lends

-- the plan that a call is given
abbrev plan_given : Given → Plan
plan_given g = plan_of g.R g.S g.workloads g.outside g.edges g.counts g.visits g.constraints

-- how many starts there are where flights visit regions: one for each region and each flight, and one more
abbrev pub row_count : Given → ℕ
row_count g = g.R + length g.counts + 1

-- so many there may be
abbrev pub most_rows : ℕ
most_rows = most_regions + most_flights + 1

-- the front of the array of starts: one for each region, and one more
abbrev starts_of : Given → List ℕ
starts_of g = take (g.R + 1) (zeros (most_regions + 1))

module _ {g : Given} (v : Valid g) where
  -- there is room for the starts
  pub few_regions : g.R + 1 ≤ length (zeros (most_regions + 1))
  few_regions = zeros_room (most_regions + 1) (omega (arith, v.plan.limits.R.high))

  -- the front has R + 1 numbers
  pub starts_lent : length (starts_of g) ≡ g.R + 1
  starts_lent = length-take-le (g.R + 1) (zeros (most_regions + 1)) few_regions

  -- one more than there are regions
  less_one : length (starts_of g) - 1 ≡ g.R
  less_one = omega (arith, starts_lent)

  -- the ends of the edges are regions that have a start
  pub starts_ends : Ends (length (starts_of g) - 1) (edges_of g.edges)
  starts_ends = rw less_one (limits_ends (plan_given g) v.plan.limits)

  -- there is room for the two neighbours of each edge
  pub edges_fit : 2 * (length g.edges / edge_length) ≤ 2 * most_edges
  unfolding edges_of
  edges_fit = omega (arith, v.plan.limits.edges, length-list_of (length g.edges / edge_length) (edge_at g.edges))

  -- with the neighbours gathered and the workloads summed, all is known that no move changes
  pub gathered_setting : {W : ℕ} {start near areas : List ℕ} → W ≡ sum g.workloads (λ w. w) → Table (length (starts_of g) - 1) (edges_of g.edges) start near areas
      → Setting (plan_given g) W start near areas (zeros (most_regions + 1))
  gathered_setting w t =
      record {
        limits = v.plan.limits;
        table = rw less_one at t;
        whole = w ∙ whole_by (plan_given g) v.plan.limits.workloads;
        queue = omega (arith, few_regions);
      }

  -- there is room for what each sector pays
  pub prices_room : g.S ≤ length (zeros most_sectors)
  prices_room = zeros_room most_sectors v.plan.limits.S.high

  -- the front of the array of prices has a number for each sector
  pub prices_lent : length (take g.S (zeros most_sectors)) ≡ g.S
  prices_lent = length-take-le g.S (zeros most_sectors) prices_room

  -- what the first judgement finds
  pub lent_opening : (w : List ℕ) → length w ≡ g.work → Opening (plan_given g) g.colouring w (take g.S (zeros most_sectors))
  lent_opening w e = record { coloured = v.plan.coloured; room = omega (arith, v.work_room); prices = prices_lent }

  -- ---- the constraints

  -- there is room for those of some kinds
  pub picked_fit : length g.constraints ≤ length (zeros (constraint_length * most_constraints))
  picked_fit = zeros_room (constraint_length * most_constraints) (omega (arith, v.plan.constraints_whole, v.plan.limits.constraints, length_constraints g.constraints))

  -- with those of kinds 1 to 3 and of kind 4 picked out the engine has them as it asks
  pub picked_sorted : {sh li : List ℕ} → constraints_of sh ≡ shared (constraints_of g.constraints) → constraints_of li ≡ limited (constraints_of g.constraints) → Sorted (plan_given g) sh li
  picked_sorted s l = record { shared = s; limited = l }

  -- ---- the flights

  -- they are within the limits
  pub valid_flying : Flying g.R g.counts g.visits
  valid_flying =
      record {
        few = rw (length-flights_of g.counts g.visits) at v.plan.limits.flights;
        count = v.plan.count;
        size = v.plan.visits-whole;
        flight = v.plan.limits.flight;
      }

  -- with the constraints of kind 5 picked out they can be priced
  pub picked_priced : {picked : List ℕ} → constraints_of picked ≡ timed (constraints_of g.constraints) → Priced (plan_given g) picked g.counts g.visits
  picked_priced e = record { flying = valid_flying; timing = sorted_paying v.plan.limits 5 5 e; flights = refl; picked = e }

  -- there is room for the starts
  pub few_rows : row_count g ≤ length (zeros most_rows)
  few_rows = zeros_room most_rows (omega (arith, v.plan.limits.R.high, valid_flying.few))

  -- the front has so many
  pub rows_lent : length (take (row_count g) (zeros most_rows)) ≡ row_count g
  rows_lent = length-take-le (row_count g) (zeros most_rows) few_rows

  -- there is room for the visits
  pub visits_fit : length g.visits ≤ visit_length * (most_flights * most_visits)
  visits_fit = omega (arith, v.plan.visits-whole, few_bound most_flights most_visits g.counts (λ n. n) valid_flying.few (every_turn (λ n i. i.high) g.counts v.plan.count))

  -- with the visitors gathered all is known of the flights that no move changes
  pub gathered_flown : {picked starts numbers firsts : List ℕ} → Priced (plan_given g) picked g.counts g.visits → Visitors g.R g.counts g.visits starts numbers firsts
      → Flown (plan_given g) picked g.counts g.visits starts numbers firsts
  gathered_flown p t = record { priced = p; table = λ _. t }

  -- with no constraint of kind 5 none need be gathered
  pub empty_flown : {picked visited flights firsts : List ℕ} → length picked ≡ 0 → Priced (plan_given g) picked g.counts g.visits → Flown (plan_given g) picked g.counts g.visits visited flights firsts
  empty_flown e p = record { priced = p; table = λ h. absurd (omega (arith, e)) }
