-- What the judging functions take for granted: that the numbers are as small as the limits of the documents make them.
-- Assumes nothing.
use Rattle.std.specs.Prelude.{ℕ, ◌-◌, ◌*◌, ◌/◌, ◌≤◌, ◌<◌, ◌^◌, ◌≡◌, List, Bool, not, eqb, length}
use Rattle.std.proofs.Common.{mul-le-mul}
use native.Mathlib.Omega.{arith}
use Rattle.lists.specs.Sums.{In, sum, Every}
use Rattle.lists.specs.SumLaws.{few_bound, every_turn}
use Rattle.lists.specs.ListLaws.{list_of_every}
use Rattle.lists.specs.Tests.{cond-le, bit_le}
use Rattle.lists.specs.Few.{Few, few_sum, few_table}
use Rattle.terms.specs.Distance.{gap, stands, distance}
use Rattle.terms.specs.DistanceLaws.{distance_bound}
use Rattle.meaning.specs.Plan.{Edge, Constraint, Plan, Limits, ConstraintLimits, most_regions, most_sectors, most_workload, most_edges, most_area, most_constraints, most_limit, most_weight, edge_length, edge_at, edges_of, constraint_at, constraints_of}
use Rattle.meaning.specs.Joined.{labels, leads}
use Rattle.meaning.specs.Kinds.{ncc, ncc_all, load, whole, area_of, counts, loads, by_kind}
use Rattle.meaning.specs.Paths.{Ends, limits_ends}
use Rattle.meaning.specs.Bounds.{most_load, most_distance, most_border}
use Rattle.meaning.proofs.BoundLaws.{count_bound, ncc_bound, load_bound, whole_bound, border_bound, deviation_bound}
use Rattle.meaning.specs.Prices.{most_limit_total, most_dwell_total}
use Rattle.meaning.proofs.PriceLaws.{limit_total_bound, dwell_total_bound}
use Rattle.kinds.specs.Constraints.{Paying, constraint_every}
use Rattle.judge.specs.declared.Figures.{Figures}
use Rattle.judge.specs.Figures.{figures_of, constraint_count, unweighted, violation_by, weighted_by, total_by}

-- the most that the workload of a sector can be off the balance
abbrev pub most_gap : ℕ
most_gap = most_sectors * most_load

-- the most that those of all sectors together can be
abbrev pub most_deviation : ℕ
most_deviation = most_sectors * most_gap

-- few edges between the regions 1..R, none of a large area
pub record SmallEdges (R : ℕ) (edges : List Edge) : Type 0 where
  pub few : length edges ≤ most_edges
  pub ends : Ends R edges
  pub area : Every (λ e. e.area ≤ most_area) edges

-- few sectors, a small whole workload, and the components and the workload of each sector as small as those of a colouring
pub record SmallTallies (S W : ℕ) (counts loads : List ℕ) : Type 0 where
  pub sectors : S ≤ most_sectors
  pub whole : W ≤ most_load
  pub count : Few most_sectors most_regions counts
  pub load : Few most_sectors most_load loads

-- figures as small as those of a colouring
pub record SmallFigures (F : Figures) : Type 0 where
  pub components : F.components ≤ most_regions
  pub excess : F.excess ≤ most_sectors * most_regions
  pub border : F.border ≤ most_border
  pub deviation : F.deviation ≤ most_deviation
  pub bounded : F.bounded ≤ most_limit_total
  pub dwell : F.dwell ≤ most_dwell_total

-- figures as small as those of a colouring, a gauge for each constraint of the flat list, and constraints within their limits
pub record Small (F : Figures) (gauges constraints : List ℕ) : Type 0 where
  pub figures : SmallFigures F
  pub size : length gauges ≡ constraint_count constraints
  pub constraint : Every ConstraintLimits (constraints_of constraints)

-- ---- sums over the sectors

module _ {loads : List ℕ} (few : Few most_sectors most_load loads) where
  -- the deviation
  pub deviation_small : {S W : ℕ} → S ≤ most_sectors → W ≤ most_load → sum loads (λ x. gap (S * x) W) ≤ most_deviation
  deviation_small {S} {W} s w = few_sum few most_gap (λ x. gap (S * x) W) (λ x h. omega (arith, mul-le-mul s h))

  -- the distances from a limit
  pub distances_small : (relation : ℕ) {limit : ℕ} → limit ≤ most_limit → sum loads (λ x. distance relation x limit) ≤ most_sectors * most_distance
  distances_small relation {limit} l =
      few_sum few most_distance (λ x. distance relation x limit) (λ x h. omega (arith, distance_bound relation x limit))

-- ---- the numbers of a plan within its limits are as small

module _ (P : Plan) (l : Limits P) where
  -- the sum of its workloads
  pub whole_small : sum P.workloads (λ w. w) ≤ most_load
  whole_small = few_bound most_regions most_workload P.workloads (λ w. w) (omega (arith, l.workloads, l.R.high)) l.workload

  -- its faces to the outside
  pub outside_small : Few most_regions most_area P.outside
  outside_small = record { few = omega (arith, l.outside, l.R.high); each = l.outside_area }

  -- its edges
  pub edges_small : SmallEdges P.R P.edges
  edges_small =
      record { few = l.edges; ends = limits_ends P l; area = every_turn (λ e h. h.area.high) P.edges l.edge }

  module _ (col : List ℕ) where
    -- the components of each sector
    counts_small : Few most_sectors most_regions (counts P col)
    unfolding counts
    counts_small = few_table P.S (ncc P col) l.S.high (ncc_bound P l col)

    -- the workload of each sector
    pub loads_small : Few most_sectors most_load (loads P col)
    unfolding loads
    loads_small = few_table P.S (load P col) l.S.high (load_bound P l col)

    -- the tallies
    pub tallies_small : SmallTallies P.S (whole P) (counts P col) (loads P col)
    tallies_small = record { sectors = l.S.high; whole = whole_bound P l; count = counts_small; load = loads_small }

    -- the figures
    pub figures_small : SmallFigures (figures_of P col)
    unfolding figures_of ncc_all
    figures_small =
        record {
          components = count_bound P l (leads (labels P.edges col));
          excess = few_sum counts_small most_regions (λ n. n - 1) (λ n h. omega arith);
          border = border_bound P l col;
          deviation = deviation_bound P l col;
          bounded = limit_total_bound l col;
          dwell = dwell_total_bound l col;
        }

-- ---- what follows for each item, and for the sums over all

-- a constraint of weight 1 keeps to its limits where one of its kind, relation and limit does
pub unweighted-limits : {k : Constraint} → ConstraintLimits k → ConstraintLimits (unweighted k)
unweighted-limits l =
    record { kind = l.kind; relation = l.relation; limit = l.limit; weight = record { low = omega arith; high = omega arith } }

-- the ends of each edge of the flat list are regions
pub edge_ends : {R : ℕ} (edges : List ℕ) → SmallEdges R (edges_of edges) → (k : ℕ) → k < length edges / edge_length → In R (edge_at edges k).a × In R (edge_at edges k).b
unfolding edges_of
edge_ends {R} edges s = list_of_every (λ e. In R e.a × In R e.b) (length edges / edge_length) (edge_at edges) s.ends

-- the area of the edges that pass a test is at most 2048 * 10 ^ 6
pub area_bound : {R : ℕ} {edges : List Edge} → SmallEdges R edges → (p : Edge → Bool) → area_of edges p ≤ most_edges * most_area
area_bound {R} {edges} s p =
    few_bound most_edges most_area edges _ s.few (every_turn (λ e h. cond-le (p e) {b = 0} h (omega arith)) edges s.area)

module _ {F : Figures} (f : SmallFigures F) where
  -- the violation of a constraint by the figures alone is at most what the deviation may be
  violation_bound : (k : Constraint) → violation_by F 0 k ≤ most_deviation
  unfolding violation_by by_kind
  violation_bound k =
      cond-le (eqb k.kind 1) (omega (arith, f.excess, bit_le (not (stands k.relation F.components k.limit))))
      (cond-le (eqb k.kind 2) (omega (arith, f.border))
      (cond-le (eqb k.kind 3) (omega (arith, f.deviation))
      (cond-le (eqb k.kind 4) (omega arith) (cond-le (eqb k.kind 5) (omega arith) (omega arith)))))

  -- with its weight it is at most 1000 times as much
  pub weighted_part : {k : Constraint} → ConstraintLimits k → weighted_by F k ≤ most_weight * most_deviation
  weighted_part {k} l = mul-le-mul l.weight.high (violation_bound k)

  module _ {shared : List ℕ} (t : Paying shared) where
    -- so it is for each of them
    weighted_small : Every (λ k. weighted_by F k ≤ most_weight * most_deviation) (constraints_of shared)
    weighted_small = every_turn (λ k l. weighted_part l) (constraints_of shared) t.constraint

    -- so too at each place of the flat list
    pub weighted_bound : {i : ℕ} → i < constraint_count shared → weighted_by F (constraint_at shared i) ≤ most_weight * most_deviation
    weighted_bound h = constraint_every shared h (λ k. weighted_by F k ≤ most_weight * most_deviation) weighted_small

    -- the total fits, though it is made up of figures of no one colouring
    pub total_bound : total_by F (constraints_of shared) < 2 ^ 64
    unfolding total_by
    total_bound =
        omega (
          arith,
          few_bound most_constraints (most_weight * most_deviation) (constraints_of shared) (weighted_by F) t.few weighted_small,
          f.bounded,
          f.dwell,
        )
