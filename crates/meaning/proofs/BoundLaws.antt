-- How large the numbers of a colouring get within the limits of the documents, whatever the colouring's length and sectors.
-- Assumes nothing.
use Rattle.std.specs.Prelude.{ℕ, ◌-◌, ◌*◌, ◌≤◌, List, Bool, cond, ◌&&◌}
use Rattle.std.proofs.Common.{mul-le-mul, le_trans, arith}
use Rattle.std.proofs.Math.Bool.{not}
use Rattle.std.proofs.Math.Dec.{eqb}
use Rattle.lists.specs.Sums.{at, sum, count, Every}
use Rattle.lists.specs.SumLaws.{few_bound, each-at_most, every_all, every_turn, length_from, get_or_bound}
use Rattle.lists.specs.Tests.{cond-le, bit_le}
use Rattle.terms.specs.Distance.{stands, distance}
use Rattle.terms.specs.DistanceLaws.{distance_bound}
use Rattle.meaning.specs.Plan.{Edge, Visit, Constraint, Plan, regions, sectors, most_regions, most_sectors, most_workload, most_edges, most_area, most_flights, most_visits, most_dwell, most_constraints, most_limit, most_weight, FlightLimits, Limits}
use Rattle.meaning.specs.Joined.{labels, leads}
use Rattle.meaning.specs.Stretches.{stretches, dwell_of, visits}
use Rattle.meaning.specs.StretchLaws.{stretches_few, stretches-sum}
use Rattle.meaning.specs.Kinds.{ncc, ncc_all, load, whole, crosses, outside_area, border, off_balance, deviation, connected, bounded, over_stretches, off_dwell, dwelling, by_kind, violation, total, leads_to, border_of, dwelling_of, part_of, region_violation}
use Rattle.meaning.proofs.Components.{connected-all, deviation-all, bounded-all}
use Rattle.meaning.specs.Bounds.{most_border, most_dwelling, most_off, most_total}

-- what is due to a kind is at most B where what is due to each of the five is
by_kind_bound : (kind : ℕ) {a b c d e B : ℕ} → a ≤ B → b ≤ B → c ≤ B → d ≤ B → e ≤ B → by_kind kind a b c d e ≤ B
unfolding by_kind
by_kind_bound kind ha hb hc hd he =
    cond-le (eqb kind 1) ha
    (cond-le (eqb kind 2) hb (cond-le (eqb kind 3) hc (cond-le (eqb kind 4) hd (cond-le (eqb kind 5) he (omega arith)))))

module _ {R : ℕ} (col : List ℕ) (flight : List Visit) (l : FlightLimits R flight) where
  -- a stretch is at most 32 * 86,400 seconds
  pub stretch_bound : Every (λ s. dwell_of s ≤ most_visits * most_dwell) (stretches col flight)
  stretch_bound =
      every_turn
      (λ s h. le_trans h (rw (stretches-sum col (λ v. v.dwell) flight) (few_bound most_visits most_dwell flight _ l.visits.high (every_turn (λ v h. h.dwell.high) flight l.visit))))
      (stretches col flight)
      (each-at_most (stretches col flight) dwell_of)

  -- a sum over the stretches of a flight, no term above B
  pub flight_bound : (B : ℕ) (f : List Visit → ℕ) → ((s : List Visit) → dwell_of s ≤ most_visits * most_dwell → f s ≤ B) → sum (stretches col flight) f ≤ most_visits * B
  flight_bound B f h =
      few_bound most_visits B (stretches col flight) f (le_trans (stretches_few col flight) l.visits.high) (every_turn h (stretches col flight) stretch_bound)

module _ (P : Plan) (l : Limits P) where
  -- a sum over the regions, no term above B
  regions_bound : (B : ℕ) (f : ℕ → ℕ) → ((u : ℕ) → f u ≤ B) → sum (regions P) f ≤ most_regions * B
  regions_bound B f h =
      few_bound most_regions B (regions P) f (rw (length_from 1 P.R) l.R.high) (every_all (λ u. f u ≤ B) h (regions P))

  -- at most 512 regions pass a test
  pub count_bound : (p : ℕ → Bool) → count (regions P) p ≤ 512
  count_bound p = regions_bound 1 _ (λ u. bit_le (p u))

  -- a sum over the sectors, no term above B
  sectors_bound : (B : ℕ) (f : ℕ → ℕ) → ((c : ℕ) → f c ≤ B) → sum (sectors P) f ≤ most_sectors * B
  sectors_bound B f h =
      few_bound most_sectors B (sectors P) f (rw (length_from 1 P.S) l.S.high) (every_all (λ c. f c ≤ B) h (sectors P))

  -- the area of the edges that pass a test
  edges_bound : (p : Edge → Bool) → sum P.edges (λ e. cond (p e) e.area 0) ≤ 2048000000
  edges_bound p =
      few_bound most_edges most_area P.edges _ l.edges
      (every_turn (λ e h. cond-le (p e) h.area.high (omega arith)) P.edges l.edge)

  -- a sum over all stretches, no term above B
  pub stretches_bound : (col : List ℕ) (B : ℕ) (f : List Visit → ℕ) → ((s : List Visit) → dwell_of s ≤ most_visits * most_dwell → f s ≤ B) → over_stretches P col f ≤ most_flights * (most_visits * B)
  stretches_bound col B f h =
      few_bound most_flights (most_visits * B) P.flights _ l.flights
      (every_turn (λ flight k. flight_bound col flight k B f h) P.flights l.flight)

  -- a weighted sum over the constraints, where none has more than B
  weighted_bound : (B : ℕ) (f : Constraint → ℕ) → ((k : Constraint) → k.limit ≤ most_limit → f k ≤ B) → sum P.constraints (λ k. k.weight * f k) ≤ most_constraints * (most_weight * B)
  weighted_bound B f h =
      few_bound most_constraints (most_weight * B) P.constraints _ l.constraints
      (every_turn (λ k c. mul-le-mul c.weight.high (h k c.limit)) P.constraints l.constraint)

  -- a region's workload is at most the limit; past the last region it reads 0
  workload_bound : (u : ℕ) → at P.workloads u ≤ most_workload
  workload_bound u = get_or_bound P.workloads (u - 1) l.workload

  -- the whole workload is at most 512 * 10 ^ 6
  pub whole_bound : whole P ≤ 512000000
  unfolding whole
  whole_bound = regions_bound most_workload _ workload_bound

  -- a face to the outside is at most the limit; past the last region it reads 0
  outside_bound : (u : ℕ) → at P.outside u ≤ most_area
  outside_bound u = get_or_bound P.outside (u - 1) l.outside_area

  -- all faces to the outside are at most 512 * 10 ^ 6
  outside_area_bound : outside_area P ≤ most_regions * most_area
  unfolding outside_area
  outside_area_bound = regions_bound most_area _ outside_bound

  module _ (col : List ℕ) where
    -- a sector has at most 512 components
    pub ncc_bound : (c : ℕ) → ncc P col c ≤ 512
    unfolding ncc
    ncc_bound c = count_bound (λ u. leads (labels P.edges col) u && eqb (at col u) c)

    -- a sector's workload is at most 512 * 10 ^ 6
    pub load_bound : (c : ℕ) → load P col c ≤ 512000000
    unfolding load
    load_bound c = regions_bound most_workload _ (λ u. cond-le (eqb (at col u) c) (workload_bound u) (omega arith))

    -- the border is at most (2048 + 512) * 10 ^ 6
    pub border_bound : border P col ≤ most_border
    unfolding border
    border_bound = omega (arith, edges_bound (crosses col), outside_area_bound)

    -- and so is that of a region
    pub border_of_bound : (v : ℕ) → border_of P col v ≤ most_border
    unfolding border_of
    border_of_bound v = omega (arith, edges_bound (leads_to (λ w. not (eqb (at col w) (at col v))) v), outside_bound v)

    -- a sector's workload is at most 64 * 512 * 10 ^ 6 off the balance
    balance_bound : (c : ℕ) → off_balance P (load P col c) ≤ 32768000000
    balance_bound c = omega (arith, whole_bound, mul-le-mul l.S.high (load_bound c))

    -- the deviation is at most 64 * 64 * 512 * 10 ^ 6
    pub deviation_bound : deviation P col ≤ 2097152000000
    deviation_bound = rw (deviation-all P col) (sectors_bound 32768000000 _ balance_bound)

    module _ (k : Constraint) (h : k.limit ≤ most_limit) where
      -- a sector's workload is at a distance of at most 512 * 10 ^ 6 + 10 ^ 11 + 1
      reach_bound : (c : ℕ) → distance k.relation (load P col c) k.limit ≤ 100512000001
      reach_bound c = omega (arith, load_bound c, distance_bound k.relation (load P col c) k.limit)

      -- kind 1 has at most 1 + 64 * 512
      connected_bound : connected P col k ≤ 32769
      connected_bound =
          rw (connected-all P col k)
          (omega (
            arith,
            bit_le (not (stands k.relation (ncc_all P col) k.limit)),
            sectors_bound 512 (λ c. ncc P col c - 1) (λ c. omega (arith, ncc_bound c)),
          ))

      -- kind 4 has at most 64 * (512 * 10 ^ 6 + 10 ^ 11 + 1)
      bounded_bound : bounded P col k ≤ 6432768000064
      bounded_bound = rw (bounded-all P col k) (sectors_bound 100512000001 _ reach_bound)

      -- a stretch of a flight is at a distance of at most 32 * 86,400 + 10 ^ 11 + 1
      off_bound : (s : List Visit) → dwell_of s ≤ most_visits * most_dwell → off_dwell k s ≤ most_off
      off_bound s d = omega (arith, distance_bound k.relation (dwell_of s) k.limit)

      -- kind 5 has at most 64 * 32 times that
      pub dwelling_bound : dwelling P col k ≤ most_dwelling
      unfolding dwelling
      dwelling_bound = stretches_bound col most_off (off_dwell k) off_bound

      -- and so has a region by it
      dwelling_of_bound : (v : ℕ) → dwelling_of P col v k ≤ most_dwelling
      unfolding dwelling_of
      dwelling_of_bound v = stretches_bound col most_off _ (λ s d. cond-le (visits v s) (off_bound s d) (omega arith))

      -- a constraint's violation is at most what kind 5 may have
      pub violation_bound : violation P col k ≤ most_dwelling
      unfolding violation
      violation_bound =
          by_kind_bound k.kind (omega (arith, connected_bound)) (omega (arith, border_bound)) (omega (arith, deviation_bound)) (omega (arith, bounded_bound)) dwelling_bound

      -- what a region has by a constraint is at most as much
      part_bound : (v c : ℕ) → part_of P col v c k ≤ most_dwelling
      unfolding part_of
      part_bound v c =
          by_kind_bound k.kind (omega (arith, ncc_bound c)) (omega (arith, border_of_bound v))
          (omega (arith, balance_bound c)) (omega (arith, reach_bound c)) (dwelling_of_bound v)

    -- the total is at most 4 * 10 ^ 18
    pub total_bound : total P col ≤ most_total
    unfolding total
    total_bound = omega (arith, weighted_bound most_dwelling (violation P col) violation_bound)

    -- a region's violation is at most 4 * 10 ^ 18
    pub region_bound : (v : ℕ) → region_violation P col v ≤ most_total
    unfolding region_violation
    region_bound v = omega (arith, weighted_bound most_dwelling (part_of P col v (at col v)) (λ k h. part_bound k h v (at col v)))
