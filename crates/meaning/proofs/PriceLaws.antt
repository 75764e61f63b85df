-- What the constraints of the kinds 4 and 5 add to the total and to a region's violation: the prices of the sectors and of the flights; how a recolouring changes it, and how large it gets.
-- Assumes nothing.
use Rattle.std.specs.Prelude.{ℕ, ◌+◌, ◌-◌, ◌*◌, ◌≤◌, ◌≡◌, List, [], Bool, ◌||◌, eqb, length}
use Rattle.std.proofs.Math.Nat.{mul-le-mul}
use Rattle.std.proofs.Common.{le_trans, ◌∙◌}
use native.Mathlib.Omega.{arith}
use Rattle.std.proofs.Math.Path.{refl, sym}
use Rattle.std.proofs.Math.Bool.{true, false, cond}
use Rattle.lists.specs.Sums.{In, at, sum, Every}
use Rattle.lists.specs.SumLaws.{sum_ext, sum-all, sum-add, sum-zero, sum-map, few_bound, every_all, every_turn, length_table, at_table}
use Rattle.lists.specs.Few.{Few, few_sum, few_table}
use Rattle.lists.specs.Tests.{cond-le, cond_same}
use Rattle.terms.specs.Plan.{within}
use Rattle.terms.specs.Distance.{distance}
use Rattle.terms.specs.DistanceLaws.{distance_bound}
use Rattle.meaning.specs.Plan.{Visit, Constraint, Plan, sectors, most_sectors, most_flights, most_visits, most_constraints, most_limit, most_weight, FlightLimits, ConstraintLimits, Limits}
use Rattle.meaning.specs.Stretches.{stretches, dwell_of, visits}
use Rattle.meaning.specs.StretchLaws.{stretches_elsewhere, stretches-recolour}
use Rattle.meaning.specs.Kinds.{ncc, load, loads, off_balance, bounded, over_stretches, off_dwell, dwelling, violation, total, border_of, dwelling_of, part_of, region_violation}
use Rattle.meaning.specs.Moves.{recolour}
use Rattle.meaning.specs.Bounds.{most_off, most_distance}
use Rattle.meaning.proofs.BoundLaws.{flight_bound, load_bound}
use Rattle.meaning.specs.Prices.{shared, limited, timed, weighted, weight_of, price, sector_price, prices, limit_total, most_sector_price, most_limit_total, flight_price, flights_price, visitors_price, dwell_total, most_dwell_total}
use Rattle.meaning.specs.Weighted.{kinds_limits, kinds_few, kinds_sum, kind_sum, weighted-all, weighted-add, weighted-sum, weighted-cond, shared-sum, kinds_apart}

-- ---- what the constraints of kind 4 add

module _ (P : Plan) (col : List ℕ) where
  -- it is the price of the workload of each sector
  pub limit_total_lem : limit_total P col ≡ sum (loads P col) (price (limited P.constraints))
  unfolding limit_total bounded price
  limit_total_lem =
      kind_sum 4 P.constraints (bounded P col)
      ∙ weighted-sum (limited P.constraints) (loads P col) (λ k x. distance k.relation x k.limit)

  -- the prices of the sectors, summed
  pub prices-total : limit_total P col ≡ sum (prices P col) (λ x. x)
  unfolding prices sector_price loads
  prices-total = limit_total_lem ∙ sum-map (load P col) (sectors P) (price (limited P.constraints)) ∙ sym (sum-map (sector_price P col) (sectors P) (λ x. x))

  -- there is a price for each sector, empty or not
  pub prices-length : length (prices P col) ≡ P.S
  unfolding prices
  prices-length = length_table P.S (sector_price P col)

  -- that of sector c is what it pays
  pub prices-at : (c : ℕ) → In P.S c → at (prices P col) c ≡ sector_price P col c
  unfolding prices
  prices-at = at_table P.S (sector_price P col)

-- ---- what the constraints of kind 5 add

-- a flight that does not visit region v has no stretch that does
elsewhere_price : (ks : List Constraint) (col : List ℕ) (v : ℕ) (flight : List Visit) → flight_price ks col false v flight ≡ cond (visits v flight) (flight_price ks col false v flight) 0
unfolding flight_price
elsewhere_price ks col v flight = go (visits v flight) refl
  where
    go : (t : Bool) → visits v flight ≡ t → flight_price ks col false v flight ≡ cond t (flight_price ks col false v flight) 0
    go true e = refl
    go false e = sum-zero (stretches col flight) _ (every_turn (λ s h. rw h) (stretches col flight) (stretches_elsewhere v col flight e))

module _ (P : Plan) (col : List ℕ) where
  -- a sum over all stretches for each constraint: the weighted sums, stretch by stretch
  weighted-over : (ks : List Constraint) (f : Constraint → List Visit → ℕ) → weighted ks (λ k. over_stretches P col (f k)) ≡ over_stretches P col (λ s. weighted ks (λ k. f k s))
  weighted-over ks f =
      weighted-sum ks P.flights (λ k flight. sum (stretches col flight) (f k))
      ∙ sum-all P.flights _ _ (λ flight. weighted-sum ks (stretches col flight) f)

  -- what the constraints of kind 5 add, by all stretches or by those that visit region v, is what the flights cost
  timed-price : (all : Bool) (v : ℕ)
      → weighted P.constraints (λ k. cond (eqb k.kind 5) (over_stretches P col (λ s. cond (all || visits v s) (off_dwell k s) 0)) 0)
      ≡ sum P.flights (flight_price (timed P.constraints) col all v)
  unfolding flight_price price
  timed-price all v =
      let ks = timed P.constraints in
      kind_sum 5 P.constraints _
      ∙ weighted-over ks (λ k s. cond (all || visits v s) (off_dwell k s) 0)
      ∙ sum-all P.flights _ _ (λ flight. sum-all (stretches col flight) _ _ (λ s. weighted-cond (all || visits v s) ks (λ k. off_dwell k s)))

  -- what kind 5 adds to the total is the price of all flights
  pub dwell_total_lem : dwell_total P col ≡ flights_price (timed P.constraints) col P.flights
  unfolding dwell_total dwelling flights_price
  dwell_total_lem = timed-price true 0

  -- what kind 5 adds to a region's violation is the price of its visitors, by their stretches that visit it
  part-total : (v : ℕ) → weighted P.constraints (λ k. cond (eqb k.kind 5) (dwelling_of P col v k) 0) ≡ visitors_price (timed P.constraints) col false v P.flights
  unfolding dwelling_of visitors_price
  part-total v = timed-price false v ∙ sum-all P.flights _ _ (elsewhere_price (timed P.constraints) col v)

-- without constraints there is nothing to pay
pub visitors_none : (col : List ℕ) (all : Bool) (v : ℕ) (flights : List (List Visit)) → visitors_price [] col all v flights ≡ 0
unfolding visitors_price flight_price price
visitors_none col all v flights = sum-zero flights _ (every_all _ (λ flight. nothing (visits v flight) (free flight)) flights)
  where
    free : (flight : List Visit) → flight_price [] col all v flight ≡ 0
    free flight = sum-zero (stretches col flight) _ (every_all _ (λ s. cond_same (all || visits v s) 0) (stretches col flight))

    nothing : (t : Bool) {n : ℕ} → n ≡ 0 → cond t n 0 ≡ 0
    nothing true e = e
    nothing false e = refl

-- ---- the kinds together

module _ (P : Plan) (col : List ℕ) where
  -- the constraints of the kinds 1 to 3, of kind 4 and of kind 5, each by itself
  kinds_parts : (f g h : Constraint → ℕ) → ((k : Constraint) → f k ≡ cond (within 1 k.kind 3) (f k) 0 + cond (eqb k.kind 4) (g k) 0 + cond (eqb k.kind 5) (h k) 0)
      → weighted P.constraints f
      ≡ weighted (shared P.constraints) f + weighted P.constraints (λ k. cond (eqb k.kind 4) (g k) 0) + weighted P.constraints (λ k. cond (eqb k.kind 5) (h k) 0)
  kinds_parts f g h law =
      let ks = P.constraints in
      weighted-all ks _ _ law
      ∙ weighted-add ks (λ k. cond (within 1 k.kind 3) (f k) 0 + cond (eqb k.kind 4) (g k) 0) (λ k. cond (eqb k.kind 5) (h k) 0)
      ∙ omega (arith, weighted-add ks (λ k. cond (within 1 k.kind 3) (f k) 0) (λ k. cond (eqb k.kind 4) (g k) 0), kinds_sum 1 3 ks f)

  -- the total: what the kinds 1 to 3 add, what kind 4 adds and what kind 5 adds
  pub total_parts : total P col ≡ weighted (shared P.constraints) (violation P col) + limit_total P col + dwell_total P col
  unfolding total violation limit_total dwell_total
  total_parts = kinds_parts (violation P col) (bounded P col) (dwelling P col) (λ k. kinds_apart _ _ _ _ _ k.kind)

  module _ (v : ℕ) where
    -- a region's violation: what it has by the kinds 1 to 3, what its sector pays, and the price of its visitors
    pub region_parts : region_violation P col v
        ≡ weighted (shared P.constraints) (part_of P col v (at col v)) + sector_price P col (at col v) + visitors_price (timed P.constraints) col false v P.flights
    unfolding region_violation part_of sector_price price
    region_parts =
        kinds_parts (part_of P col v (at col v)) (λ k. distance k.relation (load P col (at col v)) k.limit) (dwelling_of P col v) (λ k. kinds_apart _ _ _ _ _ k.kind)
        ∙ omega (arith, kind_sum 4 P.constraints (λ k. distance k.relation (load P col (at col v)) k.limit), part-total P col v)

    -- what it has, in sector c, by the kinds 1 to 3
    pub shared_parts : (c : ℕ) (ks : List Constraint)
        → weighted (shared ks) (part_of P col v c)
        ≡ weight_of 1 ks * (ncc P col c - 1) + weight_of 2 ks * border_of P col v + weight_of 3 ks * off_balance P (load P col c)
    unfolding part_of
    shared_parts c ks = sym (kinds_sum 1 3 ks (part_of P col v c)) ∙ shared-sum ks _ _ _ _ _

-- ---- how a recolouring changes it

module _ {P : Plan} (l : Limits P) {v : ℕ} (i : In P.R v) (col : List ℕ) (d : ℕ) where
  -- a flight that does not visit region v keeps its price
  flight_recolour : (ks : List Constraint) (flight : List Visit) → FlightLimits P.R flight
      → flight_price ks (recolour col v d) true 0 flight + cond (visits v flight) (flight_price ks col true v flight) 0
      ≡ flight_price ks col true 0 flight + cond (visits v flight) (flight_price ks (recolour col v d) true v flight) 0
  unfolding flight_price
  flight_recolour ks flight f = go (visits v flight) refl
    where
      go : (t : Bool) → visits v flight ≡ t
          → flight_price ks (recolour col v d) true 0 flight + cond t (flight_price ks col true v flight) 0
          ≡ flight_price ks col true 0 flight + cond t (flight_price ks (recolour col v d) true v flight) 0
      go true e = omega arith
      go false e = rw (stretches-recolour v i col d flight f.visit e)

  -- what kind 5 adds changes by as much as the price of v's visitors
  pub dwell_recolour : let ks = timed P.constraints in
      dwell_total P (recolour col v d) + visitors_price ks col true v P.flights ≡ dwell_total P col + visitors_price ks (recolour col v d) true v P.flights
  unfolding flights_price visitors_price
  dwell_recolour =
      let ks = timed P.constraints in
      omega (
        arith,
        dwell_total_lem P col,
        dwell_total_lem P (recolour col v d),
        sum-add P.flights (flight_price ks (recolour col v d) true 0) (λ flight. cond (visits v flight) (flight_price ks col true v flight) 0),
        sum-add P.flights (flight_price ks col true 0) (λ flight. cond (visits v flight) (flight_price ks (recolour col v d) true v flight) 0),
        sum_ext P.flights _ _ (every_turn (flight_recolour ks) P.flights l.flight),
      )

-- ---- how large it gets

module _ (ks : List Constraint) (few : length ks ≤ most_constraints) (each : Every ConstraintLimits ks) where
  -- a number that is at most B from each limit costs at most 16 * 1,000 times as much
  pub price_bound : (B x : ℕ) → x + most_limit + 1 ≤ B → price ks x ≤ most_constraints * (most_weight * B)
  unfolding price
  price_bound B x h =
      few_bound most_constraints (most_weight * B) ks _ few
      (every_turn (λ k c. mul-le-mul {m₂ = B} c.weight.high (omega (arith, c.limit, distance_bound k.relation x k.limit))) ks each)

  -- those of a kind weigh at most 16 * 1,000
  pub weight_bound : (kind : ℕ) → weight_of kind ks ≤ most_constraints * most_weight
  unfolding weight_of
  weight_bound kind = few_bound most_constraints most_weight ks _ few (every_turn (λ k c. cond-le (eqb k.kind kind) c.weight.high (omega arith)) ks each)

  -- a flight has at most 32 stretches
  pub flight_price_bound : {R : ℕ} (col : List ℕ) (all : Bool) (v : ℕ) {flight : List Visit} → FlightLimits R flight
      → flight_price ks col all v flight ≤ most_visits * (most_constraints * (most_weight * most_off))
  unfolding flight_price
  flight_price_bound col all v {flight} l =
      flight_bound col flight l (most_constraints * (most_weight * most_off)) _
      (λ s h. cond-le (all || visits v s) (price_bound most_off (dwell_of s) (omega arith)) (omega arith))

  module _ (R : ℕ) (col : List ℕ) (flights : List (List Visit)) (n : length flights ≤ most_flights) (l : Every (FlightLimits R) flights) where
    -- there are at most 64 flights
    pub flights_price_bound : flights_price ks col flights ≤ most_dwell_total
    unfolding flights_price
    flights_price_bound = few_bound most_flights _ flights _ n (every_turn (λ flight f. flight_price_bound col true 0 f) flights l)

    -- and no more visitors than flights
    pub visitors_price_bound : (all : Bool) (v : ℕ) → visitors_price ks col all v flights ≤ most_dwell_total
    unfolding visitors_price
    visitors_price_bound all v =
        few_bound most_flights _ flights _ n
        (every_turn (λ flight f. cond-le (visits v flight) (flight_price_bound col all v f) (omega arith)) flights l)

module _ {P : Plan} (l : Limits P) (col : List ℕ) where
  -- a workload costs a sector at most 16 * 1,000 times the largest distance
  pub sector-price_bound : (c : ℕ) → sector_price P col c ≤ most_sector_price
  unfolding sector_price
  sector-price_bound c =
      price_bound (limited P.constraints) (le_trans (kinds_few 4 4 P.constraints) l.constraints) (kinds_limits 4 4 P.constraints l.constraint)
      most_distance (load P col c) (omega (arith, load_bound P l col c))

  -- there are at most 64 sectors
  pub prices_few : Few most_sectors most_sector_price (prices P col)
  unfolding prices
  prices_few = few_table P.S (sector_price P col) l.S.high sector-price_bound

  -- so large may get what kind 4 adds to the total
  pub limit_total_bound : limit_total P col ≤ most_limit_total
  limit_total_bound = rw (prices-total P col) (few_sum prices_few most_sector_price (λ x. x) (λ x h. h))

  -- so large what kind 5 adds
  pub dwell_total_bound : dwell_total P col ≤ most_dwell_total
  dwell_total_bound =
      rw (dwell_total_lem P col)
      (flights_price_bound (timed P.constraints) (le_trans (kinds_few 5 5 P.constraints) l.constraints) (kinds_limits 5 5 P.constraints l.constraint)
      P.R col P.flights l.flights l.flight)

  -- and what the flights cost that visit a region
  pub cost_bound : (all : Bool) (v : ℕ) → visitors_price (timed P.constraints) col all v P.flights ≤ most_dwell_total
  cost_bound =
      visitors_price_bound (timed P.constraints) (le_trans (kinds_few 5 5 P.constraints) l.constraints) (kinds_limits 5 5 P.constraints l.constraint)
      P.R col P.flights l.flights l.flight
