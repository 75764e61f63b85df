-- What is not refused is valid.
-- Assumes nothing.
use Rattle.std.specs.Prelude.{ℕ, suc, ◌+◌, ◌-◌, ◌*◌, ◌/◌, ◌%◌, ◌≤◌, ◌<◌, ◌≡◌, true, false, not, ◌&&◌, List, [], ◌∷◌, eqb, leb, ltb, T, length, get_or, drop}
use Rattle.std.proofs.Common.{arith, leb→le, ltb→lt, length-drop}
use Rattle.lists.specs.Sums.{In, at, sum, Every}
use Rattle.lists.specs.SumLaws.{every_turn}
use Rattle.lists.specs.ListLaws.{length-list_of, every_list_of}
use Rattle.lists.specs.Few.{Few}
use Rattle.terms.specs.Plan.{within}
use Rattle.meaning.specs.Plan.{Visit, edge_length, visit_length, constraint_length, edge_at, constraint_at, edges_of, flights_of, constraints_of, plan_of, most_regions, most_sectors, most_workload, most_edges, most_area, most_flights, most_visits, most_dwell, most_kind, most_constraints, most_limit, most_weight, most_moves, EdgeLimits, VisitLimits, FlightLimits, ConstraintLimits, Limits, Coloured}
use Rattle.meaning.specs.Flights.{length_flight, length-flights_of}
use Rattle.meaning.specs.Moves.{move_length, row_length, verdict_length}
use Rattle.scans.specs.Items.{first_off, at_most, edge_right, count_right, visits_right, flight_right, takes, constraint_right, sector_right}
use Rattle.refusals.specs.Table.{plan_table, room_table, Given, call_table, call_refusal, plan_refusal}
use Rattle.refusals.specs.Passed.{Passed, passed, passed_none, passed_more, both, all_five, in_limits, passed_in, passed_equal, passed_most, passed_records, passed_each}

-- a plan within the limits, in whole records, with the visits that its flights' counts ask for, with at least one constraint and with a colouring
pub record ValidPlan (R S : ℕ) (workloads outside edges counts visits constraints colouring : List ℕ) : Type 0 where
  pub limits : Limits (plan_of R S workloads outside edges counts visits constraints)
  pub coloured : Coloured (plan_of R S workloads outside edges counts visits constraints) colouring
  pub edges-whole : length edges % edge_length ≡ 0
  pub count : Every (In most_visits) counts
  pub visits-whole : length visits ≡ visit_length * sum counts (λ n. n)
  pub constraints_whole : length constraints % constraint_length ≡ 0
  pub constraints_some : 1 ≤ length constraints / constraint_length

-- a valid plan, moves in whole records and not too many of them, and room for what the call writes
pub record Valid (g : Given) : Type 0 where
  pub plan : ValidPlan g.R g.S g.workloads g.outside g.edges g.counts g.visits g.constraints g.colouring
  pub moves_whole : length g.moves % move_length ≡ 0
  pub moves_few : length g.moves / move_length ≤ most_moves
  pub rows_room : row_length * (length g.moves / move_length) ≤ g.rows
  pub verdicts_room : verdict_length * (length g.constraints / constraint_length) ≤ g.verdicts
  pub work_room : g.R + 2 * g.S + 1 ≤ g.work

-- ---- an item that is right is within the limits

edge_limits : (R : ℕ) (edges : List ℕ) (k : ℕ) → T (edge_right R edges k) → EdgeLimits R (edge_at edges k)
unfolding edge_right
edge_limits R edges k t =
    let e = edge_at edges k in
    let p = all_five (leb 1 e.a) (ltb e.a e.b) (leb e.b R) (within 1 e.area most_area) _ t in
    record {
      low = leb→le 1 e.a p.0;
      rise = ltb→lt e.a e.b p.1.0;
      high = leb→le e.b R p.1.1.0;
      area = in_limits most_area e.area p.1.1.1.0;
    }

visits-limits : (R : ℕ) (flight : List Visit) → T (visits_right R flight) → Every (VisitLimits R) flight
unfolding visits_right
visits-limits R [] t = tt
visits-limits R (v ∷ vs) t =
    let p = both (within 1 v.region R && within 1 v.dwell most_dwell) (visits_right R vs) t in
    let q = both (within 1 v.region R) (within 1 v.dwell most_dwell) p.0 in
    (record { region = in_limits R v.region q.0; dwell = in_limits most_dwell v.dwell q.1 }, visits-limits R vs p.1)

constraint_limits : (kinds : ℕ) → kinds ≤ most_kind → (constraints : List ℕ) (k : ℕ) → T (constraint_right kinds constraints k) → ConstraintLimits (constraint_at constraints k)
unfolding constraint_right
constraint_limits kinds known constraints k t =
    let c = constraint_at constraints k in
    let p = (all_five true (within 1 c.kind kinds) (takes c.kind c.relation) (leb c.limit most_limit) (within 1 c.weight most_weight) t).1 in
    let kind = in_limits kinds c.kind p.0 in
    record {
      kind = record { low = kind.low; high = omega (arith, kind.high) };
      relation = in_limits 6 c.relation (both (within 1 c.relation 6) _ p.1.0).0;
      limit = leb→le c.limit most_limit p.1.1.0;
      weight = in_limits most_weight c.weight p.1.1.1;
    }

-- what holds at each place of a list holds along it
every_at : (P : ℕ → Type 0) (xs : List ℕ) → ((k : ℕ) → k < length xs → P (get_or xs k 0)) → Every P xs
every_at P [] h = tt
every_at P (x ∷ xs) h = (h 0 (omega arith), every_at P xs (λ k l. h (suc k) (omega arith)))

-- ---- a list of which each item is right

each_number : (most : ℕ) (numbers : List ℕ) → not (eqb (first_off (length numbers) (at_most most numbers)) 0) ≡ false → Every (λ x. x ≤ most) numbers
each_number most numbers e =
    every_at (λ x. x ≤ most) numbers (λ k h. leb→le _ _ (passed_each (at_most most numbers) (length numbers) e k h))

each_edge : (R : ℕ) (edges : List ℕ) → not (eqb (first_off (length edges / edge_length) (edge_right R edges)) 0) ≡ false → Every (EdgeLimits R) (edges_of edges)
unfolding edges_of
each_edge R edges e =
    let count = length edges / edge_length in
    every_list_of (EdgeLimits R) count (edge_at edges) (λ k h. edge_limits R edges k (passed_each (edge_right R edges) count e k h))

each-count : (counts : List ℕ) → not (eqb (first_off (length counts) (count_right counts)) 0) ≡ false → Every (In most_visits) counts
each-count counts e =
    every_at (In most_visits) counts (λ k h. in_limits most_visits _ (passed_each (count_right counts) (length counts) e k h))

-- counts that are not refused are few, and none of them is large
pub few_counts : (counts : List ℕ) → not (leb (length counts) most_flights) ≡ false → not (eqb (first_off (length counts) (count_right counts)) 0) ≡ false → Few most_flights most_visits counts
few_counts counts few e =
    record { few = passed_most (length counts) most_flights few; each = every_turn (λ n i. i.high) counts (each-count counts e) }

-- each of the flights that their counts cut has as many visits as its count says, and each of them is right
flights_limits : (R : ℕ) (counts visits : List ℕ) → Every (In most_visits) counts → length visits ≡ visit_length * sum counts (λ n. n) → ((k : ℕ) → k < length counts → T (flight_right R counts visits k)) → Every (FlightLimits R) (flights_of counts visits)
unfolding flights_of
flights_limits R [] visits each long right = tt
flights_limits R (n ∷ counts) visits each long right = (
  record { visits = rw (length_flight n visits (omega arith)) each.0; visit = visits-limits R _ (right 0 (omega arith)) },
  flights_limits R counts (drop (visit_length * n) visits) each.1 (rw (length-drop (visit_length * n) visits) (omega arith)) (λ k h. right (suc k) (omega arith)),
)

each_flight : (R : ℕ) (counts visits : List ℕ) → Every (In most_visits) counts → length visits ≡ visit_length * sum counts (λ n. n) → not (eqb (first_off (length counts) (flight_right R counts visits)) 0) ≡ false → Every (FlightLimits R) (flights_of counts visits)
each_flight R counts visits each long e =
    flights_limits R counts visits each long (passed_each (flight_right R counts visits) (length counts) e)

each_constraint : (kinds : ℕ) → kinds ≤ most_kind → (constraints : List ℕ) → not (eqb (first_off (length constraints / constraint_length) (constraint_right kinds constraints)) 0) ≡ false → Every ConstraintLimits (constraints_of constraints)
unfolding constraints_of
each_constraint kinds known constraints e =
    let count = length constraints / constraint_length in
    every_list_of ConstraintLimits count (constraint_at constraints) (λ k h. constraint_limits kinds known constraints k (passed_each (constraint_right kinds constraints) count e k h))

each-sector : (S : ℕ) (colouring : List ℕ) → not (eqb (first_off (length colouring) (sector_right S colouring)) 0) ≡ false → (u : ℕ) → In (length colouring) u → In S (at colouring u)
each-sector S colouring e u h =
    in_limits S (at colouring u) (passed_each (sector_right S colouring) (length colouring) e (u - 1) (omega arith))

-- ---- the theorems

passed_plan : (kinds : ℕ) → kinds ≤ most_kind → (R S : ℕ) (workloads outside edges counts visits constraints colouring : List ℕ) → Passed (plan_table kinds R S workloads outside edges counts visits constraints colouring) → ValidPlan R S workloads outside edges counts visits constraints colouring
unfolding plan_table edges_of constraints_of
passed_plan kinds known R S workloads outside edges counts visits constraints colouring regions =
    let sectors = regions.1 in
    let workloads-long = sectors.1 in
    let workload = workloads-long.1 in
    let outside-long = workload.1 in
    let outside-area = outside-long.1 in
    let edges-whole = outside-area.1 in
    let edge = edges-whole.1 in
    let flights_few = edge.1 in
    let count = flights_few.1 in
    let visits-long = count.1 in
    let flight = visits-long.1 in
    let constraints_whole = flight.1 in
    let constraint = constraints_whole.1 in
    let colouring-long = constraint.1 in
    let sector = colouring-long.1 in
    let of_edges = passed_records edge_length 0 most_edges edges edges-whole.0 in
    let of_constraints = passed_records constraint_length 1 most_constraints constraints constraints_whole.0 in
    let each = each-count counts count.0 in
    let whole = passed_equal (length visits) (visit_length * sum counts (λ n. n)) visits-long.0 in
    let long = passed_equal (length colouring) R colouring-long.0 in
    record {
      limits =
          record {
            R = passed_in most_regions R regions.0;
            S = passed_in most_sectors S sectors.0;
            workloads = passed_equal (length workloads) R workloads-long.0;
            workload = each_number most_workload workloads workload.0;
            outside = passed_equal (length outside) R outside-long.0;
            outside_area = each_number most_area outside outside-area.0;
            edges = rw (length-list_of (length edges / edge_length) (edge_at edges)) of_edges.1.1;
            edge = each_edge R edges edge.0;
            flights = rw (length-flights_of counts visits) (passed_most (length counts) most_flights flights_few.0);
            flight = each_flight R counts visits each whole flight.0;
            constraints = rw (length-list_of (length constraints / constraint_length) (constraint_at constraints)) of_constraints.1.1;
            constraint = each_constraint kinds known constraints constraint.0;
          };
      coloured = record { size = long; sector = λ u h. each-sector S colouring sector.0 u (rw long h) };
      edges-whole = of_edges.0;
      count = each;
      visits-whole = whole;
      constraints_whole = of_constraints.0;
      constraints_some = of_constraints.1.0;
    }

-- a plan that is not refused is valid, whichever of the kinds its constraints may have
pub valid_plan : (kinds : ℕ) → kinds ≤ most_kind → (R S : ℕ) (workloads outside edges counts visits constraints colouring : List ℕ) → (plan_refusal kinds R S workloads outside edges counts visits constraints colouring).code ≡ 0 → ValidPlan R S workloads outside edges counts visits constraints colouring
unfolding plan_table plan_refusal
valid_plan kinds known R S workloads outside edges counts visits constraints colouring z =
    passed_plan kinds known R S workloads outside edges counts visits constraints colouring (passed (plan_table kinds R S workloads outside edges counts visits constraints colouring) tt z)

passed_call : (g : Given) → (call_refusal g).code ≡ 0 → Passed (call_table g)
unfolding plan_table room_table call_table call_refusal
passed_call g z = passed (call_table g) tt z

-- a call that is not refused is valid
pub valid : (g : Given) → (call_refusal g).code ≡ 0 → Valid g
unfolding room_table call_table
valid g z =
    let p = passed_more (plan_table most_kind g.R g.S g.workloads g.outside g.edges g.counts g.visits g.constraints g.colouring) _ (passed_call g z) in
    let moves = p.1 in
    let rows = moves.1 in
    let verdicts = rows.1 in
    let work = verdicts.1 in
    let of-moves = passed_records move_length 0 most_moves g.moves moves.0 in
    record {
      plan = passed_plan most_kind (omega arith) g.R g.S g.workloads g.outside g.edges g.counts g.visits g.constraints g.colouring p.0;
      moves_whole = of-moves.0;
      moves_few = of-moves.1.1;
      rows_room = passed_most _ _ rows.0;
      verdicts_room = passed_most _ _ verdicts.0;
      work_room = passed_most _ _ work.0;
    }

-- a call that is not refused names no place
pub refusal-place : (g : Given) → (call_refusal g).code ≡ 0 → (call_refusal g).place ≡ 0
unfolding call_refusal
refusal-place g z = rw (passed_none (call_table g) (passed_call g z))
