-- The codes on a plan, as any table gives them that goes through a plan first: when each is given, and with which place.
-- Assumes nothing.
use Rattle.std.specs.Prelude.{ℕ, ◌+◌, ◌*◌, ◌/◌, ◌%◌, ◌≡◌, refl, ◌≢◌, List, [], ◌∷◌, ◌++◌, T, length, take, drop}
use Rattle.std.proofs.Common.{arith}
use Rattle.lists.specs.Sums.{sum}
use Rattle.meaning.specs.Plan.{edge_length, visit_length, constraint_length, most_regions, most_sectors, most_workload, most_edges, most_area, most_flights, most_visits, most_kind, most_constraints, most_moves}
use Rattle.meaning.specs.Moves.{move_length, row_length, verdict_length}
use Rattle.refusals.specs.declared.Refusal.{Refusal}
use Rattle.scans.specs.Items.{at_most, edge_right, count_right, flight_right, constraint_right, sector_right}
use Rattle.refusals.specs.Table.{Row, refusal, plan_table, room_table, Given, call_table}
use Rattle.demands.specs.Tables.{All, before, rule_of, absent, once, in_order, Stand, group_of, Due, due, Rule}
use Rattle.demands.specs.Rules.{RegionsFit, SectorsFit, WorkloadsFit, OutsideFits, EdgeCountFits, EdgesFit, CountsFit, VisitsFit, ConstraintCountFits, ConstraintsFit, ColouringFits, plan_rules, room_rules, WorkloadPlace, OutsidePlace, EdgePlace, FlightPlace, ConstraintPlace, SectorPlace}
use Rattle.demands.specs.RuleLaws.{at_most_lem, equal, one_of, both, some_records, edge_rules, flight_rules, constraint_rules, whole_passes, each_passes, alone, two, four, ◌then◌, no_place, each-place, list_place, lists_place}

-- ---- the table in groups

-- a table cut into groups of these lengths
abbrev groups : List ℕ → List Row → List (List Row)
groups [] rs = []
groups (n ∷ ns) rs = take n rs ∷ groups ns (drop n rs)

-- the rows on a plan
abbrev pub plan_rows : ℕ → Given → List Row
plan_rows kinds g = plan_table kinds g.R g.S g.workloads g.outside g.edges g.counts g.visits g.constraints g.colouring

-- by their codes: of codes 3, 14 and 8 there are two rows, one on the whole list and one on each item, and of code 13 two such pairs
abbrev pub plan_groups : ℕ → Given → List (List Row)
plan_groups kinds g = groups (1 ∷ 1 ∷ 2 ∷ 2 ∷ 1 ∷ 1 ∷ 4 ∷ 1 ∷ 1 ∷ 2 ∷ []) (plan_rows kinds g)

-- the rows on the moves and on the room that is lent, one for each code
abbrev pub room_groups : Given → List (List Row)
room_groups g = groups (1 ∷ 1 ∷ 1 ∷ 1 ∷ []) (room_table g.R g.S g.constraints g.moves g.rows g.verdicts g.work)

-- all of the call's
abbrev pub call_groups : Given → List (List Row)
call_groups g = plan_groups most_kind g ++ room_groups g

-- the groups on a plan have all its rows, in their order, and then those of the others
pub groups_plan : (kinds : ℕ) (g : Given) (gs : List (List Row)) → in_order (plan_groups kinds g ++ gs) ≡ plan_rows kinds g ++ in_order gs
unfolding plan_table
groups_plan kinds g gs = refl

-- the groups have all rows of the call's table, in its order
pub groups-all : (g : Given) → in_order (call_groups g) ≡ call_table g
unfolding call_table plan_table room_table
groups-all g = refl

-- ---- groups and rules

-- the rows on moves and room have their codes, and pass exactly when the rules hold
pub room_stand : (g : Given) → Stand (room_groups g) (room_rules g)
unfolding room_table
room_stand g =
    alone (whole_passes 9 (some_records move_length most_moves g.moves))
    then alone (whole_passes 10 (at_most_lem (row_length * (length g.moves / move_length)) g.rows))
    then alone (whole_passes 11 (at_most_lem (verdict_length * (length g.constraints / constraint_length)) g.verdicts))
    then alone (whole_passes 12 (at_most_lem (g.R + 2 * g.S + 1) g.work))
    then tt

module _ (kinds : ℕ) (g : Given) (gs : List (List Row)) (As : List Rule) (more : Stand gs As) where
  -- so it is with the rows on a plan, and those that come after them
  pub plan_stand : Stand (plan_groups kinds g ++ gs) (plan_rules kinds g ++ As)
  unfolding plan_table
  plan_stand =
      alone (whole_passes 1 (one_of most_regions g.R))
      then alone (whole_passes 2 (one_of most_sectors g.S))
      then two (whole_passes 3 (equal (length g.workloads) g.R)) (each_passes (at_most most_workload g.workloads) 3 (length g.workloads) (λ k. at_most_lem _ _))
      then two (whole_passes 14 (equal (length g.outside) g.R)) (each_passes (at_most most_area g.outside) 14 (length g.outside) (λ k. at_most_lem _ _))
      then alone (whole_passes 4 (some_records edge_length most_edges g.edges))
      then alone (each_passes (edge_right g.R g.edges) 5 (length g.edges / edge_length) (edge_rules g.R g.edges))
      then four
      (whole_passes 13 (at_most_lem (length g.counts) most_flights))
      (each_passes (count_right g.counts) 13 (length g.counts) (λ k. one_of most_visits _))
      (whole_passes 13 (equal (length g.visits) (visit_length * sum g.counts (λ n. n))))
      (each_passes (flight_right g.R g.counts g.visits) 13 (length g.counts) (λ k. flight_rules g.R _))
      then alone (whole_passes 6 (both (equal (length g.constraints % constraint_length) 0) (one_of most_constraints (length g.constraints / constraint_length))))
      then alone (each_passes (constraint_right kinds g.constraints) 7 (length g.constraints / constraint_length) (constraint_rules kinds g.constraints))
      then two (whole_passes 8 (equal (length g.colouring) g.R)) (each_passes (sector_right g.S g.colouring) 8 (length g.colouring) (λ k. one_of g.S _))
      then more

  -- what is refused of the plan, or else by the others
  abbrev given : Refusal
  given = refusal (in_order (plan_groups kinds g ++ gs))

  -- ---- when each code is given

  -- with the place that its own rows name
  due_plan : (c : ℕ) → c ≢ 0 → T (once c (plan_rules kinds g ++ As)) → {Place : ℕ → Type 0}
      → ((rule_of c (plan_rules kinds g ++ As) → ⊥) → Place (refusal (group_of c (plan_groups kinds g ++ gs) (plan_rules kinds g ++ As))).place)
      → Due given c (All (before c (plan_rules kinds g ++ As))) (rule_of c (plan_rules kinds g ++ As)) Place
  due_plan c z t f = due c (plan_groups kinds g ++ gs) (plan_rules kinds g ++ As) z plan_stand t f

  -- code 1, on R
  pub due_1 : T (absent 1 As) → Due given 1 (All (before 1 (plan_rules kinds g))) (RegionsFit g) (λ place. place ≡ 0)
  unfolding plan_table
  due_1 t = due_plan 1 (omega arith) t (λ _. no_place _ refl)

  -- code 2, on S
  pub due_2 : T (absent 2 As) → Due given 2 (All (before 2 (plan_rules kinds g))) (SectorsFit g) (λ place. place ≡ 0)
  unfolding plan_table
  due_2 t = due_plan 2 (omega arith) t (λ _. no_place _ refl)

  -- code 3, on the workloads
  pub due_3 : T (absent 3 As) → Due given 3 (All (before 3 (plan_rules kinds g))) (WorkloadsFit g) (WorkloadPlace g)
  unfolding plan_table
  due_3 t =
      due_plan 3 (omega arith) t (list_place 3 (length g.workloads) (at_most most_workload g.workloads) (λ k. at_most_lem _ _) _ (equal (length g.workloads) g.R))

  -- code 14, on the outside areas
  pub due_14 : T (absent 14 As) → Due given 14 (All (before 14 (plan_rules kinds g))) (OutsideFits g) (OutsidePlace g)
  unfolding plan_table
  due_14 t =
      due_plan 14 (omega arith) t (list_place 14 (length g.outside) (at_most most_area g.outside) (λ k. at_most_lem _ _) _ (equal (length g.outside) g.R))

  -- code 4, on the number of edges
  pub due_4 : T (absent 4 As) → Due given 4 (All (before 4 (plan_rules kinds g))) (EdgeCountFits g) (λ place. place ≡ 0)
  unfolding plan_table
  due_4 t = due_plan 4 (omega arith) t (λ _. no_place _ refl)

  -- code 5, on each edge
  pub due_5 : T (absent 5 As) → Due given 5 (All (before 5 (plan_rules kinds g))) (EdgesFit g) (EdgePlace g)
  unfolding plan_table
  due_5 t = due_plan 5 (omega arith) t (each-place 5 (length g.edges / edge_length) (edge_right g.R g.edges) (edge_rules g.R g.edges))

  -- code 13, on the flights
  pub due_13 : T (absent 13 As) → Due given 13 (All (before 13 (plan_rules kinds g))) (CountsFit g × VisitsFit g) (FlightPlace g)
  unfolding plan_table
  due_13 t =
      due_plan 13 (omega arith) t
      (lists_place 13 (length g.counts) (count_right g.counts) (flight_right g.R g.counts g.visits) (λ k. one_of most_visits _) (λ k. flight_rules g.R _) _ _
      (at_most_lem (length g.counts) most_flights)
      (equal (length g.visits) (visit_length * sum g.counts (λ n. n))))

  -- code 6, on the number of constraints
  pub due_6 : T (absent 6 As) → Due given 6 (All (before 6 (plan_rules kinds g))) (ConstraintCountFits g) (λ place. place ≡ 0)
  unfolding plan_table
  due_6 t = due_plan 6 (omega arith) t (λ _. no_place _ refl)

  -- code 7, on each constraint
  pub due_7 : T (absent 7 As) → Due given 7 (All (before 7 (plan_rules kinds g))) (ConstraintsFit kinds g) (ConstraintPlace kinds g)
  unfolding plan_table
  due_7 t =
      due_plan 7 (omega arith) t (each-place 7 (length g.constraints / constraint_length) (constraint_right kinds g.constraints) (constraint_rules kinds g.constraints))

  -- code 8, on the colouring
  pub due_8 : T (absent 8 As) → Due given 8 (All (before 8 (plan_rules kinds g))) (ColouringFits g) (SectorPlace g)
  unfolding plan_table
  due_8 t =
      due_plan 8 (omega arith) t (list_place 8 (length g.colouring) (sector_right g.S g.colouring) (λ k. one_of g.S _) _ (equal (length g.colouring) g.R))
