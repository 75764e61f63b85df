-- When a call gives each code, and with which place: document 01's table, with codes 13 and 14 of document 02, code by code.
-- Assumes nothing.
use Rattle.std.specs.Prelude.{ℕ, ◌≡◌, refl, ◌≢◌, ◌⊎◌, ◌↔◌, T}
use Rattle.std.proofs.Common.{arith, sym, ◌∙◌}
use Rattle.std.proofs.Math.Decide.{ℕ_discrete}
use Rattle.std.proofs.Math.Path.{ap}
use borrow.Author.Tests.{eq-eqb, ne_eqb}
use Rattle.meaning.specs.Plan.{most_kind}
use Rattle.refusals.specs.declared.Refusal.{Refusal}
use Rattle.refusals.specs.Table.{refused, refusal, room_table, call_refusal}
use Rattle.refusals.specs.Valid.{refusal-place}
use Rattle.call.specs.Promise.{Input, Outcome, Promise, given, refused_by, ran, outcome, is_outcome}
use Rattle.demands.specs.Calls.{answer_code}
use Rattle.demands.specs.Tables.{All, before, rule_of, once, Among, in_order, Stand, group_of, rows_told, told_among, told_none, due}
use Rattle.demands.specs.Tables as tables
use Rattle.demands.specs.Rules.{RegionsFit, SectorsFit, WorkloadsFit, OutsideFits, EdgeCountFits, EdgesFit, CountsFit, VisitsFit, ConstraintCountFits, ConstraintsFit, ColouringFits, MovesFit, RowsFit, VerdictsFit, WorkFits, room_rules, rules, WorkloadPlace, OutsidePlace, EdgePlace, FlightPlace, ConstraintPlace, SectorPlace}
use Rattle.demands.specs.RuleLaws.{no_place}
use Rattle.demands.proofs.PlanCodes.{room_groups, call_groups, groups-all, room_stand, plan_stand, due_1, due_2, due_3, due_14, due_4, due_5, due_13, due_6, due_7, due_8}

-- the code and the place that a call answers
abbrev pub answered : Outcome → Refusal
answered o = refused o.answer.code o.answer.place

-- a code is given exactly when the rules of the codes before it hold and its own does not, and then with a place that is so
abbrev pub Due : Input → Outcome → ℕ → Type 0 → (ℕ → Type 0) → Type 0
Due i o code Rule Place = tables.Due (answered o) code (All (before code (rules (given i)))) Rule Place

module _ {i : Input} {o : Outcome} (p : Promise i o) where
  -- a call answers the place of the table's refusal
  answer_place : o.answer.place ≡ (call_refusal (given i)).place
  unfolding outcome ran refused_by
  answer_place = ap (λ a. a.place) p.answer ∙ go (ℕ_discrete (call_refusal (given i)).code 0)
    where
      go : Dec ((call_refusal (given i)).code ≡ 0) → (outcome i).answer.place ≡ (call_refusal (given i)).place
      go (yes e) = rw (eq-eqb _ 0 e) (sym (refusal-place (given i) e))
      go (no ne) = rw (ne_eqb _ 0 ne)

  -- a call answers what the groups of the table refuse
  as_refused : answered o ≡ refusal (in_order (call_groups (given i)))
  unfolding call_refusal
  as_refused = rw (groups-all (given i), answer_code p, answer_place)

  -- the groups say what the rules say
  call_stand : Stand (call_groups (given i)) (rules (given i))
  call_stand = plan_stand most_kind (given i) (room_groups (given i)) (room_rules (given i)) (room_stand (given i))

  -- the rules give the code of the call
  call_told : tables.Told (rules (given i)) o.answer.code
  call_told = rw (ap (λ r. r.code) as_refused) (rows_told (call_groups (given i)) (rules (given i)) call_stand)

  -- code 0 is given exactly when every rule of the table holds
  pub code_0 : o.answer.code ≡ 0 ↔ All (rules (given i))
  code_0 = told_none (rules (given i)) tt call_told

  -- with code 0 the place is 0
  pub place_0 : o.answer.code ≡ 0 → o.answer.place ≡ 0
  place_0 e = answer_place ∙ refusal-place (given i) (sym (answer_code p) ∙ e)

  -- no code is given but 0 and those of the table
  pub code_listed : (o.answer.code ≡ 0) ⊎ Among o.answer.code (rules (given i))
  code_listed = told_among (rules (given i)) call_told

  -- code 1, no place: R outside its limits
  pub code_1 : Due i o 1 (RegionsFit (given i)) (λ place. place ≡ 0)
  code_1 = rw as_refused (due_1 most_kind (given i) (room_groups (given i)) (room_rules (given i)) (room_stand (given i)) tt)

  -- code 2, no place: S outside its limits
  pub code_2 : Due i o 2 (SectorsFit (given i)) (λ place. place ≡ 0)
  code_2 = rw as_refused (due_2 most_kind (given i) (room_groups (given i)) (room_rules (given i)) (room_stand (given i)) tt)

  -- code 3: workload list not R long; else a workload too large, with its place
  pub code_3 : Due i o 3 (WorkloadsFit (given i)) (WorkloadPlace (given i))
  code_3 = rw as_refused (due_3 most_kind (given i) (room_groups (given i)) (room_rules (given i)) (room_stand (given i)) tt)

  -- code 14: outside list not R long; else an outside area too large, with its place
  pub code_14 : Due i o 14 (OutsideFits (given i)) (OutsidePlace (given i))
  code_14 = rw as_refused (due_14 most_kind (given i) (room_groups (given i)) (room_rules (given i)) (room_stand (given i)) tt)

  -- code 4, no place: edge numbers not a multiple of three, or over 2,048 edges
  pub code_4 : Due i o 4 (EdgeCountFits (given i)) (λ place. place ≡ 0)
  code_4 = rw as_refused (due_4 most_kind (given i) (room_groups (given i)) (room_rules (given i)) (room_stand (given i)) tt)

  -- code 5: an edge against its rules, or not above the edge before it, with its place
  pub code_5 : Due i o 5 (EdgesFit (given i)) (EdgePlace (given i))
  code_5 = rw as_refused (due_5 most_kind (given i) (room_groups (given i)) (room_rules (given i)) (room_stand (given i)) tt)

  -- code 13: more than 64 flights, or else a wrong count, with its flight; or else a visit list not twice their sum long, or else a wrong visit, with its flight
  pub code_13 : Due i o 13 (CountsFit (given i) × VisitsFit (given i)) (FlightPlace (given i))
  code_13 = rw as_refused (due_13 most_kind (given i) (room_groups (given i)) (room_rules (given i)) (room_stand (given i)) tt)

  -- code 6, no place: constraint numbers not a multiple of four, or not 1..16 of them
  pub code_6 : Due i o 6 (ConstraintCountFits (given i)) (λ place. place ≡ 0)
  code_6 = rw as_refused (due_6 most_kind (given i) (room_groups (given i)) (room_rules (given i)) (room_stand (given i)) tt)

  -- code 7: a constraint with kind not 1..5, or a relation its kind doesn't take, or limit or weight outside, with its place
  pub code_7 : Due i o 7 (ConstraintsFit most_kind (given i)) (ConstraintPlace most_kind (given i))
  code_7 = rw as_refused (due_7 most_kind (given i) (room_groups (given i)) (room_rules (given i)) (room_stand (given i)) tt)

  -- code 8: colouring not R long; else a sector outside 1..S, with its place
  pub code_8 : Due i o 8 (ColouringFits (given i)) (SectorPlace (given i))
  code_8 = rw as_refused (due_8 most_kind (given i) (room_groups (given i)) (room_rules (given i)) (room_stand (given i)) tt)

  -- a code on moves or room names no place
  due_room : (c : ℕ) → c ≢ 0 → T (once c (rules (given i))) → (refusal (group_of c (call_groups (given i)) (rules (given i)))).place ≡ 0
      → Due i o c (rule_of c (rules (given i))) (λ place. place ≡ 0)
  due_room c z t e =
      rw as_refused (due c (call_groups (given i)) (rules (given i)) z call_stand t (λ _. e))

  -- code 9, no place: move numbers not a multiple of three, or over 4,096 moves
  pub code_9 : Due i o 9 (MovesFit (given i)) (λ place. place ≡ 0)
  unfolding room_table
  code_9 = due_room 9 (omega arith) tt (no_place _ refl)

  -- code 10, no place: room for rows too short
  pub code_10 : Due i o 10 (RowsFit (given i)) (λ place. place ≡ 0)
  unfolding room_table
  code_10 = due_room 10 (omega arith) tt (no_place _ refl)

  -- code 11, no place: room for verdicts too short
  pub code_11 : Due i o 11 (VerdictsFit (given i)) (λ place. place ≡ 0)
  unfolding room_table
  code_11 = due_room 11 (omega arith) tt (no_place _ refl)

  -- code 12, no place: work memory below R + 2 S + 1
  pub code_12 : Due i o 12 (WorkFits (given i)) (λ place. place ≡ 0)
  unfolding room_table
  code_12 = due_room 12 (omega arith) tt (no_place _ refl)

  -- with another code than 0 both totals are 0 and no memory changes
  pub refused_call : o.answer.code ≢ 0 → o ≡ refused_by i (refused o.answer.code o.answer.place)
  unfolding outcome
  refused_call ne = is_outcome p ∙ rw (answer_code p, answer_place, ne_eqb (call_refusal (given i)).code 0 (λ e. ne (answer_code p ∙ e)))
