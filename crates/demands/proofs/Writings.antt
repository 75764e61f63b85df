-- When writing gives each code, and with which place: documents 01, "The sheet", and 02, C-13, code by code.
-- Assumes nothing.
use Rattle.std.specs.Prelude.{ℕ, ◌≡◌, refl, ◌≢◌, ◌⊎◌, ◌↔◌, List, [], ◌∷◌, ◌++◌, leb, length}
use Rattle.std.proofs.Math.Decide.{ℕ_discrete}
use Rattle.std.proofs.Common.{arith, ◌∙◌}
use Rattle.std.proofs.Math.Path.{sym, ap}
use borrow.Author.Tests.{eq-eqb, ne_eqb}
use Rattle.refusals.specs.declared.Refusal.{Refusal}
use Rattle.refusals.specs.Table.{Row, refused, none, whole, refusal, plan_table}
use Rattle.refusals.specs.Passed.{passed, passed_none}
use Rattle.form.specs.declared.Form.{Form}
use Rattle.form.specs.declared.Form.TheVariants.{First}
use Rattle.form.specs.Form.{kind_count, Contents}
use Rattle.form.specs.Refusals.{contents_table}
use Rattle.writing.specs.Promise.{sheet_bytes, write_refusal, Outcome, refused_answer, outcome, Promise, is_outcome, plain, left}
use Rattle.demands.specs.Tables.{Rule, ◌asks◌, All, before, Among, in_order, Stand, rows_told, told_among, told_none, due, Told}
use Rattle.demands.specs.Tables as tables
use Rattle.demands.specs.Rules.{RegionsFit, SectorsFit, WorkloadsFit, OutsideFits, EdgeCountFits, EdgesFit, CountsFit, VisitsFit, ConstraintCountFits, ConstraintsFit, ColouringFits, plan_rules, WorkloadPlace, OutsidePlace, EdgePlace, FlightPlace, ConstraintPlace, SectorPlace}
use Rattle.demands.specs.RuleLaws.{at_most_lem, whole_passes, alone, ◌then◌, no_place}
use Rattle.demands.proofs.PlanCodes.{plan_groups, groups_plan, plan_stand, due_1, due_2, due_3, due_14, due_4, due_5, due_13, due_6, due_7, due_8}
use Rattle.demands.specs.SheetRules.{as_given, BytesFit}
use Rattle.demands.specs.FirstSheets.{carried_flights, carried_outside}

-- the codes and their rules, in the order in which they are checked: the call's on a plan, with constraints of the sheet's kinds, then 40 for the lent bytes
abbrev pub write_rules : Form → Contents → List ℕ → List Rule
write_rules f k lent = plan_rules (kind_count f) (as_given k) ++ ((40 asks BytesFit f k lent) ∷ [])

-- the code and the place that a writing answers
abbrev pub answered : Outcome → Refusal
answered o = refused o.answer.code o.answer.place

-- a code is given exactly when the rules of the codes before it hold and its own does not, and then with a place that is so
abbrev pub Due : Form → Contents → List ℕ → Outcome → ℕ → Type 0 → (ℕ → Type 0) → Type 0
Due f k lent o code Rule Place = tables.Due (answered o) code (All (before code (write_rules f k lent))) Rule Place

-- ---- what it is refused for is what these rules are

module _ (f : Form) (k : Contents) (lent : List ℕ) where
  -- the row on the lent bytes
  abbrev bytes_row : Row
  bytes_row = whole 40 (leb (sheet_bytes f k) (length lent))

  -- all rows by their codes
  abbrev write_groups : List (List Row)
  write_groups = plan_groups (kind_count f) (as_given k) ++ ((bytes_row ∷ []) ∷ [])

  -- it passes exactly when the lent bytes are enough
  bytes_stand : Stand ((bytes_row ∷ []) ∷ []) ((40 asks BytesFit f k lent) ∷ [])
  bytes_stand = alone (whole_passes 40 (at_most_lem (sheet_bytes f k) (length lent))) then tt

  -- each code's rows have that code, and pass exactly when its rule holds
  write_stand : Stand write_groups (write_rules f k lent)
  write_stand = plan_stand (kind_count f) (as_given k) ((bytes_row ∷ []) ∷ []) ((40 asks BytesFit f k lent) ∷ []) bytes_stand

  -- they refuse what writing does
  write_groups_lem : write_refusal f k (length lent) ≡ refusal (in_order write_groups)
  unfolding write_refusal
  write_groups_lem = ap refusal (sym (groups_plan (kind_count f) (as_given k) ((bytes_row ∷ []) ∷ [])))

  -- with code 0 nothing is refused, and no place is named
  write_none : (write_refusal f k (length lent)).code ≡ 0 → write_refusal f k (length lent) ≡ none
  unfolding write_refusal plan_table
  write_none z = let rows = contents_table f k ++ (bytes_row ∷ []) in passed_none rows (passed rows tt z)

-- ---- the theorems

module _ {f : Form} {k : Contents} {lent : List ℕ} {o : Outcome} (p : Promise f k lent o) where
  -- a writing answers what they refuse
  as_refused : answered o ≡ refusal (in_order (write_groups f k lent))
  unfolding outcome
  as_refused = rw p.answer (go (ℕ_discrete (write_refusal f k (length lent)).code 0)) ∙ write_groups_lem f k lent
    where
      go : Dec ((write_refusal f k (length lent)).code ≡ 0) → refused (outcome f k lent).answer.code (outcome f k lent).answer.place ≡ write_refusal f k (length lent)
      go (yes e) = rw (eq-eqb _ 0 e) (sym (write_none f k lent e))
      go (no ne) = rw (ne_eqb _ 0 ne)

  -- the rules give the code of the writing
  told : Told (write_rules f k lent) o.answer.code
  told = rw (ap (λ (r : Refusal). r.code) as_refused) (rows_told (write_groups f k lent) (write_rules f k lent) (write_stand f k lent))

  -- code 0 is given exactly when every rule holds
  pub code_0 : o.answer.code ≡ 0 ↔ All (write_rules f k lent)
  code_0 = told_none (write_rules f k lent) tt told

  -- with code 0 the place is 0
  pub place_0 : o.answer.code ≡ 0 → o.answer.place ≡ 0
  place_0 e =
      let r = as_refused ∙ sym (write_groups_lem f k lent) in
      ap (λ (r : Refusal). r.place) (r ∙ write_none f k lent (ap (λ (r : Refusal). r.code) (sym r) ∙ e))

  -- no code is given but 0 and those of the rules
  pub code_listed : (o.answer.code ≡ 0) ⊎ Among o.answer.code (write_rules f k lent)
  code_listed = told_among (write_rules f k lent) told

  -- code 1, no place: R outside its limits
  pub code_1 : Due f k lent o 1 (RegionsFit (as_given k)) (λ place. place ≡ 0)
  code_1 = rw as_refused (due_1 (kind_count f) (as_given k) ((bytes_row f k lent ∷ []) ∷ []) ((40 asks BytesFit f k lent) ∷ []) (bytes_stand f k lent) tt)

  -- code 2, no place: S outside its limits
  pub code_2 : Due f k lent o 2 (SectorsFit (as_given k)) (λ place. place ≡ 0)
  code_2 = rw as_refused (due_2 (kind_count f) (as_given k) ((bytes_row f k lent ∷ []) ∷ []) ((40 asks BytesFit f k lent) ∷ []) (bytes_stand f k lent) tt)

  -- code 3: workload list not R long; else a workload too large, with its place
  pub code_3 : Due f k lent o 3 (WorkloadsFit (as_given k)) (WorkloadPlace (as_given k))
  code_3 = rw as_refused (due_3 (kind_count f) (as_given k) ((bytes_row f k lent ∷ []) ∷ []) ((40 asks BytesFit f k lent) ∷ []) (bytes_stand f k lent) tt)

  -- code 14: outside list not R long; else an outside area too large, with its place
  pub code_14 : Due f k lent o 14 (OutsideFits (as_given k)) (OutsidePlace (as_given k))
  code_14 = rw as_refused (due_14 (kind_count f) (as_given k) ((bytes_row f k lent ∷ []) ∷ []) ((40 asks BytesFit f k lent) ∷ []) (bytes_stand f k lent) tt)

  -- code 4, no place: edge numbers not a multiple of three, or over 2,048 edges
  pub code_4 : Due f k lent o 4 (EdgeCountFits (as_given k)) (λ place. place ≡ 0)
  code_4 = rw as_refused (due_4 (kind_count f) (as_given k) ((bytes_row f k lent ∷ []) ∷ []) ((40 asks BytesFit f k lent) ∷ []) (bytes_stand f k lent) tt)

  -- code 5: an edge against its rules, or not above the edge before it, with its place
  pub code_5 : Due f k lent o 5 (EdgesFit (as_given k)) (EdgePlace (as_given k))
  code_5 = rw as_refused (due_5 (kind_count f) (as_given k) ((bytes_row f k lent ∷ []) ∷ []) ((40 asks BytesFit f k lent) ∷ []) (bytes_stand f k lent) tt)

  -- code 13: more than 64 flights, or else a wrong count, with its flight; or else a visit list not twice their sum long, or else a wrong visit, with its flight
  pub code_13 : Due f k lent o 13 (CountsFit (as_given k) × VisitsFit (as_given k)) (FlightPlace (as_given k))
  code_13 = rw as_refused (due_13 (kind_count f) (as_given k) ((bytes_row f k lent ∷ []) ∷ []) ((40 asks BytesFit f k lent) ∷ []) (bytes_stand f k lent) tt)

  -- code 6, no place: constraint numbers not a multiple of four, or not 1..16 of them
  pub code_6 : Due f k lent o 6 (ConstraintCountFits (as_given k)) (λ place. place ≡ 0)
  code_6 = rw as_refused (due_6 (kind_count f) (as_given k) ((bytes_row f k lent ∷ []) ∷ []) ((40 asks BytesFit f k lent) ∷ []) (bytes_stand f k lent) tt)

  -- code 7: a constraint with a kind that the sheet doesn't hold, or a relation its kind doesn't take, or limit or weight outside, with its place
  pub code_7 : Due f k lent o 7 (ConstraintsFit (kind_count f) (as_given k)) (ConstraintPlace (kind_count f) (as_given k))
  code_7 = rw as_refused (due_7 (kind_count f) (as_given k) ((bytes_row f k lent ∷ []) ∷ []) ((40 asks BytesFit f k lent) ∷ []) (bytes_stand f k lent) tt)

  -- code 8: colouring not R long; else a sector outside 1..S, with its place
  pub code_8 : Due f k lent o 8 (ColouringFits (as_given k)) (SectorPlace (as_given k))
  code_8 = rw as_refused (due_8 (kind_count f) (as_given k) ((bytes_row f k lent ∷ []) ∷ []) ((40 asks BytesFit f k lent) ∷ []) (bytes_stand f k lent) tt)

  -- code 40, no place: the lent bytes are too few
  pub code_40 : Due f k lent o 40 (BytesFit f k lent) (λ place. place ≡ 0)
  code_40 = rw as_refused (due 40 (write_groups f k lent) (write_rules f k lent) (omega arith) (write_stand f k lent) tt (λ _. no_place _ refl))

  -- a refused writing changes nothing, and all it answers besides code and place is 0
  pub refused_writing : o.answer.code ≢ 0 → o ≡ left (refused_answer (answered o)) lent
  unfolding outcome
  refused_writing ne =
      let r = as_refused ∙ sym (write_groups_lem f k lent) in
      is_outcome p ∙ rw (ne_eqb _ 0 (λ e. ne (ap (λ (r : Refusal). r.code) r ∙ e))) (ap (λ (r : Refusal). left (refused_answer r) lent) (sym r))

-- writing a first sheet, which has no outside areas and no flights, gives neither 13 nor 14
pub first_written : {R S : ℕ} {workloads edges constraints colouring lent : List ℕ} {o : Outcome} → Promise First (plain R S workloads edges constraints colouring) lent o
    → (o.answer.code ≢ 13) × (o.answer.code ≢ 14)
first_written {R} {S} {workloads} {edges} {constraints} {colouring} p =
    let k = plain R S workloads edges constraints colouring in
    (λ e. ((code_13 p).exactly.0 e).1 (carried_flights k), λ e. ((code_14 p).exactly.0 e).1 (carried_outside k))
