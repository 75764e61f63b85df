-- When reading gives each code, and with which place: documents 01, "The sheet", and 02, C-13, code by code.
-- Assumes nothing.
use Rattle.std.specs.Prelude.{◌*◌, ◌≤◌, ◌≡◌, refl, ◌≢◌, ◌⊎◌, ◌↔◌, List, [], ◌∷◌, ◌++◌, true, length}
use Rattle.std.proofs.Math.Decide.{ℕ_discrete}
use Rattle.std.proofs.Common.{arith, sym, ap, ◌∙◌, inl, inr, ⊎_elim}
use borrow.Author.Tests.{eq-eqb, ne_eqb}
use Rattle.meaning.specs.Plan.{edge_length, visit_length, constraint_length}
use Rattle.refusals.specs.declared.Refusal.{Refusal}
use Rattle.refusals.specs.Table.{refused, none, whole, refusal}
use Rattle.form.specs.declared.Form.TheVariants.{First}
use Rattle.form.specs.Form.{form_in, head_by}
use Rattle.reading.specs.Promise.{Input, room_right, read_refusal, Outcome, refused_by, held, outcome, Promise, is_outcome}
use Rattle.reading.specs.Handing.{Room}
use Rattle.demands.specs.Tables.{Due}
use Rattle.demands.specs.RuleLaws.{at_most_lem, both, whole_passes}
use Rattle.demands.specs.Parts.{Part, whole_part, AllParts, Refused, Listed, named_whole, listed_append, refused_listed, parts_none, none-refused, whole-due, row-refused}
use Rattle.demands.specs.SheetRules.{sheet_parts, NoSheetCode, SheetCodes}
use Rattle.demands.specs.SheetNames.{sheet_range}
use Rattle.demands.proofs.SheetLaws.{sheet_refused}
use Rattle.demands.proofs.SheetCodes.{sheet_codes, never_sheet}
use Rattle.demands.specs.FirstSheets.{first_sheet}

-- code 39: the lent lists have room for what the head says
abbrev pub RoomFits : Input → Type 0
RoomFits i = Room (head_by i.sheet) (length i.workloads) (length i.outside) (length i.edges) (length i.counts) (length i.visits) (length i.constraints) (length i.colouring)

-- what is asked of a reading, in the order in which it is checked: of the sheet as the one that its letters say it is, then of the lent lists
abbrev pub read_parts : Input → List Part
read_parts i = sheet_parts (form_in i.sheet) i.sheet ++ (whole_part 39 (RoomFits i) ∷ [])

-- the code and the place that a reading answers
abbrev pub answered : Outcome → Refusal
answered o = refused o.answer.code o.answer.place

-- the test of the lent lists says what the rule says
room_fits : (i : Input) → room_right i ≡ true ↔ RoomFits i
unfolding room_right
room_fits i =
    let h = head_by i.sheet in
    let test =
    both
    (both
    (both
    (both (both (both (at_most_lem h.regions (length i.workloads)) (at_most_lem h.regions (length i.outside))) (at_most_lem (edge_length * h.edges) (length i.edges))) (at_most_lem h.flights (length i.counts)))
    (at_most_lem (visit_length * h.visits) (length i.visits)))
    (at_most_lem (constraint_length * h.constraints) (length i.constraints)))
    (at_most_lem h.regions (length i.colouring)) in (
      λ t.
          let p = test.0 t in
          record {
            for_workloads = p.0.0.0.0.0.0;
            for_outside = p.0.0.0.0.0.1;
            for_edges = p.0.0.0.0.1;
            for_counts = p.0.0.0.1;
            for_visits = p.0.0.1;
            for_constraints = p.0.1;
            for_colouring = p.1;
          },
      λ r. test.1 ((((((r.for_workloads, r.for_outside), r.for_edges), r.for_counts), r.for_visits), r.for_constraints), r.for_colouring),
    )

-- what it is refused for is what these parts are
read-refused : (i : Input) → Refused (read_parts i) (read_refusal i)
unfolding read_refusal refusal
read-refused i =
    sheet_refused (form_in i.sheet) i.sheet (whole 39 (room_right i) ∷ []) (whole_part 39 (RoomFits i) ∷ [])
    (row-refused (whole 39 (room_right i)) [] [] (λ e. omega arith) (whole_passes 39 (room_fits i)) (λ _. refl))

-- ---- the theorems

module _ {i : Input} {o : Outcome} (p : Promise i o) where
  -- a reading answers what it is refused for
  as_refused : answered o ≡ read_refusal i
  unfolding outcome held refused_by
  as_refused = rw p.answer (go (ℕ_discrete (read_refusal i).code 0))
    where
      go : Dec ((read_refusal i).code ≡ 0) → refused (outcome i).answer.code (outcome i).answer.place ≡ read_refusal i
      go (yes e) = rw (eq-eqb _ 0 e) (sym (none-refused (read_refusal i) (read_parts i) (read-refused i) e))
      go (no ne) = rw (ne_eqb _ 0 ne)

  -- so the parts refuse what is answered
  told : Refused (read_parts i) (answered o)
  told = rw as_refused (read-refused i)

  -- what follows the sheet has 39
  last_code : Listed (whole_part 39 (RoomFits i) ∷ []) (answered o) → NoSheetCode o.answer.code
  last_code (inl m) h = omega (arith, named_whole m)
  last_code (inr x'') h = elim x'' [ ]

  -- code 0 is given exactly when all that is asked holds
  pub code_0 : o.answer.code ≡ 0 ↔ AllParts (read_parts i)
  code_0 = parts_none (answered o) (read_parts i) told

  -- with code 0 the place is 0
  pub place_0 : o.answer.code ≡ 0 → o.answer.place ≡ 0
  place_0 e = ap (λ (r : Refusal). r.place) (none-refused (answered o) (read_parts i) told e)

  -- no code is given but 0 and those listed, and none with another place
  pub code_listed : (answered o ≡ none) ⊎ Listed (read_parts i) (answered o)
  code_listed = refused_listed (read_parts i) told

  -- that is, 0 or one of 31 to 39
  pub code_range : (o.answer.code ≡ 0) ⊎ ((31 ≤ o.answer.code) × (o.answer.code ≤ 39))
  code_range = ⊎_elim (λ e. inl (ap (λ (r : Refusal). r.code) e)) (λ l. inr (⊎_elim sheet room (listed_append (answered o) (sheet_parts (form_in i.sheet) i.sheet) (whole_part 39 (RoomFits i) ∷ []) l))) code_listed
    where
      sheet : Listed (sheet_parts (form_in i.sheet) i.sheet) (answered o) → (31 ≤ o.answer.code) × (o.answer.code ≤ 39)
      sheet l = let c = sheet_range (form_in i.sheet) i.sheet (answered o) l in (c.0, omega (arith, c.1))

      room : Listed (whole_part 39 (RoomFits i) ∷ []) (answered o) → (31 ≤ o.answer.code) × (o.answer.code ≤ 39)
      room (inl m) = (omega (arith, named_whole m), omega (arith, named_whole m))
      room (inr x') = elim x' [ ]

  -- codes 31 to 38 are given as `SheetCodes` says, of the sheet as the one that its letters say it is
  pub codes_31_38 : SheetCodes (form_in i.sheet) i.sheet (answered o)
  codes_31_38 = sheet_codes (form_in i.sheet) i.sheet (whole_part 39 (RoomFits i) ∷ []) (answered o) told last_code

  -- of a first sheet 37 never names 13 or 14
  pub first_read : form_in i.sheet ≡ First → (answered o ≡ refused 37 13 → ⊥) × (answered o ≡ refused 37 14 → ⊥)
  first_read e = first_sheet (rw e at codes_31_38)

  -- code 39, no place: the sheet is not refused, and the lent lists are too short
  pub code_39 : Due (answered o) 39 (AllParts (sheet_parts (form_in i.sheet) i.sheet)) (RoomFits i) (λ place. place ≡ 0)
  code_39 =
      let f = form_in i.sheet in
      whole-due (answered o) (sheet_parts f i.sheet) 39 (RoomFits i) [] (omega arith) told
      (λ e. (never_sheet f i.sheet (whole_part 39 (RoomFits i) ∷ []) (answered o) told last_code (λ _. omega arith), tt))

  -- a refused reading changes nothing, and all it answers besides code and place is 0
  pub refused_reading : o.answer.code ≢ 0 → o ≡ refused_by i (answered o)
  unfolding outcome
  refused_reading ne = is_outcome p ∙ rw (as_refused, ne_eqb (read_refusal i).code 0 (λ e. ne (ap (λ (r : Refusal). r.code) as_refused ∙ e)))
