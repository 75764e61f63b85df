-- When converting gives each code, and with which place: document 02, C-13, code by code.
-- Assumes nothing.
use Rattle.std.specs.Prelude.{ℕ, zero, suc, ◌/◌, ◌≤◌, ◌≡◌, refl, ◌≢◌, ◌⊎◌, ◌↔◌, List, [], ◌∷◌, ◌++◌, true, not, leb, length, get_or}
use Rattle.std.proofs.Math.Decide.{ℕ_discrete}
use Rattle.std.proofs.Common.{arith, sym, ap, subst, ◌∙◌, inl, inr, ⊎_elim, append_assoc}
use Rattle.std.proofs.Math.Logic.Iff
use borrow.Author.Tests.{eq-eqb, ne_eqb, not-false}
use Rattle.lists.specs.Sums.{In}
use Rattle.meaning.specs.Plan.{constraint_length, constraint_at}
use Rattle.refusals.specs.declared.Refusal.{Refusal}
use Rattle.refusals.specs.Table.{refused, none, whole, refusal}
use Rattle.form.specs.declared.Form.{Form}
use Rattle.form.specs.declared.Form.TheVariants.{First, Second}
use Rattle.form.specs.Form.{kind_count, Contents, carried, contents_in}
use Rattle.writing.specs.Promise.{sheet_bytes, Outcome, refused_answer, left}
use Rattle.conversion.specs.Promise.{all_zero, kind_right, carries, last_rows, convert_refusal, outcome, Promise, is_outcome}
use Rattle.demands.specs.Tables.{Due}
use Rattle.demands.specs.Rules.{Each}
use Rattle.demands.specs.RuleLaws.{at_most_lem, equal, one_of, both, whole_passes, each_passes}
use Rattle.demands.specs.Parts.{Part, whole_part, AllParts, Refused, Listed, Never, named_whole, broken-whole, listed_append, refused_listed, parts_none, none-refused, never_append, whole-due, row-refused}
use Rattle.demands.specs.SheetRules.{BytesFit, sheet_parts, NoSheetCode, SheetCodes}
use Rattle.demands.specs.SheetNames.{sheet_range}
use Rattle.demands.proofs.SheetLaws.{sheet_refused}
use Rattle.demands.proofs.SheetCodes.{sheet_codes, never_sheet}
use Rattle.demands.specs.FirstSheets.{first_sheet}
use Rattle.demands.proofs.Writings.{answered}

-- code 41: the first sheet takes contents with outside areas that are all 0, no flight, and constraints of the kinds 1 to 4 only; the second takes all
abbrev pub Carries : Form → Contents → Type 0
Carries First k =
    (Each (length k.outside) (λ j. get_or k.outside j 0 ≡ 0) × (length k.counts ≡ 0))
    × Each (length k.constraints / constraint_length) (λ j. In (kind_count First) (constraint_at k.constraints j).kind)
Carries Second k = Unit {0}

-- what is asked of a converting after the sheet: of the lent bytes, then of what is held
abbrev pub last_parts : Form → Contents → List ℕ → List Part
last_parts to k lent = whole_part 40 (BytesFit to (carried to k) lent) ∷ whole_part 41 (Carries to k) ∷ []

-- all that is asked of it, in the order in which it is checked: first of the sheet, as one of the old form
abbrev pub convert_parts : Form → Form → List ℕ → List ℕ → List Part
convert_parts from to sheet lent = sheet_parts from sheet ++ last_parts to (contents_in from sheet) lent

-- ---- the tests say what the rules say

-- the test that all are 0
zeros : (xs : List ℕ) → all_zero xs ≡ true ↔ Each (length xs) (λ j. get_or xs j 0 ≡ 0)
zeros [] = (λ e j h. absurd (omega arith), λ a. refl)
zeros (x ∷ xs) = Iff.trans (both (equal x 0) (zeros xs)) (λ p. each p, λ a. (a 0 (omega arith), λ j h. a (suc j) (omega arith)))
  where
    each : (x ≡ 0) × Each (length xs) (λ j. get_or xs j 0 ≡ 0) → Each (length (x ∷ xs)) (λ j. get_or (x ∷ xs) j 0 ≡ 0)
    each p zero h = p.0
    each p (suc j) h = p.1 j (omega arith)

-- the test of what a form carries
carries_fits : (to : Form) (k : Contents) → carries to k ≡ true ↔ Carries to k
unfolding carries
carries_fits First k =
    let kinds = each_passes (kind_right First k.constraints) 41 (length k.constraints / constraint_length) (λ j. one_of (kind_count First) (constraint_at k.constraints j).kind) in
    both (both (zeros k.outside) (equal (length k.counts) 0)) (λ e. kinds.0 (ap not e), λ a. not-false _ (kinds.1 a))
carries_fits Second k = (λ e. tt, λ a. refl)

-- ---- what it is refused for is what the parts are

-- what is refused of the lent bytes and of what is held
last-refused : (to : Form) (k : Contents) (lent : List ℕ) → Refused (last_parts to k lent) (refusal (last_rows to k (length lent)))
unfolding refusal
last-refused to k lent =
    let carrying = whole 41 (carries to k) in
    row-refused (whole 40 (leb (sheet_bytes to (carried to k)) (length lent))) (carrying ∷ []) (whole_part 41 (Carries to k) ∷ []) (λ e. omega arith) (whole_passes 40 (at_most_lem (sheet_bytes to (carried to k)) (length lent)))
    (λ _. row-refused carrying [] [] (λ e. omega arith) (whole_passes 41 (carries_fits to k)) (λ _. refl))

-- all of them
convert_refused : (from to : Form) (sheet lent : List ℕ) → Refused (convert_parts from to sheet lent) (convert_refusal from to sheet (length lent))
unfolding convert_refusal
convert_refused from to sheet lent =
    let k = contents_in from sheet in
    sheet_refused from sheet (last_rows to k (length lent)) (last_parts to k lent) (last-refused to k lent)

-- ---- the theorems

module _ {from to : Form} {sheet lent : List ℕ} {o : Outcome} (p : Promise from to sheet lent o) where
  -- a converting answers what it is refused for
  as_refused : answered o ≡ convert_refusal from to sheet (length lent)
  unfolding outcome
  as_refused = rw p.answer (go (ℕ_discrete (convert_refusal from to sheet (length lent)).code 0))
    where
      go : Dec ((convert_refusal from to sheet (length lent)).code ≡ 0) → refused (outcome from to sheet lent).answer.code (outcome from to sheet lent).answer.place ≡ convert_refusal from to sheet (length lent)
      go (yes e) = rw (eq-eqb _ 0 e) (sym (none-refused _ (convert_parts from to sheet lent) (convert_refused from to sheet lent) e))
      go (no ne) = rw (ne_eqb _ 0 ne)

  -- so the parts refuse what is answered
  told : Refused (convert_parts from to sheet lent) (answered o)
  told = rw as_refused (convert_refused from to sheet lent)

  -- what follows the sheet has 40 or 41
  last_code : Listed (last_parts to (contents_in from sheet) lent) (answered o) → NoSheetCode o.answer.code
  last_code (inl m) h = omega (arith, named_whole m)
  last_code (inr (inl m)) h = omega (arith, named_whole m)
  last_code (inr (inr x3)) h = elim x3 [ ]

  -- code 0 is given exactly when all that is asked holds
  pub code_0 : o.answer.code ≡ 0 ↔ AllParts (convert_parts from to sheet lent)
  code_0 = parts_none (answered o) (convert_parts from to sheet lent) told

  -- with code 0 the place is 0
  pub place_0 : o.answer.code ≡ 0 → o.answer.place ≡ 0
  place_0 e = ap (λ (r : Refusal). r.place) (none-refused (answered o) (convert_parts from to sheet lent) told e)

  -- no code is given but 0 and those listed, and none with another place
  pub code_listed : (answered o ≡ none) ⊎ Listed (convert_parts from to sheet lent) (answered o)
  code_listed = refused_listed (convert_parts from to sheet lent) told

  -- that is, 0, one of 31 to 38, 40 or 41
  pub code_range : (o.answer.code ≡ 0) ⊎ (((31 ≤ o.answer.code) × (o.answer.code ≤ 38)) ⊎ ((o.answer.code ≡ 40) ⊎ (o.answer.code ≡ 41)))
  code_range =
      ⊎_elim (λ e. inl (ap (λ (r : Refusal). r.code) e))
      (λ l. inr (⊎_elim (λ m. inl (sheet_range from sheet (answered o) m)) (λ m. inr (last m)) (listed_append (answered o) (sheet_parts from sheet) (last_parts to (contents_in from sheet) lent) l)))
      code_listed
    where
      last : Listed (last_parts to (contents_in from sheet) lent) (answered o) → (o.answer.code ≡ 40) ⊎ (o.answer.code ≡ 41)
      last (inl m) = inl (named_whole m)
      last (inr (inl m)) = inr (named_whole m)
      last (inr (inr x'')) = elim x'' [ ]

  -- codes 31 to 38 are given as `SheetCodes` says, of the sheet as one of the old form: with other letters, 32
  pub codes_31_38 : SheetCodes from sheet (answered o)
  codes_31_38 = sheet_codes from sheet (last_parts to (contents_in from sheet) lent) (answered o) told last_code

  -- no part of the sheet gives 40 or 41
  never_last : NoSheetCode o.answer.code → Never (sheet_parts from sheet) (answered o)
  never_last h = never_sheet from sheet (last_parts to (contents_in from sheet) lent) (answered o) told last_code h

  -- code 40, no place: the sheet is not refused, and the lent bytes are too few
  pub code_40 : Due (answered o) 40 (AllParts (sheet_parts from sheet)) (BytesFit to (carried to (contents_in from sheet)) lent) (λ place. place ≡ 0)
  code_40 =
      let k = contents_in from sheet in
      whole-due (answered o) (sheet_parts from sheet) 40 (BytesFit to (carried to k) lent) (whole_part 41 (Carries to k) ∷ []) (omega arith) told
      (λ e. (never_last (λ _. omega arith), (λ b. omega (arith, broken-whole b), tt)))

  -- code 41, no place: neither is refused, and an outside area is non-zero, a flight is present, or a kind other than 1 to 4 is used
  pub code_41 : Due (answered o) 41 (AllParts (sheet_parts from sheet ++ (whole_part 40 (BytesFit to (carried to (contents_in from sheet)) lent) ∷ []))) (Carries to (contents_in from sheet)) (λ place. place ≡ 0)
  code_41 =
      let k = contents_in from sheet in
      let bytes = whole_part 40 (BytesFit to (carried to k) lent) ∷ [] in
      let carrying = whole_part 41 (Carries to k) ∷ [] in
      whole-due (answered o) (sheet_parts from sheet ++ bytes) 41 (Carries to k) [] (omega arith) (subst (λ (Ps : List Part). Refused Ps (answered o)) (sym (append_assoc (sheet_parts from sheet) bytes carrying)) told)
      (λ e. (never_append (answered o) (sheet_parts from sheet) bytes (never_last (λ _. omega arith)) (λ b. omega (arith, broken-whole b), tt), tt))

  -- a refused converting changes nothing, and all it answers besides code and place is 0
  pub refused_converting : o.answer.code ≢ 0 → o ≡ left (refused_answer (answered o)) lent
  unfolding outcome
  refused_converting ne = is_outcome p ∙ rw (ne_eqb _ 0 (λ e. ne (ap (λ (r : Refusal). r.code) as_refused ∙ e))) (ap (λ (r : Refusal). left (refused_answer r) lent) (sym as_refused))

module _ {to : Form} {sheet lent : List ℕ} {o : Outcome} (p : Promise First to sheet lent o) where
  -- of a first sheet 37 never names 13 or 14
  pub first_converted : (answered o ≡ refused 37 13 → ⊥) × (answered o ≡ refused 37 14 → ⊥)
  first_converted = first_sheet (codes_31_38 p)

-- to the second sheet 41 is never given
pub second_carries : {from : Form} {sheet lent : List ℕ} {o : Outcome} → Promise from Second sheet lent o → o.answer.code ≢ 41
second_carries p e = ((code_41 p).exactly.0 e).1 tt
