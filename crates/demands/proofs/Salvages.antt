-- When salvaging gives each code, and with which place: document 02, C-21, code by code.
-- Assumes nothing.
use Rattle.std.specs.Prelude.{ℕ, ◌-◌, ◌≤◌, ◌<◌, ◌≡◌, refl, ◌≢◌, ◌⊎◌, ◌↔◌, true, cond, not, List, [], ◌∷◌, ◌++◌, eqb, leb, length, drop}
use Rattle.std.proofs.Math.Decide.{ℕ_discrete}
use Rattle.std.proofs.Common.{arith, sym, ap, subst, ◌∙◌, inl, inr, ⊎_elim, append_assoc, length-take}
use borrow.Author.Tests.{eqb-false, eq-eqb, ne_eqb, not-true}
use Rattle.lists.specs.Sums.{Every}
use Rattle.lists.specs.SumLaws.{every_append}
use Rattle.lists.specs.Tests.{by_eqb}
use Rattle.packing.specs.Part.{part}
use Rattle.refusals.specs.declared.Refusal.{Refusal}
use Rattle.refusals.specs.Table.{Row, refused, none, whole, refusal}
use Rattle.refusals.specs.Passed.{passed_none, refusal-each}
use Rattle.refusals.specs.ButEight.{but_eight}
use Rattle.blocks.specs.Sheet.{block_at}
use Rattle.blocks.specs.SheetLaws.{fault_named}
use Rattle.form.specs.declared.Form.{Form}
use Rattle.form.specs.declared.Form.TheVariants.{First}
use Rattle.form.specs.declared.Head.{Head}
use Rattle.form.specs.Form.{letters, dues, form_in, coloured, head_in, head_by, contents_in}
use Rattle.form.specs.Firsts.{colouring_first, count_first}
use Rattle.form.proofs.FirstLaws.{after_head}
use Rattle.form.specs.Refusals.{open_table, held_table, contents_refusal}
use Rattle.form.specs.Accepted.{Opened}
use Rattle.form.proofs.AcceptedLaws.{opened, open_passed, accepted, rows-refused}
use Rattle.mending.specs.Mended.{lost}
use Rattle.salvage.specs.Surviving.{survivors}
use Rattle.salvage.specs.Promise.{fault_between, other_table, last_rows, salvage_refusal, salvaged_sheet, Outcome, left, refused_answer, outcome_of, outcome, Promise, is_outcome}
use Rattle.salvage.specs.Anew.{length_anew, as_they_are, form_anew, head_anew, contents_anew}
use Rattle.salvage.specs.Sound.{as_read, not_opened}
use Rattle.demands.specs.Tables.{Due}
use Rattle.demands.specs.RuleLaws.{at_most_lem, whole_passes}
use Rattle.demands.specs.Parts.{Part, whole_part, AllParts, Refused, Listed, Never, named_whole, broken-whole, listed_append, refused_listed, parts_none, none-refused, never_append, whole-due, row-refused}
use Rattle.demands.specs.SheetRules.{sheet_parts, NoSheetCode, SheetCodes}
use Rattle.demands.specs.SheetNames.{sheet_range}
use Rattle.demands.proofs.SheetLaws.{sheet_refused}
use Rattle.demands.proofs.SheetCodes.{sheet_codes, never_sheet}
use Rattle.demands.specs.FirstSheets.{first_sheet}

-- ---- what is asked

-- a sheet as codes 31 to 38 are given of it: with the colouring's blocks written anew, or as it is where its length, its head or its number of blocks is refused
unfoldable pub as_salvaged : Form → List ℕ → List ℕ
as_salvaged f sheet = cond (eqb (refusal (open_table f sheet)).code 0) (salvaged_sheet f sheet) sheet

-- a sheet is another one but for the blocks of its colouring
pub record ButColouring (f : Form) (sheet new : List ℕ) : Type 0 where
  -- it has as many bytes,
  pub size : length new ≡ length sheet
  -- the same letters,
  pub form : form_in new ≡ form_in sheet
  -- the same head,
  pub head : head_in f new ≡ head_in f sheet
  -- the same blocks before those of the colouring and after them,
  pub block : (n : ℕ) → (n < colouring_first f (head_in f sheet)) ⊎ (count_first f (head_in f sheet) ≤ n) → block_at new n ≡ block_at sheet n
  -- and holds the same but for the colouring
  pub held : contents_in f new ≡ coloured (contents_in f sheet) (contents_in f new).colouring

-- code 40: as many bytes are lent as the sheet has
abbrev pub SheetFits : List ℕ → List ℕ → Type 0
SheetFits sheet bytes = length sheet ≤ length bytes

-- code 17: the lent list has room for the lost regions
abbrev pub LostFit : Form → List ℕ → List ℕ → Type 0
LostFit f sheet list = length (lost (survivors f sheet)) ≤ length list

-- what is asked of a salvaging after the sheet: of the lent bytes, then of the lent list
abbrev pub last_parts : Form → List ℕ → List ℕ → List ℕ → List Part
last_parts f sheet bytes list = whole_part 40 (SheetFits sheet bytes) ∷ whole_part 17 (LostFit f sheet list) ∷ []

-- all that is asked of it, in the order in which it is checked: first of the sheet
abbrev pub salvage_parts : Form → List ℕ → List ℕ → List ℕ → List Part
salvage_parts f sheet bytes list = sheet_parts f (as_salvaged f sheet) ++ last_parts f sheet bytes list

-- the code and the place that a salvaging answers
abbrev pub answered : Outcome → Refusal
answered o = refused o.answer.code o.answer.place

-- ---- what it is refused for is what the parts are

module _ (f : Form) (sheet : List ℕ) where
  -- what the salvaged sheet has where the sheet is opened, and else the sheet, has the sheet as it is asked
  by_opened : (P : List ℕ → Type 0) → (Opened f sheet → P (salvaged_sheet f sheet)) → (((refusal (open_table f sheet)).code ≡ 0 → ⊥) → P sheet) → P (as_salvaged f sheet)
  unfolding as_salvaged
  by_opened P some other = by_eqb (refusal (open_table f sheet)).code 0 P (salvaged_sheet f sheet) sheet (λ e. some (opened f sheet e)) other

  -- a salvaged sheet is the sheet but for the blocks of its colouring
  pub but_colouring : Opened f sheet → ButColouring f sheet (salvaged_sheet f sheet)
  but_colouring o = record { size = length_anew o; form = form_anew o; head = head_anew o; block = as_they_are o; held = rw (contents_anew o) }

  -- so is the sheet as it is asked: codes 31 to 38 are given of the sheet itself, but for the blocks of its colouring
  pub asked_but : ButColouring f sheet (as_salvaged f sheet)
  asked_but = by_opened (ButColouring f sheet) but_colouring (λ n. record { size = refl; form = refl; head = refl; block = λ k h. refl; held = refl })

  -- a salvaging is refused for what reading that is, and then for what is lent
  as_asked : (bytes room : ℕ) → let new = as_salvaged f sheet in salvage_refusal f sheet bytes room ≡ refusal (open_table f new ++ held_table f new ++ last_rows f sheet bytes room)
  as_asked bytes room =
      let last = last_rows f sheet bytes room in
      by_opened (λ new. salvage_refusal f sheet bytes room ≡ refusal (open_table f new ++ held_table f new ++ last)) (λ o. as_read o bytes room)
      (λ n. not_opened f sheet bytes room n ∙ sym (rows-refused f sheet last (λ z. n (ap (λ (r : Refusal). r.code) (passed_none (open_table f sheet) (open_passed (accepted f sheet z).opened))))))

-- what is refused of the lent bytes and of the lent list
last-refused : (f : Form) (sheet bytes list : List ℕ) → Refused (last_parts f sheet bytes list) (refusal (last_rows f sheet (length bytes) (length list)))
unfolding refusal
last-refused f sheet bytes list =
    let gone = length (lost (survivors f sheet)) in
    let room = whole 17 (leb gone (length list)) in
    row-refused (whole 40 (leb (length sheet) (length bytes))) (room ∷ []) (whole_part 17 (LostFit f sheet list) ∷ []) (λ e. omega arith) (whole_passes 40 (at_most_lem (length sheet) (length bytes)))
    (λ _. row-refused room [] [] (λ e. omega arith) (whole_passes 17 (at_most_lem gone (length list))) (λ _. refl))

-- all of them
salvage_refused : (f : Form) (sheet bytes list : List ℕ) → Refused (salvage_parts f sheet bytes list) (salvage_refusal f sheet (length bytes) (length list))
salvage_refused f sheet bytes list =
    rw (as_asked f sheet (length bytes) (length list))
    (sheet_refused f (as_salvaged f sheet) (last_rows f sheet (length bytes) (length list)) (last_parts f sheet bytes list) (last-refused f sheet bytes list))

-- ---- what is never refused

-- not a sector of the colouring, nor a block of it
record Other (f : Form) (h : Head) (r : Refusal) : Type 0 where
  eight : r ≢ refused 37 8
  block : 32 ≤ r.code → r.code ≤ 36 → colouring_first f h ≤ r.place → r.place < count_first f h → ⊥

-- a row refuses nothing of these
abbrev OtherRow : Form → Head → Row → Type 0
OtherRow f h row = row.given ≡ true → Other f h (refused row.code row.place)

module _ (f : Form) (h : Head) where
  -- what names no place
  no_place : (code : ℕ) → Other f h (refused code 0)
  no_place code = record { eight = λ e. omega (arith, ap (λ (r : Refusal). r.place) e); block = λ low high first next. omega (arith, after_head f) }

  -- 37 with another place
  other_place : (place : ℕ) → place ≢ 8 → Other f h (refused 37 place)
  other_place place n = record { eight = λ e. n (ap (λ (r : Refusal). r.place) e); block = λ low high first next. omega arith }

  -- other blocks in turn
  other_blocks : (sheet : List ℕ) (start end : ℕ) → ((n : ℕ) → start ≤ n → n < end → colouring_first f h ≤ n → n < count_first f h → ⊥)
      → let r = fault_between f h sheet start end in not (eqb r.code 0) ≡ true → Other f h (refused r.code r.place)
  other_blocks sheet start end apart given =
      let r = fault_between f h sheet start end in
      let q = fault_named (letters f) start (part start end (dues f h)) _ (eqb-false r.code 0 (not-true _ given)) in
      record {
        eight = λ e. omega (arith, ap (λ (x : Refusal). x.code) e, q.0.1);
        block = λ low high. apart r.place q.1.0 (omega (arith, q.1.0, q.1.1, length-take (end - start) (drop start (dues f h))));
      }

module _ (f : Form) (sheet : List ℕ) (bytes room : ℕ) where
  -- the head of the sheet
  abbrev h : Head
  h = head_in f sheet

  -- each row refuses something else
  other-rows : Every (OtherRow f h) (open_table f sheet ++ other_table f sheet ++ last_rows f sheet bytes room)
  unfolding open_table other_table
  other-rows =
      let off = other_place f h in
      let none = no_place f h in
      let code = (contents_refusal f (contents_in f sheet)).code in
      every_append (OtherRow f h) (open_table f sheet ++ other_table f sheet) (last_rows f sheet bytes room)
      (every_append (OtherRow f h) (open_table f sheet) (other_table f sheet) (
        λ _. none 31,
        (λ _. none _, (λ _. off 1 (λ e. omega arith), (λ _. off 2 (λ e. omega arith), (λ _. off 4 (λ e. omega arith), (λ _. off 6 (λ e. omega arith), (λ _. off 13 (λ e. omega arith), (λ _. none 38, tt))))))),
      ) (
        other_blocks f h sheet 1 (colouring_first f h) (λ n low high first next. omega arith),
        (
          other_blocks f h sheet (count_first f h) (length (dues f h)) (λ n low high first next. omega arith),
          (λ _. off (but_eight code) (by_eqb code 8 (λ (x : ℕ). x ≢ 8) 0 code (λ e z. omega arith) (λ n. n)), tt),
        ),
      ))
      (λ _. none 40, (λ _. none 17, tt))

  -- so salvaging does
  other-refused : Other f h (salvage_refusal f sheet bytes room)
  unfolding salvage_refusal
  other-refused = refusal-each (open_table f sheet ++ other_table f sheet ++ last_rows f sheet bytes room) (Other f h) (no_place f h 0) other-rows

-- ---- the theorems

module _ {sheet bytes list : List ℕ} {o : Outcome} (p : Promise sheet bytes list o) where
  -- what the sheet is, as its letters say, and as its codes are given of it
  abbrev f : Form
  f = form_in sheet

  abbrev asked : List ℕ
  asked = as_salvaged f sheet

  -- a salvaging answers what it is refused for
  pub as_refused : answered o ≡ salvage_refusal f sheet (length bytes) (length list)
  unfolding outcome_of
  as_refused = rw p.answer (go (ℕ_discrete (salvage_refusal f sheet (length bytes) (length list)).code 0))
    where
      go : Dec ((salvage_refusal f sheet (length bytes) (length list)).code ≡ 0) → answered (outcome sheet bytes list) ≡ salvage_refusal f sheet (length bytes) (length list)
      go (yes e) = rw (eq-eqb _ 0 e) (sym (none-refused _ (salvage_parts f sheet bytes list) (salvage_refused f sheet bytes list) e))
      go (no ne) = rw (ne_eqb _ 0 ne)

  -- so the parts refuse what is answered
  told : Refused (salvage_parts f sheet bytes list) (answered o)
  told = rw as_refused (salvage_refused f sheet bytes list)

  -- what follows the sheet has 40 or 17
  last_code : Listed (last_parts f sheet bytes list) (answered o) → NoSheetCode o.answer.code
  last_code (inl m) h = omega (arith, named_whole m)
  last_code (inr (inl m)) h = omega (arith, named_whole m)
  last_code (inr (inr x3)) h = elim x3 [ ]

  -- code 0 is given exactly when all that is asked holds
  pub code_0 : o.answer.code ≡ 0 ↔ AllParts (salvage_parts f sheet bytes list)
  code_0 = parts_none (answered o) (salvage_parts f sheet bytes list) told

  -- with code 0 the place is 0
  pub place_0 : o.answer.code ≡ 0 → o.answer.place ≡ 0
  place_0 e = ap (λ (r : Refusal). r.place) (none-refused (answered o) (salvage_parts f sheet bytes list) told e)

  -- no code is given but 0 and those listed, and none with another place
  pub code_listed : (answered o ≡ none) ⊎ Listed (salvage_parts f sheet bytes list) (answered o)
  code_listed = refused_listed (salvage_parts f sheet bytes list) told

  -- that is, 0, one of 31 to 38, 40 or 17
  pub code_range : (o.answer.code ≡ 0) ⊎ (((31 ≤ o.answer.code) × (o.answer.code ≤ 38)) ⊎ ((o.answer.code ≡ 40) ⊎ (o.answer.code ≡ 17)))
  code_range =
      ⊎_elim (λ e. inl (ap (λ (r : Refusal). r.code) e))
      (λ l. inr (⊎_elim (λ m. inl (sheet_range f asked (answered o) m)) (λ m. inr (last m)) (listed_append (answered o) (sheet_parts f asked) (last_parts f sheet bytes list) l)))
      code_listed
    where
      last : Listed (last_parts f sheet bytes list) (answered o) → (o.answer.code ≡ 40) ⊎ (o.answer.code ≡ 17)
      last (inl m) = inl (named_whole m)
      last (inr (inl m)) = inr (named_whole m)
      last (inr (inr x'')) = elim x'' [ ]

  -- codes 31 to 38 are given as `SheetCodes` says, as if the blocks of the colouring had been written anew
  pub codes_31_38 : SheetCodes f asked (answered o)
  codes_31_38 = sheet_codes f asked (last_parts f sheet bytes list) (answered o) told last_code

  -- of a first sheet 37 never names 13 or 14
  pub first_salvaged : f ≡ First → (answered o ≡ refused 37 13 → ⊥) × (answered o ≡ refused 37 14 → ⊥)
  first_salvaged e = first_sheet (subst (λ (g : Form). SheetCodes g asked (answered o)) e codes_31_38)

  -- of no sheet it names 8
  pub never_eight : answered o ≢ refused 37 8
  never_eight = rw as_refused (other-refused f sheet (length bytes) (length list)).eight

  -- and none of 32 to 36 names a block of the colouring
  pub never_colouring : 32 ≤ o.answer.code → o.answer.code ≤ 36 → colouring_first f (head_by sheet) ≤ o.answer.place → o.answer.place < count_first f (head_by sheet) → ⊥
  never_colouring = (subst (Other f (head_by sheet)) (sym as_refused) (other-refused f sheet (length bytes) (length list))).block

  -- no part of the sheet gives 40 or 17
  never_last : NoSheetCode o.answer.code → Never (sheet_parts f asked) (answered o)
  never_last h = never_sheet f asked (last_parts f sheet bytes list) (answered o) told last_code h

  -- code 40, no place: the sheet is not refused, and the lent bytes are fewer than the sheet's
  pub code_40 : Due (answered o) 40 (AllParts (sheet_parts f asked)) (SheetFits sheet bytes) (λ place. place ≡ 0)
  code_40 =
      whole-due (answered o) (sheet_parts f asked) 40 (SheetFits sheet bytes) (whole_part 17 (LostFit f sheet list) ∷ []) (omega arith) told
      (λ e. (never_last (λ _. omega arith), (λ b. omega (arith, broken-whole b), tt)))

  -- code 17, no place: neither is refused, and the lent list has less room than there are lost regions
  pub code_17 : Due (answered o) 17 (AllParts (sheet_parts f asked ++ (whole_part 40 (SheetFits sheet bytes) ∷ []))) (LostFit f sheet list) (λ place. place ≡ 0)
  code_17 =
      let enough = whole_part 40 (SheetFits sheet bytes) ∷ [] in
      let room = whole_part 17 (LostFit f sheet list) ∷ [] in
      whole-due (answered o) (sheet_parts f asked ++ enough) 17 (LostFit f sheet list) [] (omega arith) (subst (λ (Ps : List Part). Refused Ps (answered o)) (sym (append_assoc (sheet_parts f asked) enough room)) told)
      (λ e. (never_append (answered o) (sheet_parts f asked) enough (never_last (λ h. omega arith)) (λ b. omega (arith, broken-whole b), tt), tt))

  -- a refused salvaging changes nothing, and answers 0 lost regions
  pub refused_salvaging : o.answer.code ≢ 0 → o ≡ left (refused_answer (answered o)) bytes list
  unfolding outcome_of
  refused_salvaging ne = is_outcome p ∙ rw (ne_eqb _ 0 (λ e. ne (ap (λ (r : Refusal). r.code) as_refused ∙ e))) (ap (λ (r : Refusal). left (refused_answer r) bytes list) (sym as_refused))
