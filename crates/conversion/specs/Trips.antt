-- What converting leaves, and the way there and back: over what the calls promise.
-- Assumes nothing.
use Rattle.std.specs.Prelude.{ℕ, ◌≤◌, ◌≡◌, refl, true, List, length, take, drop}
use Rattle.std.proofs.Math.Path.{sym}
use Rattle.std.proofs.Common.{ap, ◌∙◌, take_at}
use borrow.Author.Tests.{le-leb, not-false}
use Rattle.lists.specs.Tests.{by_eqb}
use Rattle.packing.specs.Numbers.{Bytes}
use Rattle.refusals.specs.Table.{none}
use Rattle.refusals.specs.Passed.{passed, passed_none, passed_most}
use Rattle.form.specs.declared.Form.{Form}
use Rattle.form.specs.Form.{form_in, carried, sheet_of, contents_in}
use Rattle.form.proofs.ContentsLaws.{valid_contents, second_takes, carried_in}
use Rattle.form.specs.Refusals.{contents_refusal}
use Rattle.form.specs.Over.{over}
use Rattle.form.specs.Accepted.{Accepted}
use Rattle.form.proofs.AcceptedLaws.{accepted, accepted-none, opened_form, rows_none, rows_passed}
use Rattle.form.proofs.RoundTrip.{read-written, length-written, written_read, accepted-written}
use Rattle.writing.specs.declared.Written.{Written}
use Rattle.writing.specs.Promise.{sheet_bytes, Outcome, written_answer, left}
use Rattle.conversion.specs.Promise.{carries, last_rows, convert_refusal, outcome, Promise, is_outcome}
use Rattle.conversion.specs.Carried.{carried-whole, carried-taken, whole-carried}

-- ---- what code 0 says

-- the sheet is accepted, the other form carries its contents, and there is room for them
pub record Converted (from to : Form) (sheet : List ℕ) (room : ℕ) : Type 0 where
  pub accepts : Accepted from sheet
  pub carries-all : carries to (contents_in from sheet) ≡ true
  pub enough : sheet_bytes to (contents_in from sheet) ≤ room

module _ (from to : Form) (sheet : List ℕ) where
  -- an accepted sheet whose contents another form carries: that takes them whole
  taken : Accepted from sheet → carries to (contents_in from sheet) ≡ true
      → (carried to (contents_in from sheet) ≡ contents_in from sheet) × ((contents_refusal to (contents_in from sheet)).code ≡ 0)
  taken a c =
      let k = contents_in from sheet in
      (carried-whole to k (valid_contents from k a.valid) c, carried-taken to k (second_takes from k a.valid) c)

  -- a converting that is not refused is so
  pub converted_of : (room : ℕ) → (convert_refusal from to sheet room).code ≡ 0 → Converted from to sheet room
  unfolding convert_refusal
  converted_of room z =
      let k = contents_in from sheet in
      let p = rows_none from sheet (last_rows to k room) z in
      let q = passed (last_rows to k room) tt p.1 in
      let a = accepted from sheet p.0 in
      let c = not-false (carries to k) q.1.0 in
      record { accepts = a; carries-all = c; enough = rw (taken a c).0 at (passed_most (sheet_bytes to (carried to k)) room q.0) }

  -- and what is so is not refused
  pub converted-none : {room : ℕ} → Converted from to sheet room → convert_refusal from to sheet room ≡ none
  unfolding convert_refusal
  converted-none {room} c =
      let k = contents_in from sheet in
      rows_passed from sheet (last_rows to k room) (ap (λ r. r.code) (accepted-none c.accepts))
      ∙ passed_none (last_rows to k room) (rw ((taken c.accepts c.carries-all).0, le-leb (sheet_bytes to k) room c.enough), (rw c.carries-all, tt))

  -- the code that converting answers is that of its refusal
  converting_code : (lent : List ℕ) → (outcome from to sheet lent).answer.code ≡ (convert_refusal from to sheet (length lent)).code
  unfolding outcome
  converting_code lent =
      let r = convert_refusal from to sheet (length lent) in
      by_eqb r.code 0 (λ (o : Outcome). o.answer.code ≡ r.code) _ _ (λ e. sym e) (λ n. refl)

  -- a converting that answers code 0 leaves the other sheet at the front of the lent bytes
  converting_holds : {lent : List ℕ} {o : Outcome} → Promise from to sheet lent o → (convert_refusal from to sheet (length lent)).code ≡ 0
      → o ≡ left (written_answer (sheet_bytes to (contents_in from sheet))) (over (sheet_of to (contents_in from sheet)) lent)
  unfolding outcome
  converting_holds p z = is_outcome p ∙ rw z

-- ---- a sheet that is converted

-- what converting leaves at the front of the lent bytes
abbrev pub converted : Outcome → List ℕ
converted o = take o.answer.bytes o.sheet

-- the same bytes are left: nothing is refused, as many bytes as the sheet has are answered, and the bytes at the front are the sheet
pub record SheetAgain (sheet : List ℕ) (o : Outcome) : Type 0 where
  pub code : o.answer.code ≡ 0
  pub bytes : o.answer.bytes ≡ length sheet
  pub front : converted o ≡ sheet

module _ {from to : Form} {sheet lent : List ℕ} {o : Outcome} (p : Promise from to sheet lent o) (e : o.answer.code ≡ 0) where
  not-refused : (convert_refusal from to sheet (length lent)).code ≡ 0
  not-refused = sym (converting_code from to sheet lent) ∙ ap (λ (a : Written). a.code) (sym p.answer) ∙ e

  whole : Converted from to sheet (length lent)
  whole = converted_of from to sheet (length lent) not-refused

  -- the sheet itself is accepted
  pub source_accepted : Accepted from sheet
  source_accepted = whole.accepts

  -- the other form carries what it holds, and refuses none of it
  pub kept : (carried to (contents_in from sheet) ≡ contents_in from sheet) × ((contents_refusal to (contents_in from sheet)).code ≡ 0)
  kept = taken from to sheet whole.accepts whole.carries-all

  -- what is left is the sheet of it
  pub is_sheet : converted o ≡ sheet_of to (contents_in from sheet)
  is_sheet =
      let k = contents_in from sheet in
      rw (converting_holds from to sheet p not-refused) (take_at (sheet_of to k) (drop (length (sheet_of to k)) lent) (sheet_bytes to k) (length-written to k kept.0 kept.1))

  -- it is a sheet of the other form, of which nothing is refused
  pub converted-accepted : Accepted to (converted o)
  converted-accepted = rw is_sheet (accepted-written to (contents_in from sheet) kept.0 kept.1)

  pub converted_form : form_in (converted o) ≡ to
  converted_form = opened_form to (converted o) converted-accepted.opened

  -- and has the same contents
  pub converted-contents : contents_in to (converted o) ≡ contents_in from sheet
  converted-contents = rw is_sheet (written_read to (contents_in from sheet) kept.0 kept.1)

  -- converted back, it is the same bytes
  pub there_and_back : Bytes sheet → {lent' : List ℕ} {o' : Outcome} → Promise to from (converted o) lent' o' → length sheet ≤ length lent' → SheetAgain sheet o'
  there_and_back b {lent'} {o'} q r =
      let k = contents_in from sheet in
      let a = whole.accepts in
      let s : sheet_of from k ≡ sheet = read-written from sheet b a in
      let n : sheet_bytes from k ≡ length sheet = sym (length-written from k (carried_in from sheet) a.valid) ∙ ap length s in
      let back : Converted to from (converted o) (length lent') =
      record {
        accepts = converted-accepted;
        carries-all = rw converted-contents (whole-carried from k (carried_in from sheet) a.valid);
        enough = rw (converted-contents, n) r;
      } in
      let z = ap (λ r. r.code) (converted-none to from (converted o) back) in
      let g : o' ≡ left (written_answer (length sheet)) (over sheet lent') = rw (converted-contents, s, n) at (converting_holds to from (converted o) q z) in
      rw g (record { code = refl; bytes = refl; front = take_at sheet (drop (length sheet) lent') (length sheet) refl })
