-- Document 02, C-13: from one sheet to the other. What converting refuses, and what it answers and leaves.
-- Assumes nothing.
use Rattle.std.specs.Prelude.{ℕ, ◌/◌, ◌≡◌, Bool, true, cond, ◌&&◌, List, [], ◌∷◌, ◌++◌, eqb, leb, length}
use Rattle.std.proofs.Common.{sym, ◌∙◌}
use Rattle.terms.specs.Plan.{within}
use Rattle.meaning.specs.Plan.{constraint_length, constraint_at}
use Rattle.scans.specs.Items.{first_off}
use Rattle.refusals.specs.declared.Refusal.{Refusal}
use Rattle.refusals.specs.Table.{Row, whole, refusal}
use Rattle.form.specs.declared.Form.{Form}
use Rattle.form.specs.declared.Form.TheVariants.{First, Second}
use Rattle.form.specs.Form.{kind_count, Contents, carried, sheet_of, contents_in}
use Rattle.form.specs.Refusals.{open_table, held_table}
use Rattle.form.specs.Over.{over}
use Rattle.writing.specs.Promise.{sheet_bytes, Outcome, refused_answer, written_answer, left}

-- ---- what the first sheet can't carry

-- no outside area is anything but 0
abbrev pub all_zero : List ℕ → Bool
all_zero [] = true
all_zero (x ∷ xs) = eqb x 0 && all_zero xs

-- constraint k has one of a form's kinds
abbrev pub kind_right : Form → List ℕ → ℕ → Bool
kind_right f constraints k = within 1 (constraint_at constraints k).kind (kind_count f)

-- no constraint has another kind
abbrev pub kinds_right : Form → List ℕ → Bool
kinds_right f constraints = eqb (first_off (length constraints / constraint_length) (kind_right f constraints)) 0

-- a form carries contents whole: the second sheet does, the first only without outside areas, flights and kinds above 4
unfoldable pub carries : Form → Contents → Bool
carries First k = all_zero k.outside && eqb (length k.counts) 0 && kinds_right First k.constraints
carries Second k = true

-- ---- what converting refuses

-- 40 for the lent bytes, then 41 for what the new form can't carry
abbrev pub last_rows : Form → Contents → ℕ → List Row
last_rows to k room = whole 40 (leb (sheet_bytes to (carried to k)) room) ∷ whole 41 (carries to k) ∷ []

-- what the sheet is refused for as one of the old form, then these
unfoldable pub convert_refusal : Form → Form → List ℕ → ℕ → Refusal
convert_refusal from to sheet room = refusal (open_table from sheet ++ held_table from sheet ++ last_rows to (contents_in from sheet) room)

-- ---- what it answers and leaves

-- a refused converting changes nothing; another leaves the sheet of the same contents at the front of the lent bytes
unfoldable pub outcome : Form → Form → List ℕ → List ℕ → Outcome
outcome from to sheet lent =
    let k = contents_in from sheet in
    let r = convert_refusal from to sheet (length lent) in
    cond (eqb r.code 0) (left (written_answer (sheet_bytes to k)) (over (sheet_of to k) lent)) (left (refused_answer r) lent)

-- what converting promises
pub record Promise (from to : Form) (sheet lent : List ℕ) (o : Outcome) : Type 0 where
  pub answer : o.answer ≡ (outcome from to sheet lent).answer
  pub sheet_left : o.sheet ≡ (outcome from to sheet lent).sheet

-- an outcome that meets the promise is that outcome
pub is_outcome : {from to : Form} {sheet lent : List ℕ} {o : Outcome} → Promise from to sheet lent o → o ≡ outcome from to sheet lent
is_outcome p = rw (← p.answer, ← p.sheet_left)

-- for every sheet and all lent bytes, refusals included, the promise leaves one answer and one content of the lent bytes
pub unique : {from to : Form} {sheet lent : List ℕ} {o o' : Outcome} → Promise from to sheet lent o → Promise from to sheet lent o' → o ≡ o'
unique p q = is_outcome p ∙ sym (is_outcome q)
