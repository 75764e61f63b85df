-- Document 02, C-21: what salvaging a damaged sheet refuses, and what it answers and leaves.
-- Assumes nothing.
use Rattle.std.specs.Prelude.{ℕ, ◌≡◌, cond, List, [], ◌∷◌, ◌++◌, eqb, leb, length}
use Rattle.std.proofs.Common.{sym, ◌∙◌}
use Rattle.refusals.specs.declared.Refusal.{Refusal}
use Rattle.refusals.specs.Table.{Row, whole, item, refusal}
use Rattle.refusals.specs.ButEight.{but_eight}
use Rattle.blocks.specs.Sheet.{fault_within}
use Rattle.form.specs.declared.Form.{Form}
use Rattle.form.specs.declared.Head.{Head}
use Rattle.form.specs.Form.{letters, dues, form_in, head_in, contents_in}
use Rattle.form.specs.Firsts.{colouring_first, count_first}
use Rattle.form.specs.Refusals.{fault, open_table, contents_refusal}
use Rattle.form.specs.Over.{over}
use Rattle.form.specs.Recoloured.{recoloured_sheet}
use Rattle.mending.specs.Mended.{lost}
use Rattle.salvage.specs.declared.Salvaged.{Salvaged}
use Rattle.salvage.specs.Surviving.{survivors, mended_in}

-- ---- what is refused

-- the first of the blocks from block `start` up to block `end` that is refused
abbrev pub fault_between : Form → Head → List ℕ → ℕ → ℕ → Refusal
fault_between f h sheet start end = fault_within (letters f) (dues f h) sheet start end

-- the rows on the later blocks in turn, those of the colouring left out, and on what they hold
unfoldable pub other_table : Form → List ℕ → List Row
other_table f sheet =
    let h = head_in f sheet in
    fault (fault_between f h sheet 1 (colouring_first f h))
    ∷ fault (fault_between f h sheet (count_first f h) (length (dues f h)))
    ∷ item 37 (but_eight (contents_refusal f (contents_in f sheet)).code)
    ∷ []

-- then 40 for the lent bytes, and 17 for the list's room
abbrev pub last_rows : Form → List ℕ → ℕ → ℕ → List Row
last_rows f sheet bytes room = whole 40 (leb (length sheet) bytes) ∷ whole 17 (leb (length (lost (survivors f sheet))) room) ∷ []

-- what salvaging a sheet of a form is refused for: the length, the head and the number of blocks as in reading, then these
unfoldable pub salvage_refusal : Form → List ℕ → ℕ → ℕ → Refusal
salvage_refusal f sheet bytes room = refusal (open_table f sheet ++ other_table f sheet ++ last_rows f sheet bytes room)

-- ---- what it answers and leaves

-- the sheet with the colouring's blocks written anew; all others are as they are
unfoldable pub salvaged_sheet : Form → List ℕ → List ℕ
salvaged_sheet f sheet = recoloured_sheet f sheet (mended_in f sheet)

-- all that a caller sees when salvaging is over: the answer, the lent bytes and the lent list
pub record Outcome : Type 0 where
  pub answer : Salvaged
  pub sheet : List ℕ
  pub list : List ℕ

abbrev pub left : Salvaged → List ℕ → List ℕ → Outcome
left answer sheet list = record { answer = answer; sheet = sheet; list = list }

-- what is answered where it is refused, and where it is not
abbrev pub refused_answer : Refusal → Salvaged
refused_answer r = record { code = r.code; place = r.place; lost = 0 }

abbrev pub salvaged_answer : ℕ → Salvaged
salvaged_answer lost = record { code = 0; place = 0; lost = lost }

-- a refused salvaging changes nothing; another leaves the salvaged sheet and the lost regions at the fronts of what is lent
unfoldable pub outcome_of : Form → List ℕ → List ℕ → List ℕ → Outcome
outcome_of f sheet bytes list =
    let r = salvage_refusal f sheet (length bytes) (length list) in
    let gone = lost (survivors f sheet) in
    cond (eqb r.code 0)
    (left (salvaged_answer (length gone)) (over (salvaged_sheet f sheet) bytes) (over gone list))
    (left (refused_answer r) bytes list)

-- of either sheet, by its letters
abbrev pub outcome : List ℕ → List ℕ → List ℕ → Outcome
outcome sheet bytes list = outcome_of (form_in sheet) sheet bytes list

-- what salvaging promises
pub record Promise (sheet bytes list : List ℕ) (o : Outcome) : Type 0 where
  pub answer : o.answer ≡ (outcome sheet bytes list).answer
  pub sheet_left : o.sheet ≡ (outcome sheet bytes list).sheet
  pub list_left : o.list ≡ (outcome sheet bytes list).list

-- an outcome that meets the promise is that outcome
pub is_outcome : {sheet bytes list : List ℕ} {o : Outcome} → Promise sheet bytes list o → o ≡ outcome sheet bytes list
is_outcome p = rw (← p.answer, ← p.sheet_left, ← p.list_left)

-- for every sheet and all that is lent, refusals included, the promise leaves one answer and one content of the lent memory
pub unique : {sheet bytes list : List ℕ} {o o' : Outcome} → Promise sheet bytes list o → Promise sheet bytes list o' → o ≡ o'
unique p q = is_outcome p ∙ sym (is_outcome q)
