-- Document 01, "The sheet": the used payload of a block, as that part of the sheet. Which sheet it is goes by its letters.
-- Assumes nothing.
use Rattle.std.specs.Prelude.{ℕ, ◌+◌, ◌≡◌, Bool, cond, not, ◌&&◌, List, eqb, ltb, length, get_or}
use Rattle.std.specs.Borrow.{Bor}
use Rattle.refusals.specs.Table.{refusal}
use Rattle.blocks.specs.declared.Due.{Due}
use Rattle.blocks.specs.Block.{wrong}
use Rattle.blocks.specs.Section.{no_due}
use Rattle.blocks.specs.Sheet.{block_at}
use Rattle.blocks.specs.Shown.{Extent, bytes_in, no_part, payload_part, PartOf, same-part}
use Rattle.form.specs.Form.{letters, form_in, dues, head_by}
use Rattle.form.specs.Refusals.{open_table}

-- the blocks due of a sheet
abbrev pub dues_in : List ℕ → List Due
dues_in sheet = dues (form_in sheet) (head_by sheet)

-- what is due of block n
abbrev pub due_at : List ℕ → ℕ → Due
due_at sheet n = get_or (dues_in sheet) n no_due

-- there is a block n: length, head and block count are not refused, and the place is not past the last block
unfoldable pub there : List ℕ → ℕ → Bool
there sheet n = eqb (refusal (open_table (form_in sheet) sheet)).code 0 && ltb n (length (dues_in sheet))

-- there is no block n
abbrev pub past_end : List ℕ → ℕ → Bool
past_end sheet n = not (there sheet n)

-- the place of the block after n; a place where there is no block stays
unfoldable pub next_place : List ℕ → ℕ → ℕ
next_place sheet n = cond (there sheet n) (n + 1) n

-- nothing is wrong with block n
unfoldable pub sound : List ℕ → ℕ → Bool
sound sheet n = eqb (wrong (letters (form_in sheet)) (due_at sheet n).kind n (due_at sheet n).used (block_at sheet n)) 0

-- which part of a sheet block n shows: its used payload where it is there and sound, and the empty part at the sheet's start where it is not
unfoldable pub shown_part : List ℕ → ℕ → Extent
shown_part sheet n = cond (there sheet n) (cond (sound sheet n) (payload_part n (due_at sheet n).used) no_part) no_part

-- the bytes of that part
abbrev pub shown : List ℕ → ℕ → List ℕ
shown sheet n = bytes_in (shown_part sheet n) sheet

-- what showing a block promises: that part of the lent sheet, where it lies, and the sheet is only lent
pub record Promise (lent : Bor (List ℕ)) (n : ℕ) (p : Bor (List ℕ)) : Type 0 where
  pub part : PartOf lent (shown_part lent.now n) p

-- for every lent sheet and place the promise leaves one part: where it lies, and its bytes
pub unique : {lent : Bor (List ℕ)} {n : ℕ} {p p' : Bor (List ℕ)} → Promise lent n p → Promise lent n p' → (p.ref_ptr ≡ p'.ref_ptr) × (p.now ≡ p'.now)
unique a b = same-part a.part b.part
