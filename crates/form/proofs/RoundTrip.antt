-- A sheet read and written again is the same bytes, and contents written and read again are the same: of either form.
-- Assumes nothing.
use Rattle.std.specs.Prelude.{ℕ, ◌*◌, ◌≡◌, length}
use Rattle.std.proofs.Common.{sym, ◌∙◌}
use Rattle.std.proofs.Math.Path.{ap}
use mathlib.Core.List.{List, []}
use Rattle.std.proofs.Math.ListN.{get_or}
use Rattle.packing.specs.Numbers.{Bytes}
use Rattle.refusals.specs.Table.{none}
use Rattle.blocks.specs.Block.{block_length}
use Rattle.blocks.specs.Sheet.{fault_from}
use Rattle.blocks.specs.SheetLaws.{later_none}
use Rattle.blocks.specs.Layout.{numbers_at, numbers_of, sheet_numbers, numbers_sheet}
use Rattle.form.specs.declared.Form.{Form}
use Rattle.form.specs.Form.{letters, head_layout, layouts, dues, Contents, head_of, carried, head_numbers, numbers, sheet_of, head_from, head_in, contents_in}
use Rattle.form.proofs.FormLaws.{four_letters, laid_layouts, head_first}
use Rattle.form.proofs.ContentsLaws.{contents-numbers, head_numbers_lem, head_block, head_read, numbers-read, ValidContents, valid_contents, limits_valid}
use Rattle.form.proofs.Fitting.{fits_numbers}
use Rattle.form.specs.Refusals.{contents_refusal, sheet_refusal}
use Rattle.form.specs.Accepted.{Opened, Accepted}
use Rattle.form.proofs.AcceptedLaws.{accepted, accepted-none}

-- ---- a sheet that is read

-- an accepted sheet is what is written of its contents
pub read-written : (f : Form) (sheet : List ℕ) → Bytes sheet → Accepted f sheet → sheet_of f (contents_in f sheet) ≡ sheet
unfolding sheet_of
read-written f sheet b a =
    rw (head_read f sheet, numbers-read f sheet)
    (sheet_numbers (letters f) (four_letters f) (layouts f (head_in f sheet)) (laid_layouts f (head_in f sheet)) sheet b a.opened.long a.sound)

-- ---- contents that are written

module _ (f : Form) (k : Contents) (whole : carried f k ≡ k) (z : (contents_refusal f k).code ≡ 0) where
  valid : ValidContents k
  valid = valid_contents f k z

  -- the sheet has whole blocks, none of them is refused, and they hold the numbers
  right : (length (sheet_of f k) ≡ block_length * length (dues f (head_of k)))
      × ((fault_from (letters f) 0 (dues f (head_of k)) (sheet_of f k) ≡ none) × (numbers_of (layouts f (head_of k)) (sheet_of f k) ≡ numbers f k))
  unfolding sheet_of
  right = numbers_sheet (letters f) (four_letters f) (layouts f (head_of k)) (laid_layouts f (head_of k)) (numbers f k) (fits_numbers f k whole valid)

  -- it has as many bytes as are due
  pub length-written : length (sheet_of f k) ≡ block_length * length (dues f (head_of k))
  length-written = right.0

  -- its head is that of the lists
  pub head_written : head_in f (sheet_of f k) ≡ head_of k
  unfolding head_in layouts numbers
  head_written =
      let e : numbers_at (head_layout f) 0 (sheet_of f k) ≡ head_numbers f (head_of k) = ap (λ (nss : List (List ℕ)). get_or nss 0 []) right.1.1 in
      ap head_from (sym (head_block f (sheet_of f k)) ∙ e) ∙ head_numbers_lem f k whole

  -- contents are what is read of their sheet
  pub written_read : contents_in f (sheet_of f k) ≡ k
  unfolding contents_in
  written_read = rw (head_written, right.1.1) (contents-numbers f k whole)

  opened_written : Opened f (sheet_of f k)
  opened_written =
      let e : (fault_from (letters f) 0 (dues f (head_of k)) (sheet_of f k)).code ≡ 0 = rw right.1.0 in
      record {
        head = (later_none _ _ _ (rw (head_first f (head_of k)) at e)).0;
        limits = rw head_written (limits_valid f k whole valid);
        long = rw head_written length-written;
      }

  -- and their sheet is accepted
  pub accepted-written : Accepted f (sheet_of f k)
  accepted-written = record { opened = opened_written; sound = rw (head_written, right.1.0); valid = rw written_read z }

-- ---- the round trip

-- a sheet of which nothing is refused, read and written again, is the same bytes
pub sheet_again : (f : Form) (sheet : List ℕ) → Bytes sheet → (sheet_refusal f sheet).code ≡ 0 → sheet_of f (contents_in f sheet) ≡ sheet
sheet_again f sheet b z = read-written f sheet b (accepted f sheet z)

-- contents that a form carries whole and that are not refused, written and read again, are the same, and nothing of their sheet is refused
pub contents_again : (f : Form) (k : Contents) → carried f k ≡ k → (contents_refusal f k).code ≡ 0 → (contents_in f (sheet_of f k) ≡ k) × (sheet_refusal f (sheet_of f k) ≡ none)
contents_again f k whole z = (written_read f k whole z, accepted-none (accepted-written f k whole z))
