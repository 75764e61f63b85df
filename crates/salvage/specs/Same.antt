-- Document 02, C-21: a sheet that reading takes is given back byte for byte, and no region is lost.
-- Assumes nothing.
use Rattle.std.specs.Prelude.{ℕ, ◌≤◌, ◌≡◌, true, List, [], length}
use Rattle.std.proofs.Common.{arith, ◌∙◌}
use Rattle.std.proofs.Math.Path.{ap}
use borrow.Author.Tests.{eq-eqb, le-leb}
use Rattle.lists.specs.Sums.{In, at}
use Rattle.packing.specs.Numbers.{Bytes}
use Rattle.refusals.specs.declared.Refusal.{Refusal}
use Rattle.refusals.specs.Table.{none}
use Rattle.refusals.specs.Passed.{passed_none}
use Rattle.blocks.specs.SheetLaws.{none-wrong}
use Rattle.form.specs.declared.Form.{Form}
use Rattle.form.specs.declared.Head.{Head}
use Rattle.form.specs.Form.{letters, dues, head_in, contents_of, contents_in}
use Rattle.form.proofs.ContentsLaws.{valid_contents}
use Rattle.form.specs.Accepted.{Accepted}
use Rattle.form.proofs.AcceptedLaws.{accepted-none, rows_passed}
use Rattle.form.specs.Recoloured.{recoloured_sheet}
use Rattle.form.proofs.RecolouredLaws.{recoloured_same}
use Rattle.form.specs.Over.{over}
use Rattle.mending.specs.Mended.{lost}
use Rattle.salvage.specs.Surviving.{block_of_region, sound_at, survives, survivors}
use Rattle.salvage.specs.SurvivingLaws.{region_due}
use Rattle.salvage.specs.Promise.{last_rows, salvage_refusal, salvaged_sheet, left, salvaged_answer, outcome_of}
use Rattle.salvage.specs.Sound.{as_read}
use Rattle.salvage.specs.Whole.{AllSurvive, none-lost, none-given}

module _ {f : Form} {sheet : List ℕ} (a : Accepted f sheet) where
  abbrev h : Head
  h = head_in f sheet

  abbrev colouring : List ℕ
  colouring = (contents_in f sheet).colouring

  -- each region has a sector of 1..S
  sector : (u : ℕ) → In h.regions u → In h.sectors (at colouring u)
  unfolding contents_in contents_of
  sector = (valid_contents f (contents_in f sheet) a.valid).coloured.sector

  -- and its block is sound
  sound : (u : ℕ) → In h.regions u → sound_at f h sheet (block_of_region f h u) ≡ true
  unfolding sound_at
  sound u i = eq-eqb _ 0 (none-wrong (letters f) (dues f h) sheet a.sound (block_of_region f h u) (region_due f h u i))

  -- so it survives
  all_survive : AllSurvive f sheet
  unfolding survives
  all_survive u i = let s = sector u i in rw (sound u i, le-leb 1 (at colouring u) s.low, le-leb (at colouring u) h.sectors s.high)

  -- none is lost
  gone : lost (survivors f sheet) ≡ []
  gone = none-lost f sheet all_survive

  -- and the sheet is given back as it is
  pub given_back : Bytes sheet → salvaged_sheet f sheet ≡ sheet
  unfolding salvaged_sheet
  given_back b = ap (recoloured_sheet f sheet) (none-given f sheet all_survive) ∙ recoloured_same a b

  -- salvaging it is refused for nothing but too few bytes
  pub not-refused : Bytes sheet → (bytes room : ℕ) → length sheet ≤ bytes → salvage_refusal f sheet bytes room ≡ none
  not-refused b bytes room enough =
      let z = accepted-none a in
      as_read a.opened bytes room
      ∙ rw (given_back b) (rows_passed f sheet (last_rows f sheet bytes room) (ap (λ (r : Refusal). r.code) z))
      ∙ passed_none (last_rows f sheet bytes room) (rw (le-leb (length sheet) bytes enough), (rw (gone, le-leb 0 room (omega arith)), tt))

  -- so with enough of them it is left in the lent bytes, 0 regions are lost, and the list stays
  pub sound-same : Bytes sheet → (bytes list : List ℕ) → length sheet ≤ length bytes → outcome_of f sheet bytes list ≡ left (salvaged_answer 0) (over sheet bytes) list
  unfolding outcome_of
  sound-same b bytes list enough = rw (not-refused b (length bytes) (length list) enough, gone, given_back b)
