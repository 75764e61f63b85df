-- Document 02, C-21: the salvaged sheet has every block but those of the colouring as it is, and holds the old contents with the colouring mended, whatever is wrong with its later blocks.
-- Assumes nothing.
use Rattle.std.specs.Prelude.{ℕ, ◌≤◌, ◌<◌, ◌≡◌, ◌⊎◌, true, List, length}
use Rattle.std.proofs.Common.{ap, ◌∙◌, inl, inr}
use Rattle.lists.specs.Sums.{In, at}
use Rattle.meaning.specs.Plan.{edges_of}
use Rattle.blocks.specs.Sheet.{block_at}
use Rattle.form.specs.declared.Form.{Form}
use Rattle.form.specs.Form.{form_in, Contents, coloured, head_in, contents_in}
use Rattle.form.specs.Firsts.{colouring_first, count_first}
use Rattle.form.specs.Refusals.{open_table}
use Rattle.form.specs.Accepted.{Opened}
use Rattle.form.proofs.RecolouredLaws.{size_recoloured, before_recoloured, after_recoloured, head_recoloured, form_recoloured, open_recoloured, contents_recoloured}
use Rattle.mending.specs.MendedLaws.{mended-kept}
use Rattle.salvage.specs.Surviving.{survives, survivors, mended_in}
use Rattle.salvage.specs.SurvivingLaws.{length-survivors, survives-kept, mended-coloured}
use Rattle.salvage.specs.Promise.{salvaged_sheet}

module _ {f : Form} {sheet : List ℕ} (o : Opened f sheet) where
  -- the salvaged sheet has as many bytes
  pub length_anew : length (salvaged_sheet f sheet) ≡ length sheet
  unfolding salvaged_sheet
  length_anew = size_recoloured o (mended_in f sheet)

  -- every block that is none of the colouring's is as it is
  pub as_they_are : (n : ℕ) → (n < colouring_first f (head_in f sheet)) ⊎ (count_first f (head_in f sheet) ≤ n) → block_at (salvaged_sheet f sheet) n ≡ block_at sheet n
  unfolding salvaged_sheet
  as_they_are n (inl h) = before_recoloured o (mended_in f sheet) n h
  as_they_are n (inr h) = after_recoloured o (mended_in f sheet) n h

  -- it is a sheet of the same form
  pub form_anew : form_in (salvaged_sheet f sheet) ≡ form_in sheet
  unfolding salvaged_sheet
  form_anew = form_recoloured o (mended_in f sheet)

  -- with the same head
  pub head_anew : head_in f (salvaged_sheet f sheet) ≡ head_in f sheet
  unfolding salvaged_sheet
  head_anew = head_recoloured o (mended_in f sheet)

  -- and with the same rows on the length, on the head and on the number of blocks
  pub open_anew : open_table f (salvaged_sheet f sheet) ≡ open_table f sheet
  unfolding salvaged_sheet
  open_anew = open_recoloured o (mended_in f sheet)

  -- it holds the old contents with the colouring mended
  pub contents_anew : contents_in f (salvaged_sheet f sheet) ≡ coloured (contents_in f sheet) (mended_in f sheet)
  unfolding salvaged_sheet
  contents_anew = contents_recoloured o (mended_in f sheet) (mended-coloured f sheet o)

  -- where the sector of every region that survives is the same
  pub kept_anew : (u : ℕ) → In (head_in f sheet).regions u → survives f sheet u ≡ true → at (contents_in f (salvaged_sheet f sheet)).colouring u ≡ at (contents_in f sheet).colouring u
  kept_anew u i e =
      let kept = survivors f sheet in
      let k = survives-kept f sheet u i e in
      ap (λ (c : Contents). at c.colouring u) contents_anew ∙ mended-kept (edges_of (contents_in f sheet).edges) kept (rw (length-survivors f sheet) i) k.1 ∙ k.0
