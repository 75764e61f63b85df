-- Document 02, C-21: salvaging a sheet is refused for what reading the salvaged one is, and then for the lent memory; so what is salvaged is a sound sheet.
-- Assumes nothing.
use Rattle.std.specs.Prelude.{ℕ, ◌≡◌, length}
use Rattle.std.proofs.Math.Decide.{ℕ_discrete}
use Rattle.std.proofs.Math.Path.{sym}
use Rattle.std.proofs.Common.{ap, ◌∙◌}
use mathlib.Core.List.{List, ◌∷◌, ◌++◌, append_assoc}
use Rattle.refusals.specs.declared.Refusal.{Refusal}
use Rattle.refusals.specs.Table.{Row, item, refusal, none}
use Rattle.refusals.specs.Passed.{front-given, rest_same}
use Rattle.refusals.specs.ButEight.{but_eight, but_eight_lem}
use Rattle.form.specs.declared.Form.{Form}
use Rattle.form.specs.Form.{kind_count, dues, head_in, contents_in}
use Rattle.form.specs.Firsts.{colouring_first, count_first}
use Rattle.form.specs.Refusals.{open_table, held_table, contents_refusal, sheet_refusal}
use Rattle.form.specs.Accepted.{Opened}
use Rattle.form.proofs.AcceptedLaws.{fault-rows, opened, accepted, accepted-none, rows_none}
use Rattle.form.proofs.RecolouredLaws.{later_recoloured}
use Rattle.salvage.specs.Surviving.{mended_in}
use Rattle.salvage.specs.SurvivingLaws.{mended-coloured}
use Rattle.salvage.specs.Promise.{fault_between, other_table, last_rows, salvage_refusal, salvaged_sheet}
use Rattle.salvage.specs.Anew.{head_anew, open_anew, contents_anew}

-- ---- as the salvaged sheet is read

module _ {f : Form} {sheet : List ℕ} (o : Opened f sheet) where
  -- of what it holds the same is refused, 8 passed over
  pub refused_anew : (contents_refusal f (contents_in f (salvaged_sheet f sheet))).code ≡ but_eight (contents_refusal f (contents_in f sheet)).code
  refused_anew =
      let k = contents_in f sheet in
      rw (contents_anew o)
      (but_eight_lem (kind_count f) k.R k.S k.workloads k.outside k.edges k.counts k.visits k.constraints (mended-coloured f sheet o) k.colouring)

  -- the rows on the later blocks but the colouring's, and on what they hold, refuse what those on the salvaged sheet do
  others-read : (more : List Row) → refusal (other_table f sheet ++ more) ≡ refusal (held_table f (salvaged_sheet f sheet) ++ more)
  unfolding other_table held_table salvaged_sheet
  others-read more =
      let h = head_in f sheet in
      let first = fault_between f h sheet 1 (colouring_first f h) in
      let last = fault_between f h sheet (count_first f h) (length (dues f h)) in
      rw (head_anew o, later_recoloured o (mended_in f sheet) (mended-coloured f sheet o), refused_anew)
      (fault-rows first last (item 37 (but_eight (contents_refusal f (contents_in f sheet)).code) ∷ more))

  -- so salvaging an opened sheet is refused for what reading the salvaged one is, and then for the lent memory
  pub as_read : (bytes room : ℕ) → let new = salvaged_sheet f sheet in salvage_refusal f sheet bytes room ≡ refusal (open_table f new ++ held_table f new ++ last_rows f sheet bytes room)
  unfolding salvage_refusal
  as_read bytes room =
      let new = salvaged_sheet f sheet in
      let last = last_rows f sheet bytes room in
      rw (open_anew o, append_assoc (open_table f sheet) (other_table f sheet) last, append_assoc (open_table f sheet) (held_table f new) last)
      (rest_same (open_table f sheet) (other_table f sheet ++ last) (held_table f new ++ last) (others-read last))

-- ---- what is not refused

module _ (f : Form) (sheet : List ℕ) (bytes room : ℕ) where
  front-refused : ((refusal (open_table f sheet)).code ≡ 0 → ⊥) → refusal (open_table f sheet) ≡ salvage_refusal f sheet bytes room
  unfolding salvage_refusal
  front-refused n =
      rw (append_assoc (open_table f sheet) (other_table f sheet) (last_rows f sheet bytes room))
      (front-given (open_table f sheet) (other_table f sheet ++ last_rows f sheet bytes room) n)

  -- a sheet that is not opened is refused as reading refuses it
  pub not_opened : ((refusal (open_table f sheet)).code ≡ 0 → ⊥) → salvage_refusal f sheet bytes room ≡ sheet_refusal f sheet
  unfolding sheet_refusal
  not_opened n = sym (front-refused n) ∙ front-given (open_table f sheet) (held_table f sheet) n

  -- one that is not refused is opened
  pub salvaged_opened : (salvage_refusal f sheet bytes room).code ≡ 0 → Opened f sheet
  salvaged_opened z = go (ℕ_discrete (refusal (open_table f sheet)).code 0)
    where
      go : Dec ((refusal (open_table f sheet)).code ≡ 0) → Opened f sheet
      go (yes e) = opened f sheet e
      go (no n) = absurd (n (ap (λ (r : Refusal). r.code) (front-refused n) ∙ z))

  module _ (z : (salvage_refusal f sheet bytes room).code ≡ 0) where
    rows : ((sheet_refusal f (salvaged_sheet f sheet)).code ≡ 0) × ((refusal (last_rows f sheet bytes room)).code ≡ 0)
    rows = rows_none f (salvaged_sheet f sheet) (last_rows f sheet bytes room) (rw (as_read (salvaged_opened z) bytes room) at z)

    -- then nothing of the salvaged sheet is refused
    pub salvaged_sound : sheet_refusal f (salvaged_sheet f sheet) ≡ none
    salvaged_sound = accepted-none (accepted f (salvaged_sheet f sheet) rows.0)
