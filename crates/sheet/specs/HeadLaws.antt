-- The numbers of a head, as they are read and tested.
-- Assumes nothing.
use Rattle.std.specs.Prelude.{ℕ, ◌*◌, ◌/◌, ◌≤◌, ◌<◌, ◌≡◌, refl, Bool, false, List, length, drop, replicate}
use Rattle.std.proofs.Common.{arith, ◌∙◌, le-leb}
use Rattle.std.proofs.Math.Path.{ap}
use Rattle.std.proofs.lemmas.Bool.{lt-leb}
use Rattle.packing.specs.Numbers.{unpack, total, rep}
use Rattle.packing.specs.Put.{put}
use Rattle.terms.specs.Plan.{within}
use Rattle.meaning.specs.Plan.{most_visits}
use Rattle.blocks.specs.declared.Section.{Section}
use Rattle.blocks.specs.Block.{block_length, payload_of}
use Rattle.blocks.specs.Section.{section_dues, blocks_of}
use Rattle.blocks.specs.Sheet.{block_at, stream_from}
use Rattle.blocks.specs.Whole.{Whole}
use Rattle.blocks.specs.Layout.{section_of, laid_whole, laid_read}
use Rattle.form.specs.declared.Form.{Form}
use Rattle.form.specs.declared.Form.TheVariants.{First, Second}
use Rattle.form.specs.declared.Head.{Head}
use Rattle.form.specs.Form.{flight_count, head_widths, head_layout, head_from, head_in}
use Rattle.form.proofs.FormLaws.{laid_head}
use Rattle.form.proofs.ContentsLaws.{head_block}
use Rattle.form.specs.Refusals.{flights_right}

-- ---- reading it

-- a head read into zeros: those that it doesn't have stay
head_zeros : (f : Form) (bytes : List ℕ) → head_from (put (replicate 6 0) 0 (unpack (head_widths f) bytes)) ≡ head_from (unpack (head_widths f) bytes)
unfolding put
head_zeros First bytes = refl
head_zeros Second bytes = refl

module _ (f : Form) {s : Section} {ws : List ℕ} {stride : ℕ} (e : s ≡ section_of (head_layout f)) (l : ws ≡ head_widths f) (b : stride ≡ total (head_widths f)) where
  -- it is one record, in one block
  pub head_whole : Whole s ws stride
  head_whole = rw (l, b) (laid_whole (laid_head f) e)

  pub head_one : (blocks_of s ≡ 1) × (s.bytes / stride * length ws ≤ 6)
  head_one = rw (e, l, b) (one f)
    where
      one : (f : Form) → (blocks_of (section_of (head_layout f)) ≡ 1) × ((section_of (head_layout f)).bytes / total (head_widths f) * length (head_widths f) ≤ 6)
      one First = (refl, omega arith)
      one Second = (refl, omega arith)

  -- its numbers are the sheet's head
  pub head_front : (sheet : List ℕ) {out : List ℕ} → out ≡ put (replicate 6 0) 0 (unpack (rep (s.bytes / stride) ws) (stream_from (section_dues s) (drop (block_length * 0) sheet))) → head_from out ≡ head_in f sheet
  unfolding head_in
  head_front sheet h =
      let read : unpack (rep (s.bytes / stride) ws) (stream_from (section_dues s) (drop (block_length * 0) sheet)) ≡ unpack (head_widths f) (payload_of (total (head_widths f)) (block_at sheet 0)) =
      rw (l, b) (laid_read (laid_head f) e 0 sheet ∙ head_block f sheet) in
      ap head_from (h ∙ ap (put (replicate 6 0) 0) read)
      ∙ head_zeros f (payload_of (total (head_widths f)) (block_at sheet 0))

-- ---- testing its flights

module _ (f : Form) (h : Head) {n : ℕ} (e : n ≡ flight_count f) where
  -- there are too many
  pub flights_many : n < h.flights → false ≡ flights_right f h
  flights_many l = rw (lt-leb h.flights (flight_count f) (omega arith))

  -- there are not, and their visits decide
  pub flights_few : h.flights ≤ n → {b : Bool} → b ≡ within h.flights h.visits (most_visits * h.flights) → b ≡ flights_right f h
  flights_few l t = t ∙ rw (le-leb h.flights (flight_count f) (omega arith))
