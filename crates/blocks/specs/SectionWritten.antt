-- The records of a section written to its blocks, one block after the other.
-- Assumes nothing.
use Rattle.std.specs.Prelude.{ℕ, ◌+◌, ◌-◌, ◌*◌, ◌/◌, ◌≤◌, ◌<◌, min, ◌≡◌, refl, drop}
use Rattle.std.proofs.Common.{add-mul, arith, ◌∙◌, length-drop, drop-drop}
use Rattle.std.proofs.Math.Numerals.{add-one}
use Rattle.std.proofs.Math.Path.{ap}
use Rattle.std.proofs.Math.Decide.{dec_lt}
use mathlib.Core.List.{List, ◌++◌}
use Rattle.std.proofs.Math.ListN.{length}
use Rattle.std.proofs.Math.Seq.{take_at, drop_at}
use Rattle.packing.specs.Put.{put, Putting, putting_start, putting_room, putting_more, putting_end}
use Rattle.packing.specs.Numbers.{pack, rep}
use Rattle.packing.specs.Cuts.{pack_split}
use Rattle.blocks.specs.declared.Section.{Section}
use Rattle.blocks.specs.Block.{block_length, letters_length, block_of}
use Rattle.blocks.specs.BlockLaws.{length_block}
use Rattle.blocks.specs.Section.{section, section_dues, block_count, blocks_of}
use Rattle.blocks.specs.SectionLaws.{count_none, count-zero, length-dues, small_dues}
use Rattle.blocks.specs.Sheet.{sheet_from}
use Rattle.blocks.specs.SheetLaws.{length_sheet}
use Rattle.blocks.specs.Whole.{Whole, whole_used, whole_rest, whole-count, whole_small, whole-dues, whole_blocks}
use Rattle.blocks.specs.Filling.{Filling, payload_in, filling_used}

-- a section's blocks from block `number` on, with records of numbers from `from` on
abbrev pub blocks_out : List ℕ → ℕ → Section → List ℕ → ℕ → List ℕ → ℕ → List ℕ
blocks_out letters number s ws stride xs from = sheet_from letters number (section_dues s) (payload_in ws (drop from xs) (s.bytes / stride))

-- `left` bytes of the section are left to put down from block `number` on, and their numbers start at `from`
pub record SectionWritten (letters : List ℕ) (first kind size bytes : ℕ) (ws : List ℕ) (stride : ℕ) (xs sheet₀ : List ℕ) (left number from : ℕ) (sheet : List ℕ) : Type 0 where
  pub whole : Whole (section kind size left) ws stride
  pub four : length letters ≡ letters_length
  pub inside : from + left / stride * length ws ≤ length xs
  pub blocks : number + block_count size left ≡ first + block_count size bytes
  pub putting : Putting sheet₀ (block_length * first) (blocks_out letters first (section kind size bytes) ws stride xs 0) sheet (block_length * number) (blocks_out letters number (section kind size left) ws stride xs from)

-- all are left
pub section-written_start : {s : Section} {ws : List ℕ} {stride : ℕ} → Whole s ws stride → {letters xs sheet₀ : List ℕ} {first : ℕ} → length letters ≡ letters_length → block_length * (first + blocks_of s) ≤ length sheet₀
    → s.bytes / stride * length ws ≤ length xs → SectionWritten letters first s.kind s.size s.bytes ws stride xs sheet₀ s.bytes first 0 sheet₀
section-written_start {s} {ws} {stride} w {letters} {xs} {sheet₀} {first} four b n =
    let size = length_sheet letters four first (section_dues s) (payload_in ws xs (s.bytes / stride)) (small_dues s w.sized) in
    record {
      whole = w;
      four = four;
      inside = omega arith;
      blocks = refl;
      putting = putting_start (omega (arith, length-dues s.kind s.size (blocks_of s) s.bytes));
    }

module _ {letters ws xs sheet₀ sheet : List ℕ} {first kind size bytes stride left number from : ℕ} (r : SectionWritten letters first kind size bytes ws stride xs sheet₀ left number from sheet) where
  -- as long as there is a next block some are
  pub section-written-some : number < first + block_count size bytes → 0 < left
  section-written-some h = go (dec_lt 0 left)
    where
      go : Dec (0 < left) → 0 < left
      go (yes l) = l
      go (no l) = let e : left ≡ 0 = omega arith in absurd (omega (arith, r.blocks, ap (block_count size) e, count_none size r.whole.sized.low))

  -- past the last block none is
  pub section-written-none : first + block_count size bytes ≤ number → left ≡ 0
  section-written-none h = count-zero size left r.whole.sized.low (omega (arith, r.blocks))

  -- and all blocks are put down
  pub section-written_end : left ≡ 0 → sheet ≡ put sheet₀ (block_length * first) (sheet_from letters first (section_dues (section kind size bytes)) (pack (rep (bytes / stride) ws) xs))
  section-written_end e = putting_end r.putting (rw (e, count_none size r.whole.sized.low))

  module _ {used : ℕ} (h : 0 < left) (e : used ≡ min size left) where
    stream : List ℕ
    stream = payload_in ws (drop from xs) (used / stride)

    block : List ℕ
    block = block_of letters kind number stream

    -- the numbers that are left are the next block's and the others
    split : left / stride * length ws ≡ used / stride * length ws + (left - used) / stride * length ws
    split = ap (λ (k : ℕ). k * length ws) (whole-count r.whole e) ∙ add-mul (used / stride) ((left - used) / stride) (length ws)

    -- the next block is filled with the next records
    pub section-written_filling : Filling letters ws (drop from xs) stride (used / stride)
    section-written_filling =
        record {
          four = r.four;
          widths = r.whole.widths;
          sum = r.whole.sum;
          small = omega (arith, whole_used r.whole e, whole_small r.whole e);
          there = omega (arith, r.inside, split, length-drop from xs);
        }

    stream_long : length stream ≡ used
    unfolding stream
    stream_long = filling_used section-written_filling ∙ whole_used r.whole e

    block_long : length block ≡ block_length
    unfolding block
    block_long = length_block letters kind number r.four stream (omega (arith, stream_long, whole_small r.whole e))

    -- the next block, and the others
    next_block : blocks_out letters number (section kind size left) ws stride xs from ≡ block ++ blocks_out letters (number + 1) (section kind size (left - used)) ws stride xs (from + used / stride * length ws)
    unfolding block stream
    next_block =
        let m = (left - used) / stride in
        let more = pack (rep m ws) (drop (from + used / stride * length ws) xs) in
        let s : pack (rep (left / stride) ws) (drop from xs) ≡ stream ++ more =
        ap (λ (j : ℕ). pack (rep j ws) (drop from xs)) (whole-count r.whole e)
        ∙ pack_split (used / stride) m ws (drop from xs)
        ∙ ap (λ (l : List ℕ). stream ++ pack (rep m ws) l) (drop-drop (used / stride * length ws) from xs) in
        rw (whole-dues r.whole e h, s, take_at stream more used stream_long, drop_at stream more used stream_long, add-one number)

    -- there is room for it
    pub section-written_room : block_length * number + block_length ≤ length sheet
    section-written_room = omega (arith, putting_room r.putting block _ next_block, block_long)

    -- it is put down
    pub section-written_turn : {sheet' : List ℕ} → sheet' ≡ put sheet (block_length * number) (block_of letters kind number (payload_in ws (drop from xs) (used / stride)))
        → SectionWritten letters first kind size bytes ws stride xs sheet₀ (left - used) (number + 1) (from + used / stride * length ws) sheet'
    unfolding block stream
    section-written_turn q =
        record {
          whole = whole_rest r.whole e;
          four = r.four;
          inside = omega (arith, r.inside, split);
          blocks = omega (arith, r.blocks, whole_blocks r.whole e h);
          putting = putting_more r.putting block next_block q (omega (arith, block_long));
        }
