-- The records of a section read from its blocks, one block after the other.
-- Assumes nothing.
use Rattle.std.specs.Prelude.{ℕ, ◌+◌, ◌-◌, ◌*◌, ◌/◌, ◌≤◌, ◌<◌, min, ◌≡◌, refl, List, ◌++◌, take}
use Rattle.std.proofs.Math.Nat.{zero-div}
use Rattle.std.proofs.Math.Decide.{dec_lt}
use native.Mathlib.Omega.{arith}
use Rattle.std.proofs.Math.Path.{ap}
use Rattle.std.proofs.Common.{◌∙◌}
use Rattle.std.proofs.Math.ListN.{length, drop, length-drop}
use Rattle.std.proofs.Math.Seq.{drop-drop, length-take-le}
use Rattle.packing.specs.Part.{length_part}
use Rattle.packing.specs.Put.{put, Putting, putting_start, putting_room, putting_more, putting_end}
use Rattle.packing.specs.Numbers.{unpack, total, rep, length-unpack}
use Rattle.packing.specs.Cuts.{unpack_split, length-rep}
use Rattle.blocks.specs.declared.Section.{Section}
use Rattle.blocks.specs.Block.{block_length, header_length, payload_of}
use Rattle.blocks.specs.Section.{section, section_dues, block_count, blocks_of}
use Rattle.blocks.specs.SectionLaws.{count_none, count-zero}
use Rattle.blocks.specs.Sheet.{block_at, stream_from}
use Rattle.blocks.specs.SheetLaws.{stream_kind}
use Rattle.blocks.specs.Whole.{Whole, whole-other, whole_used, whole_rest, whole-count, whole_small, whole-dues, whole_blocks}

-- the numbers of a section's records, from block `number` on
abbrev pub numbers_in : List ℕ → ℕ → Section → List ℕ → ℕ → List ℕ
numbers_in sheet number s ws stride =
    unpack (rep (s.bytes / stride) ws) (stream_from (section_dues s) (drop (block_length * number) sheet))

-- `left` bytes of the section are left to read from block `number` on, and their numbers go from index `to` on; what kind it has does not matter
pub record SectionRead (sheet : List ℕ) (first size bytes : ℕ) (ws : List ℕ) (stride : ℕ) (out₀ : List ℕ) (at left number to : ℕ) (out : List ℕ) : Type 0 where
  pub whole : Whole (section 0 size left) ws stride
  pub inside : block_length * (first + block_count size bytes) ≤ length sheet
  pub blocks : number + block_count size left ≡ first + block_count size bytes
  pub putting : Putting out₀ at (numbers_in sheet first (section 0 size bytes) ws stride) out to (numbers_in sheet number (section 0 size left) ws stride)

-- all are left
pub section-read_start : {s : Section} {ws : List ℕ} {stride : ℕ} → Whole s ws stride → {sheet out₀ : List ℕ} {first at : ℕ} → block_length * (first + blocks_of s) ≤ length sheet → at + s.bytes / stride * length ws ≤ length out₀
    → SectionRead sheet first s.size s.bytes ws stride out₀ at s.bytes first at out₀
section-read_start {s} {ws} {stride} w {sheet} {first = first} b o =
    let stream = stream_from (section_dues (section 0 s.size s.bytes)) (drop (block_length * first) sheet) in
    record {
      whole = whole-other w w.all;
      inside = b;
      blocks = refl;
      putting = putting_start (omega (arith, length-unpack (rep (s.bytes / stride) ws) stream, length-rep (s.bytes / stride) ws));
    }

module _ {sheet ws out₀ out : List ℕ} {first size bytes stride at left number to : ℕ} (r : SectionRead sheet first size bytes ws stride out₀ at left number to out) where
  -- as long as there is a next block some are
  pub section-read-some : number < first + block_count size bytes → 0 < left
  section-read-some h = go (dec_lt 0 left)
    where
      go : Dec (0 < left) → 0 < left
      go (yes l) = l
      go (no l) = let e : left ≡ 0 = omega arith in absurd (omega (arith, r.blocks, ap (block_count size) e, count_none size r.whole.sized.low))

  -- past the last block none is
  pub section-read-none : first + block_count size bytes ≤ number → left ≡ 0
  section-read-none h = count-zero size left r.whole.sized.low (omega (arith, r.blocks))

  -- and all numbers are put down, whatever the kind
  pub section-read_end : left ≡ 0 → (kind : ℕ) → out ≡ put out₀ at (unpack (rep (bytes / stride) ws) (stream_from (section_dues (section kind size bytes)) (drop (block_length * first) sheet)))
  section-read_end e kind =
      putting_end r.putting (rw (e, zero-div stride))
      ∙ ap (λ (l : List ℕ). put out₀ at (unpack (rep (bytes / stride) ws) l)) (stream_kind 0 kind size (block_count size bytes) bytes (drop (block_length * first) sheet))

  module _ {used : ℕ} (h : 0 < left) (e : used ≡ min size left) where
    payload : List ℕ
    payload = payload_of used (block_at sheet number)

    -- the next block lies in the sheet
    pub section-read_block : block_length * number + block_length ≤ length sheet
    section-read_block = omega (arith, r.inside, r.blocks, whole_blocks r.whole e h)

    long : length payload ≡ used
    unfolding payload
    long =
        let rest = drop (block_length * number) sheet in
        let b : length (take block_length rest) ≡ block_length = length-take-le block_length rest (omega (arith, section-read_block, length-drop (block_length * number) sheet)) in
        length_part header_length (header_length + used) (take block_length rest) (omega arith) (omega (arith, whole_small r.whole e)) ∙ omega arith

    -- its records, and the others
    next : numbers_in sheet number (section 0 size left) ws stride ≡ unpack (rep (used / stride) ws) payload ++ numbers_in sheet (number + 1) (section 0 size (left - used)) ws stride
    unfolding payload
    next =
        let m : block_length * (number + 1) ≡ block_length * number + block_length = omega arith in
        let d : drop block_length (drop (block_length * number) sheet) ≡ drop (block_length * (number + 1)) sheet = drop-drop block_length (block_length * number) sheet ∙ rw m in
        let p : length payload ≡ used / stride * total ws = long ∙ omega (arith, whole_used r.whole e, ap (λ (j : ℕ). used / stride * j) r.whole.sum) in
        let more = stream_from (section_dues (section 0 size (left - used))) (drop (block_length * (number + 1)) sheet) in
        rw (whole-dues r.whole e h, d)
        (ap (λ (j : ℕ). unpack (rep j ws) (payload ++ more)) (whole-count r.whole e)
        ∙ unpack_split (used / stride) ((left - used) / stride) ws payload more p)

    -- there is room for its numbers
    pub section-read_room : to + used / stride * length ws ≤ length out
    section-read_room =
        omega (arith, putting_room r.putting (unpack (rep (used / stride) ws) payload) _ next, length-unpack (rep (used / stride) ws) payload, length-rep (used / stride) ws)

    module _ {shown : List ℕ} (p : shown ≡ payload_of used (block_at sheet number)) where
      -- its payload has their bytes
      pub section-read_long : used / stride * stride ≤ length shown
      unfolding payload
      section-read_long = omega (arith, ap length p, long, whole_used r.whole e)

      -- they are put down
      pub section-read_turn : {out' : List ℕ} → out' ≡ put out to (unpack (rep (used / stride) ws) shown) → SectionRead sheet first size bytes ws stride out₀ at (left - used) (number + 1) (to + used / stride * length ws) out'
      unfolding payload
      section-read_turn q =
          record {
            whole = whole_rest r.whole e;
            inside = r.inside;
            blocks = omega (arith, r.blocks, whole_blocks r.whole e h);
            putting = putting_more r.putting (unpack (rep (used / stride) ws) payload) next (q ∙ rw p) (rw (length-unpack (rep (used / stride) ws) payload, length-rep (used / stride) ws));
          }
