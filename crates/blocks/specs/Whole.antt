-- A section in whole records: its next block, and what is left.
-- Assumes nothing.
use Rattle.std.specs.Prelude.{ℕ, suc, ◌+◌, ◌-◌, ◌*◌, ◌/◌, ◌%◌, ◌≤◌, ◌<◌, min, ◌≡◌, List, ◌∷◌}
use Rattle.std.proofs.Common.{div-add-mod', arith, sym, ap, ap₂, ◌∙◌}
use Rattle.std.proofs.Math.Nat.{mul-add-div_right, mul-add-mod_self_right}
use Rattle.std.proofs.Math.Decide.{dec_lt}
use Rattle.packing.specs.Numbers.{Widths, total}
use Rattle.blocks.specs.declared.Section.{Section}
use Rattle.blocks.specs.Block.{most_payload}
use Rattle.blocks.specs.Section.{section, due, section_dues, block_count, Sized}
use Rattle.blocks.specs.SectionLaws.{count_first_lem, dues_first}

-- a sized section whose blocks hold whole records, each of these widths and of `stride` bytes
pub record Whole (s : Section) (ws : List ℕ) (stride : ℕ) : Type 0 where
  pub sized : Sized s
  pub widths : Widths ws
  pub sum : stride ≡ total ws
  pub some : 1 ≤ stride
  pub full : s.size % stride ≡ 0
  pub all : s.bytes % stride ≡ 0

-- so is one of any kind, with other whole records
pub whole-other : {s : Section} {ws : List ℕ} {stride kind bytes : ℕ} → Whole s ws stride → bytes % stride ≡ 0 → Whole (section kind s.size bytes) ws stride
whole-other w all =
    record { sized = record { low = w.sized.low; high = w.sized.high }; widths = w.widths; sum = w.sum; some = w.some; full = w.full; all = all }

-- the next block holds as many bytes as are left, but at most a full block's
module _ {kind size left : ℕ} {ws : List ℕ} {stride : ℕ} (w : Whole (section kind size left) ws stride) {used : ℕ} (e : used ≡ min size left) where
  -- in whole records
  pub whole_used : used / stride * stride ≡ used
  whole_used = omega (arith, div-add-mod' used stride, go (dec_lt left size))
    where
      go : Dec (left < size) → used % stride ≡ 0
      go (yes l) = let k : used ≡ left = omega arith in rw k w.all
      go (no l) = let k : used ≡ size = omega arith in rw k w.full

  both : used / stride * stride + (left - used) ≡ left
  both = omega (arith, whole_used)

  -- those that are left are whole too
  pub whole_rest : Whole (section kind size (left - used)) ws stride
  whole_rest = whole-other w (sym (mul-add-mod_self_right (used / stride) stride (left - used)) ∙ ap (λ (n : ℕ). n % stride) both ∙ w.all)

  -- and all are its own and those
  pub whole-count : left / stride ≡ used / stride + (left - used) / stride
  whole-count = ap (λ (n : ℕ). n / stride) (sym both) ∙ mul-add-div_right w.some (used / stride) (left - used)

  -- they fit in a payload
  pub whole_small : used ≤ most_payload
  whole_small = omega (arith, w.sized.high)

  module _ (h : 0 < left) where
    -- they are some
    pub whole_some : 1 ≤ used
    whole_some = omega (arith, w.sized.low)

    rest : left - size ≡ left - used
    rest = omega arith

    -- the block is due, and then those of what is left
    pub whole-dues : section_dues (section kind size left) ≡ due kind used ∷ section_dues (section kind size (left - used))
    whole-dues =
        dues_first kind size left w.sized.low h
        ∙ ap₂ (λ (u b : ℕ). due kind u ∷ section_dues (section kind size b)) (sym e) rest

    -- it is one block more than theirs
    pub whole_blocks : block_count size left ≡ suc (block_count size (left - used))
    whole_blocks = count_first_lem size left w.sized.low h ∙ ap (λ (b : ℕ). suc (block_count size b)) rest
