-- Sheets that have some blocks in common, and a sheet in which the blocks of one layout are written anew.
-- Assumes nothing.
use Rattle.std.specs.Prelude.{ℕ, suc, ◌+◌, ◌-◌, ◌*◌, ◌≤◌, ◌<◌, ◌≡◌, refl, List, [], ◌∷◌, ◌++◌, length, take, drop}
use Rattle.std.proofs.Common.{arith, sym, ap, ap₂, ◌∙◌, length-drop, drop-drop}
use Rattle.packing.specs.Part.{part-take}
use Rattle.packing.specs.Put.{put, length-put}
use Rattle.packing.specs.Puts.{take_put, drop-put, beyond-put, put-own}
use Rattle.packing.specs.Numbers.{Bytes, Fits, pack, unpack, rep, total, bytes_drop, length_fits, length-pack, unpack-pack, pack-unpack}
use Rattle.refusals.specs.declared.Refusal.{Refusal}
use Rattle.refusals.specs.Table.{none}
use Rattle.blocks.specs.declared.Due.{Due}
use Rattle.blocks.specs.Block.{block_length, letters_length, payload_of, wrong}
use Rattle.blocks.specs.Section.{section_dues, Small}
use Rattle.blocks.specs.SectionLaws.{length-dues, small_dues}
use Rattle.blocks.specs.Sheet.{block_at, stream_from, or_later, fault_from}
use Rattle.blocks.specs.SheetLaws.{after_block, length_stream, bytes_stream, sheet_is, sheet_right}
use Rattle.blocks.specs.Layout.{Layout, section_of, blocks_in, blocks_at, numbers_at, Laid, laid_sized, length-own, used_own, length_blocks}

-- ---- blocks that are the same in two sheets

-- as many blocks, from block n on
abbrev pub SameBlocks : ℕ → ℕ → List ℕ → List ℕ → Type 0
SameBlocks n count a b = (k : ℕ) → n ≤ k → k < n + count → block_at a k ≡ block_at b k

-- make the same stream
pub stream_same : (n : ℕ) (ds : List Due) (a b : List ℕ) → SameBlocks n (length ds) a b → stream_from ds (drop (block_length * n) a) ≡ stream_from ds (drop (block_length * n) b)
stream_same n [] a b same = refl
stream_same n (d ∷ ds) a b same =
    rw (after_block n a, after_block n b)
    (ap₂ (λ (x y : List ℕ). payload_of d.used x ++ y) (same n (omega arith) (omega arith)) (stream_same (suc n) ds a b (λ k lo hi. same k (omega arith) (omega arith))))

-- and the same of them is the first that is refused
pub fault-same : (letters : List ℕ) (n : ℕ) (ds : List Due) (a b : List ℕ) → SameBlocks n (length ds) a b
    → fault_from letters n ds (drop (block_length * n) a) ≡ fault_from letters n ds (drop (block_length * n) b)
fault-same letters n [] a b same = refl
fault-same letters n (d ∷ ds) a b same =
    rw (after_block n a, after_block n b)
    (ap₂ (λ (x : List ℕ) (r : Refusal). or_later (wrong letters d.kind n d.used x) n r) (same n (omega arith) (omega arith)) (fault-same letters (suc n) ds a b (λ k lo hi. same k (omega arith) (omega arith))))

-- and hold the same numbers of a layout
pub numbers-same : (l : Layout) (n : ℕ) (a b : List ℕ) → SameBlocks n (blocks_in l) a b → numbers_at l n a ≡ numbers_at l n b
numbers-same l n a b same =
    ap (unpack (rep l.count l.widths)) (stream_same n (section_dues (section_of l)) a b (rw (length-dues l.kind l.size (blocks_in l) (section_of l).bytes) same))

-- ---- the blocks of a layout, written anew

-- a block before block n is in the sheet's front
block_front : (n k : ℕ) (sheet : List ℕ) → k < n → block_at (take (block_length * n) sheet) k ≡ block_at sheet k
block_front n k sheet h =
    let e : block_length * k + block_length - block_length * k ≡ block_length = omega arith in
    rw e at (part-take (block_length * k) (block_length * k + block_length) (block_length * n) sheet (omega arith) (omega arith))

-- and any other in its rest
block_rest : (n k : ℕ) (sheet : List ℕ) → n ≤ k → block_at (drop (block_length * n) sheet) (k - n) ≡ block_at sheet k
block_rest n k sheet h =
    let e : block_length * n + block_length * (k - n) ≡ block_length * k = omega arith in
    ap (take block_length) (drop-drop (block_length * (k - n)) (block_length * n) sheet ∙ ap (λ (i : ℕ). drop i sheet) e)

-- a sheet has the blocks of a layout from block n on
pub record HasLayout (letters : List ℕ) (l : Layout) (n : ℕ) (sheet : List ℕ) : Type 0 where
  pub four : length letters ≡ letters_length
  pub laid : Laid l
  pub long : block_length * (n + blocks_in l) ≤ length sheet

module _ {letters : List ℕ} {l : Layout} {n : ℕ} {sheet : List ℕ} (p : HasLayout letters l n sheet) where
  abbrev own : List Due
  own = section_dues (section_of l)

  abbrev ws : List ℕ
  ws = rep l.count l.widths

  small : Small own
  small = small_dues (section_of l) (laid_sized p.laid)

  module _ (xs : List ℕ) where
    -- numbers of the layout are written in their place
    abbrev written : List ℕ
    written = blocks_at letters l n xs

    abbrev new : List ℕ
    new = put sheet (block_length * n) written

    ends : block_length * n + length written ≡ block_length * (n + blocks_in l)
    ends = omega (arith, length_blocks letters p.four p.laid n xs)

    inside : block_length * n ≤ length sheet
    inside = omega (arith, p.long)

    -- the sheet stays as long
    pub length_anew : length new ≡ length sheet
    length_anew = length-put sheet (block_length * n) written (rw ends p.long)

    -- every block before them is as it is
    pub before_anew : (k : ℕ) → k < n → block_at new k ≡ block_at sheet k
    before_anew k h =
        sym (block_front n k new h)
        ∙ ap (λ (front : List ℕ). block_at front k) (take_put sheet (block_length * n) written inside)
        ∙ block_front n k sheet h

    -- and so is every block after them
    pub after_anew : (k : ℕ) → n + blocks_in l ≤ k → block_at new k ≡ block_at sheet k
    after_anew k h =
        sym (block_rest (n + blocks_in l) k new h)
        ∙ ap (λ (rest : List ℕ). block_at rest (k - (n + blocks_in l))) (rw ends at (beyond-put sheet (block_length * n) written inside))
        ∙ block_rest (n + blocks_in l) k sheet h

    module _ (fits : Fits ws xs) where
      right : (fault_from letters n own (drop (block_length * n) new) ≡ none) × (stream_from own (drop (block_length * n) new) ≡ pack ws xs)
      right =
          rw (drop-put sheet (block_length * n) written inside)
          (sheet_right letters p.four n own (pack ws xs) _ small (length-pack ws xs (omega (arith, length_fits ws xs fits)) ∙ used_own p.laid))

      -- where the numbers fit, none of these blocks is refused
      pub fault_anew : fault_from letters n own (drop (block_length * n) new) ≡ none
      fault_anew = right.0

      -- and they hold the numbers
      pub numbers_anew : numbers_at l n new ≡ xs
      numbers_anew = ap (unpack ws) right.1 ∙ unpack-pack ws xs fits

  -- where none of the blocks was refused, and the numbers that they held are written, the sheet is as it was
  pub anew_same : Bytes sheet → (fault_from letters n own (drop (block_length * n) sheet)).code ≡ 0 → new (numbers_at l n sheet) ≡ sheet
  anew_same b z =
      let rest = drop (block_length * n) sheet in
      let m = length-own p.laid in
      let enough : block_length * length own ≤ length rest = omega (arith, p.long, length-drop (block_length * n) sheet) in
      let size : length (stream_from own rest) ≡ total ws = length_stream own rest small enough ∙ sym (used_own p.laid) in
      rw (pack-unpack ws (stream_from own rest) size (bytes_stream own rest (bytes_drop (block_length * n) sheet b)), sheet_is letters p.four n own rest small enough z)
      (put-own sheet (block_length * n) (block_length * length own) (omega (arith, p.long)))
