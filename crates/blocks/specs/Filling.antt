-- A block of numbers put down piece by piece.
-- Assumes nothing.
use Prim.Native.Nat.{ℕ, ◌+◌, ◌-◌, ◌*◌, ◌≤◌}
use Rattle.std.proofs.Common.{arith, sym, ◌∙◌}
use Rattle.std.specs.Prelude.{◌≡◌}
use Rattle.std.proofs.Math.Path.{ap, ap₂}
use mathlib.Core.List.{List, ◌++◌, append_assoc}
use Rattle.std.proofs.Math.ListN.{length, replicate, length-append}
use Rattle.packing.specs.Part.{part}
use Rattle.packing.specs.Put.{put, part-put, put-put}
use Rattle.packing.specs.Numbers.{Widths, pack, rep, total, length-pack}
use Rattle.packing.specs.Cuts.{length-rep, total-rep}
use Rattle.blocks.specs.Fletcher.{check}
use Rattle.blocks.specs.Block.{block_length, letters_length, header_length, most_payload, checked_length, header, body, block_of}
use Rattle.blocks.specs.BlockLaws.{length-header, length-body, length_block}

-- what a block is filled with: four letters, and the first `count` records of numbers, each of these widths and of `stride` bytes
pub record Filling (letters ws xs : List ℕ) (stride count : ℕ) : Type 0 where
  pub four : length letters ≡ letters_length
  pub widths : Widths ws
  pub sum : stride ≡ total ws
  pub small : count * stride ≤ most_payload
  pub there : count * length ws ≤ length xs

-- its payload
abbrev pub payload_in : List ℕ → List ℕ → ℕ → List ℕ
payload_in ws xs count = pack (rep count ws) xs

module _ {letters ws xs : List ℕ} {stride count : ℕ} (f : Filling letters ws xs stride count) where
  -- all of the payload's bytes are used
  pub filling_used : length (payload_in ws xs count) ≡ count * stride
  filling_used =
      length-pack (rep count ws) xs (omega (arith, f.there, length-rep count ws))
      ∙ total-rep count ws
      ∙ ap (λ (n : ℕ). count * n) (sym f.sum)

  module _ (kind number : ℕ) (sheet : List ℕ) (at : ℕ) (room : at + block_length ≤ length sheet) where
    payload : List ℕ
    payload = payload_in ws xs count

    -- the header, the payload and the zeros after it are all but the check
    pub body-put : {h sheet₁ sheet₂ sheet₃ : List ℕ} → h ≡ header letters kind number (count * stride) → sheet₁ ≡ put sheet at h → sheet₂ ≡ put sheet₁ (at + header_length) (payload_in ws xs count)
        → sheet₃ ≡ put sheet₂ (at + header_length + count * stride) (replicate (at + checked_length - (at + header_length + count * stride)) 0)
        → sheet₃ ≡ put sheet at (body letters kind number (payload_in ws xs count))
    unfolding payload body
    body-put {h} {sheet₁} {sheet₂} eh e₁ e₂ e₃ =
        let top = header letters kind number (length payload) in
        let z : List ℕ = replicate (most_payload - length payload) 0 in
        let same : h ≡ top = eh ∙ ap (header letters kind number) (sym filling_used) in
        let n : length top ≡ header_length = length-header letters kind number f.four (length payload) in
        let m : at + checked_length - (at + header_length + count * stride) ≡ most_payload - length payload = omega (arith, filling_used) in
        let whole : length (top ++ (payload ++ z)) ≡ checked_length = length-body letters kind number f.four payload (omega (arith, filling_used, f.small)) in
        let e : sheet₁ ≡ put sheet at top = e₁ ∙ ap (put sheet at) same in
        let two : sheet₂ ≡ put sheet at (top ++ payload) =
        e₂ ∙ ap₂ (λ (l : List ℕ) (k : ℕ). put l (at + k) payload) e (sym n) ∙ put-put sheet at top payload (omega (arith, length-append top payload, length-append top (payload ++ z), length-append payload z)) in
        let k : at + header_length + count * stride ≡ at + length (top ++ payload) = omega (arith, filling_used, length-append top payload) in
        e₃
        ∙ ap (λ (j : ℕ). put sheet₂ (at + header_length + count * stride) (replicate j 0)) m
        ∙ ap₂ (λ (l : List ℕ) (j : ℕ). put l j z) two k
        ∙ put-put sheet at (top ++ payload) z (rw append_assoc (omega arith))
        ∙ rw append_assoc

    -- and with the check they are the block
    pub block_put : {sheet₁ sheet₂ : List ℕ} → sheet₁ ≡ put sheet at (body letters kind number (payload_in ws xs count))
        → sheet₂ ≡ put sheet₁ (at + checked_length) (check (part at (at + checked_length) sheet₁))
        → sheet₂ ≡ put sheet at (block_of letters kind number (payload_in ws xs count))
    unfolding payload block_of
    block_put {sheet₁} e₁ e₂ =
        let b = body letters kind number payload in
        let small : length payload ≤ most_payload = omega (arith, filling_used, f.small) in
        let n : length b ≡ checked_length = length-body letters kind number f.four payload small in
        let same : part at (at + checked_length) sheet₁ ≡ b =
        ap₂ (λ (k : ℕ) (l : List ℕ). part at (at + k) l) (sym n) e₁ ∙ part-put sheet at b (omega arith) in
        let whole : length (b ++ check b) ≡ block_length = length_block letters kind number f.four payload small in
        e₂
        ∙ ap (λ (l : List ℕ). put sheet₁ (at + checked_length) (check l)) same
        ∙ ap₂ (λ (l : List ℕ) (k : ℕ). put l (at + k) (check b)) e₁ (sym n)
        ∙ put-put sheet at b (check b) (omega arith)
