-- A number of 2n bytes in two halves of n bytes, the lower first.
-- Assumes nothing.
use Rattle.std.specs.Prelude.{ℕ, ◌+◌, ◌-◌, ◌*◌, ◌/◌, ◌^◌, ◌≤◌, ◌<◌, ◌≡◌, List, ◌++◌, length, get_or, drop}
use Rattle.std.proofs.Common.{arith, sym, ap, ap₂, ◌∙◌}
use Rattle.packing.specs.Part.{part, length_part, part_none, part-cons, part_cut}
use Rattle.packing.specs.Put.{put, put-put}
use Rattle.packing.specs.Numbers.{le, val, Bytes, length-le, bytes_take, bytes_drop}
use Rattle.packing.specs.Cuts.{le-add, val-append, val-lt}

part-lt : (n : ℕ) (bs : List ℕ) (at : ℕ) → Bytes bs → at + n ≤ length bs → val (part at (at + n) bs) < 256 ^ n
part-lt n bs at b h =
    let e : length (part at (at + n) bs) ≡ n = length_part at (at + n) bs (omega arith) h ∙ omega arith in
    rw e at (val-lt (part at (at + n) bs) (bytes_take (at + n - at) (drop at bs) (bytes_drop at bs b)))

module _ (n : ℕ) (bs : List ℕ) (at : ℕ) {low high : ℕ} (b : Bytes bs) (h : at + (n + n) ≤ length bs) (p : low ≡ val (part at (at + n) bs)) (q : high ≡ val (part (at + n) (at + n + n) bs)) where
  -- each half is below 256 to the n
  pub halves_lt : (low < 256 ^ n) × (high < 256 ^ n)
  halves_lt = (rw p (part-lt n bs at b (omega arith)), rw q (part-lt n bs (at + n) b (omega arith)))

  -- the lower half, and the higher as much more, are the number
  pub halves_val : low + 256 ^ n * high ≡ val (part at (at + (n + n)) bs)
  halves_val =
      let e : length (part at (at + n) bs) ≡ n = length_part at (at + n) bs (omega arith) (omega arith) ∙ omega arith in
      let k : at + n + n ≡ at + (n + n) = omega arith in
      rw (p, q, k)
      (sym (ap val (part_cut at (at + n) (at + (n + n)) bs (omega arith) (omega arith)) ∙ val-append (part at (at + n) bs) (part (at + n) (at + (n + n)) bs) ∙ rw e))

-- a byte is its own number
pub val_one : (bs : List ℕ) (at : ℕ) → at < length bs → get_or bs at 0 ≡ val (part at (at + 1) bs)
val_one bs at h = sym (ap val (part-cons at (at + 1) bs 0 (omega arith) (omega arith)) ∙ rw (part_none (at + 1) (at + 1) bs (omega arith)) (omega arith))

-- the lower half put down, and then the higher, are the number put down
pub put_halves : (n x : ℕ) (d : List ℕ) (at : ℕ) {d₁ d₂ : List ℕ} → at + (n + n) ≤ length d → d₁ ≡ put d at (le n x) → d₂ ≡ put d₁ (at + n) (le n (x / 256 ^ n)) → d₂ ≡ put d at (le (n + n) x)
put_halves n x d at h e₁ e₂ =
    let high = le n (x / 256 ^ n) in
    let m : length (le n x ++ high) ≡ n + n = ap length (sym (le-add n n x)) ∙ length-le (n + n) x in
    e₂ ∙ ap₂ (λ (l : List ℕ) (k : ℕ). put l (at + k) high) e₁ (sym (length-le n x)) ∙ put-put d at (le n x) high (omega arith) ∙ ap (put d at) (sym (le-add n n x))
