-- The library's eight bytes of a number, and a part of them.
use Rattle.std.specs.Prelude.{ℕ, zero, suc, ◌+◌, ◌-◌, ◌*◌, ◌/◌, ◌%◌, ◌^◌, ◌≤◌, ◌≡◌, refl, List, [], ◌∷◌, ◌++◌, length, get_or, take, drop, replicate}
use Rattle.std.specs.Int.{sum_through, byte_worth, byte_at, bytes_low_first, from_le_bytes, to_le_bytes}
use Rattle.std.proofs.Common.{arith, sym, ap, ap₂, ◌∙◌, pow-suc, div-one, length-append, take_all, w64}
use Rattle.std.proofs.Math.Nat.{div-div-eq-div-mul}
use Rattle.std.proofs.lemmas.List.{drop-replicate, length-replicate}
use Rattle.packing.specs.Numbers.{val, le, Width, one, two, four, eight}
use Rattle.packing.specs.Cuts.{val-append}

-- one byte more
val_more : (n : ℕ) (bs : List ℕ) → val (take (suc n) bs) ≡ val (take n bs) + 256 ^ n * get_or bs n 0
val_more zero [] = omega arith
val_more zero (b ∷ bs) = omega arith
val_more (suc n) [] = omega arith
val_more (suc n) (b ∷ bs) =
    let e : 256 ^ suc n * get_or bs n 0 ≡ 256 * (256 ^ n * get_or bs n 0) = rw pow-suc (omega arith) in
    omega (arith, val_more n bs)

worth : (n : ℕ) (bs : List ℕ) → sum_through (λ i. byte_worth i (get_or bs i 0)) n ≡ val (take (suc n) bs)
worth zero bs = omega (arith, val_more 0 bs)
worth (suc n) bs = omega (arith, val_more (suc n) bs, worth n bs)

-- the number that eight bytes make
pub val_wide : (bs : List ℕ) → from_le_bytes w64 bs ≡ val (take 8 bs)
val_wide bs = worth 7 bs

val_zeros : (n : ℕ) → val (replicate n 0) ≡ 0
val_zeros zero = refl
val_zeros (suc n) = omega (arith, val_zeros n)

-- zeros after bytes change nothing
pub val_padded : (n : ℕ) (bs : List ℕ) → val (bs ++ replicate n 0) ≡ val bs
val_padded n bs = rw (val-append bs (replicate n 0), val_zeros n) (omega arith)

-- some bytes, and zeros up to eight of them
pub val_filled : (w : ℕ) (bs : List ℕ) → length bs ≡ w → w ≤ 8 → from_le_bytes w64 (bs ++ drop w (replicate 8 0)) ≡ val bs
val_filled w bs e h =
    let n : length (bs ++ replicate (8 - w) 0) ≤ 8 = simp (length-append, length-replicate) (omega arith) in
    rw (drop-replicate {X = ℕ} w 8 0) (val_wide (bs ++ replicate (8 - w) 0) ∙ ap val (take_all 8 _ n) ∙ val_padded (8 - w) bs)

byte_is : (i n : ℕ) → byte_at i n ≡ n / 256 ^ i % 256
byte_is zero n = rw div-one
byte_is (suc i) n = refl

le_low : (w i k n : ℕ) → w ≤ k → take w (bytes_low_first i k n) ≡ le w (n / 256 ^ i)
le_low zero i k n h = refl
le_low (suc w) i zero n h = absurd (omega arith)
le_low (suc w) i (suc k) n h =
    let e : n / 256 ^ suc i ≡ n / 256 ^ i / 256 = rw pow-suc (sym (div-div-eq-div-mul n (256 ^ i) 256)) in
    ap₂ (λ (b : ℕ) (bs : List ℕ). b ∷ bs) (byte_is i n) (le_low w (suc i) k n (omega arith) ∙ ap (le w) e)

-- the first bytes of eight
pub le_wide : (w n : ℕ) → w ≤ 8 → take w (to_le_bytes w64 n) ≡ le w n
le_wide w n h = le_low w 0 8 n h ∙ rw div-one

pub width_few : {w : ℕ} → Width w → w ≤ 8
width_few one = omega arith
width_few two = omega arith
width_few four = omega arith
width_few eight = omega arith
