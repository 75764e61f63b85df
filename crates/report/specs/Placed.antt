-- What a function that puts bytes down leaves, and where it says that they end.
-- Assumes nothing.
use Rattle.std.specs.Prelude.{ℕ, ◌+◌, ◌≤◌, ◌≡◌, List, [], ◌++◌, length, drop}
use Rattle.std.proofs.Common.{arith, sym, ap, ap₂, ◌∙◌, length-append, length-take-le}
use Rattle.std.specs.Counts.{IsPrefixLen}
use Rattle.packing.specs.Put.{put, length-put, put-none, put-put}

-- s has room in d from index `at`; there it was put, which gives the list `left`; and it ends at `end`
pub record Placed (d : List ℕ) (at : ℕ) (s left : List ℕ) (end : ℕ) : Type 0 where
  pub room : at + length s ≤ length d
  pub list : left ≡ put d at s
  pub ends : end ≡ at + length s

-- nothing is placed where nothing is done
pub placed-none : {d : List ℕ} {at : ℕ} → at ≤ length d → Placed d at [] d at
placed-none {d} {at} h = record { room = omega arith; list = sym (put-none d at); ends = omega arith }

-- what is placed changes no length
pub placed-length : {d s left : List ℕ} {at end : ℕ} → Placed d at s left end → length left ≡ length d
placed-length {d} {s} {left} {at} p = ap length p.list ∙ length-put d at s p.room

-- what is placed where s ends is placed after s
pub placed_then : {d s e t f : List ℕ} {at m n : ℕ} → Placed d at s e m → Placed e m t f n → Placed d at (s ++ t) f n
placed_then {d} {s} {e} {t} {f} {at} {m} {n} p q =
    let r : at + length (s ++ t) ≤ length d = rw length-append (omega (arith, p.ends, q.room, placed-length p)) in
    record {
      room = r;
      list = q.list ∙ ap₂ (λ x k. put x k t) p.list p.ends ∙ put-put d at s t r;
      ends = rw length-append (omega (arith, p.ends, q.ends));
    }

-- a put at the start: the bytes, and what lies beyond
put_start : (d s : List ℕ) → put d 0 s ≡ s ++ drop (length s) d
unfolding put
put_start d s = let e : 0 + length s ≡ length s = omega arith in ap (λ (k : ℕ). s ++ drop k d) e

-- what is placed at the start: the bytes, and what lies beyond
pub placed_start : {d s left : List ℕ} {end : ℕ} → Placed d 0 s left end → (end ≡ length s) × (left ≡ s ++ drop (length s) d)
placed_start {d} {s} p = (omega (arith, p.ends), p.list ∙ put_start d s)

-- its end counts bytes of the list that it gives
pub placed-counts : {d s left : List ℕ} {end : ℕ} → Placed d 0 s left end → IsPrefixLen end left
placed-counts {d} {s} {left} {end} p =
    let h : end ≤ length left = omega (arith, p.ends, p.room, placed-length p) in (h, sym (length-take-le end left h))
