-- Document 02, C-22: how the numbers of sheets go together, and with the smallest total.
-- Assumes nothing.
use Prim.Native.Nat.{ℕ, suc, ◌+◌, ◌-◌, ◌≤◌, ◌<◌}
use Rattle.std.proofs.Math.Decide.{ℕ_discrete}
use native.Mathlib.Omega.{arith}
use Rattle.std.specs.Prelude.{◌≡◌, Bool, ◌&&◌, ◌↔◌, get_or}
use Rattle.std.proofs.Math.Path.{refl}
use Rattle.std.proofs.Math.Bool.{true, false}
use mathlib.Core.List.{List, []}
use borrow.Author.Tests.{eqb-true, ne_eqb}
use Rattle.std.proofs.Math.Dec.{eqb}
use Rattle.std.proofs.Math.ListN.{length}
use Rattle.lists.specs.Sums.{count}
use Rattle.lists.specs.Counts.{counts_some, counts-none, count_parts, count_split}
use Rattle.judgement.specs.Promise.{total_of}
use Rattle.review.specs.declared.Extreme.{Extreme}
use Rattle.review.specs.Review.{sound, zero_total, shown, review_of}
use Rattle.review.specs.Extremes.{total_at, SoundAt, Smallest, smallest_first}

module _ (sheets : List (List ℕ)) where
  -- each sheet that is read is read soundly or refused
  pub sheets_counted : (review_of sheets).sound + (review_of sheets).refused ≡ length sheets
  unfolding review_of
  sheets_counted = count_parts sound sheets

  -- a sheet with total zero is one that is read soundly
  pub zero-sound : (review_of sheets).zero ≤ (review_of sheets).sound
  unfolding review_of
  zero-sound = omega (arith, count_split sound (λ s. eqb (total_of s) 0) sheets)

  -- where each total is above 0, no sheet has total zero
  none-zero : ((u : ℕ) → SoundAt sheets u → 0 < total_at sheets u) → (review_of sheets).zero ≡ 0
  unfolding review_of
  none-zero h = counts-none zero_total sheets [] (λ i l. go i l (sound (get_or sheets i [])) refl)
    where
      go : (i : ℕ) → i < length sheets → (b : Bool) → sound (get_or sheets i []) ≡ b → b && eqb (total_of (get_or sheets i [])) 0 ≡ false
      go i l true e =
          let k : suc i - 1 ≡ i = omega arith in
          let u : SoundAt sheets (suc i) = record { inside = record { low = omega arith; high = l }; read = rw k (eqb-true _ 0 e) } in
          let t : 0 < total_of (get_or sheets i []) = rw k at (h (suc i) u) in
          ne_eqb (total_of (get_or sheets i [])) 0 (λ z. omega (arith, z, t))
      go i l false e = refl

  -- some sheet has total zero exactly where there is a smallest total and it is zero
  pub zero_smallest : 0 < (review_of sheets).zero ↔ (0 < (review_of sheets).sound) × ((shown (review_of sheets).smallest).total ≡ 0)
  unfolding review_of
  zero_smallest = (
    λ h. let some : 0 < (review_of sheets).sound = omega (arith, h, zero-sound) in (some, least h (smallest_first sheets some)),
    λ p. own p.1 (smallest_first sheets p.0),
  )
    where
      least : 0 < (review_of sheets).zero → {x : Extreme} → Smallest sheets x → x.total ≡ 0
      least h {x} f = go (ℕ_discrete x.total 0)
        where
          go : Dec (x.total ≡ 0) → x.total ≡ 0
          go (yes e) = e
          go (no n) = absurd (omega (arith, h, none-zero (λ u k. omega (arith, f.best u k))))

      own : {x : Extreme} → x.total ≡ 0 → Smallest sheets x → 0 < count sheets zero_total
      own {x} e f =
          counts_some zero_total sheets (x.place - 1) [] (omega (arith, f.there.inside.low, f.there.inside.high)) (rw (f.there.read, f.total, e))
