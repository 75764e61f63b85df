-- Whether two sectors are the same, by arithmetic alone: they are where no bit of them differs.
-- Assumes nothing.
use Rattle.std.specs.Prelude.{ℕ, ◌-◌, ◌*◌, ◌/◌, ◌≤◌, ◌<◌, ◌^◌, ◌≡◌, refl, ◌≢◌, Bool, true, false, cond, not, List, eqb}
use Rattle.std.proofs.Common.{arith, eqb-true}
use Rattle.std.proofs.lemmas.Bool.{eqb-false}
use Rattle.std.specs.Int.Bits.{bit_xor, xor_self, xor_add_and}
use Rattle.std.proofs.lemmas.Nat.{and_le_l, and_le_r, xor_lt}
use Rattle.lists.specs.Sums.{In, at, bit}
use Rattle.lists.specs.Tests.{cond-le}
use Rattle.meaning.specs.Plan.{most_sectors}

-- what the regions of a colouring show may be compared with sectors c and d
pub record Comparable (R : ℕ) (col : List ℕ) (c d : ℕ) : Type 0 where
  pub shown : (u : ℕ) → In R u → at col u ≤ most_sectors
  pub one : c ≤ most_sectors
  pub other : d ≤ most_sectors

-- numbers of which no bit differs are the same
xor_zero : (a b : ℕ) → bit_xor a b ≡ 0 → a ≡ b
xor_zero a b e = omega (arith, e, xor_add_and a b, and_le_l a b, and_le_r a b)

module _ (a b : ℕ) (low : a < 256) (high : b < 256) where
  -- what differs is below 256 too
  pub same_room : bit_xor a b ≤ 256
  same_room = omega (arith, xor_lt 8 a b low high)

  -- 256 less what differs reaches 256 only where nothing does
  pub same_bit : (256 - bit_xor a b) / 256 ≡ bit (eqb a b)
  same_bit = go (eqb a b) refl
    where
      apart : (x : ℕ) → x < 256 → x ≢ 0 → (256 - x) / 256 ≡ 0
      apart x h n = omega (arith, n)

      go : (t : Bool) → eqb a b ≡ t → (256 - bit_xor a b) / 256 ≡ bit t
      go true e = rw (eqb-true a b e, xor_self b)
      go false e = apart (bit_xor a b) (xor_lt 8 a b low high) (λ q. eqb-false a b e (xor_zero a b q))

-- n times 1 or 0 is n or 0
pub times_bit : (n : ℕ) (t : Bool) {r : ℕ} → r ≡ bit t → n * r ≡ cond t n 0
times_bit n true e = rw e (omega arith)
times_bit n false e = rw e (omega arith)

-- and fits where n does
pub times_fits : (n : ℕ) (t : Bool) {r : ℕ} → r ≡ bit t → n < 2 ^ 64 → n * r < 2 ^ 64
times_fits n true e h = rw e (omega arith)
times_fits n false e h = rw e (omega arith)

module _ (n : ℕ) (t : Bool) {r : ℕ} (e : r ≡ cond t n 0) where
  -- n or 0 is at most n
  pub part-le : r ≤ n
  part-le = rw e (cond-le t (omega arith) (omega arith))

  -- n less it is 0 or n
  pub part_left : n - r ≡ cond (not t) n 0
  part_left = rw e (go t)
    where
      go : (t : Bool) → n - cond t n 0 ≡ cond (not t) n 0
      go true = omega arith
      go false = omega arith
