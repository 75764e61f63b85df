-- Within the limits of document 01 every number of a row is exact in an i64.
-- Assumes nothing.
use Rattle.std.specs.Prelude.{ℕ, zero, suc, ◌-◌, ◌≤◌, ◌<◌, ◌^◌, ◌≡◌, List, Bool, true, false, cond, eqb, ltb, ℤ, pos, negsuc, ◌-ℤ◌}
use native.Mathlib.Omega.{arith}
use Rattle.std.proofs.Math.Bool.{not}
use Rattle.std.specs.Int.Signed.{mag}
use Rattle.std.specs.Int.{w64}
use Rattle.std.proofs.Common.{SFits, to_z, of_z, to_z-of_z}
use Rattle.lists.specs.Sums.{at, Every}
use Rattle.terms.specs.Moves.{status}
use Rattle.terms.specs.declared.Move.{Move}
use Rattle.terms.specs.declared.Move.TheVariants.{Recolour, Exchange, Ask, Refused}
use Rattle.meaning.specs.Plan.{Plan, Limits}
use Rattle.meaning.specs.Joined.{labels}
use Rattle.meaning.specs.Moves.{recolour, swap, next, delta, differing, relabelled, row, cells}
use Rattle.meaning.specs.Bounds.{most_total}
use Rattle.meaning.proofs.BoundLaws.{count_bound, total_bound, region_bound}

-- of either sign, the difference of two numbers that are at most B is no larger
sides_mag : (t : Bool) {a b B : ℕ} → a ≤ B → b ≤ B → mag (cond t (negsuc (b - suc a)) (pos (a - b))) ≤ B
sides_mag true h k = omega arith
sides_mag false h k = omega arith

-- the difference of two numbers that are at most B is no larger
pub sub_mag : (a b : ℕ) {B : ℕ} → a ≤ B → b ≤ B → mag (pos a -ℤ pos b) ≤ B
sub_mag a zero h k = omega arith
sub_mag a (suc b) h k = sides_mag (ltb a (suc b)) h k

-- what lies between -(4 * 10 ^ 18) - 1 and 4 * 10 ^ 18 is exact in an i64
fits : {z : ℤ} → mag z ≤ most_total → SFits w64 z
fits h = record { sfits = omega arith }

module _ (P : Plan) (l : Limits P) (col : List ℕ) where
  -- at most 512 regions are relabelled
  relabelled_bound : (after : List ℕ) → relabelled P col after ≤ 512
  unfolding relabelled differing
  relabelled_bound after = count_bound P l (λ u. not (eqb (at (labels P.edges col) u) (at (labels P.edges after) u)))

  -- a delta lies between -(4 * 10 ^ 18) - 1 and 4 * 10 ^ 18
  delta_ends : (m : Move) → mag (delta P col m) ≤ most_total
  unfolding delta
  delta_ends (Recolour make v c) = sub_mag _ _ (total_bound P l (recolour col v.0 c.0)) (total_bound P l col)
  delta_ends (Exchange make a b) = sub_mag _ _ (total_bound P l (swap col a.0 b.0)) (total_bound P l col)
  delta_ends (Ask v) = region_bound P l col v.0
  delta_ends (Refused s) = omega arith

  module _ (m : Move) where
    -- a delta is exact in an i64
    pub delta_fits : SFits w64 (delta P col m)
    delta_fits = fits (delta_ends m)

    -- so the bits of a delta read back as the delta
    pub delta_reads : to_z w64 (of_z w64 (delta P col m)) ≡ delta P col m
    delta_reads = to_z-of_z delta_fits

    -- each of a row's four numbers is exact in an i64, where the status is
    pub row_fits : status m < 2 ^ 63 → Every (SFits w64) (cells (row P col m))
    unfolding row cells
    row_fits h = (
      record { sfits = h },
      (delta_fits, (fits (total_bound P l (next col m)), (fits (omega (arith, relabelled_bound (next col m))), tt))),
    )
