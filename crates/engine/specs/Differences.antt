-- The difference of two numbers below 2 ^ 63, as a signed number.
-- Assumes nothing.
use Rattle.std.specs.Prelude.{ℕ, ◌-◌, ◌<◌, ◌^◌, ◌≡◌, pos, ◌-ℤ◌}
use Rattle.std.proofs.Common.{arith, ◌∙◌, SFits, to_z, of_z, to_z-of_z}
use Rattle.std.specs.Int.{w64}
use Rattle.std.proofs.Math.Facts.{to_z_pos}
use Rattle.meaning.proofs.Deltas.{sub_mag}

module _ (a b : ℕ) (ha : a < 2 ^ 63) (hb : b < 2 ^ 63) where
  -- the difference fits
  pub delta_fits : SFits w64 (to_z w64 a -ℤ to_z w64 b)
  delta_fits = rw (to_z_pos w64 ha, to_z_pos w64 hb) (record { sfits = omega (arith, sub_mag a b {B = 2 ^ 63 - 1} (omega arith) (omega arith)) })

  -- and reads back
  pub delta_reads : to_z w64 (of_z w64 (to_z w64 a -ℤ to_z w64 b)) ≡ pos a -ℤ pos b
  delta_reads = to_z-of_z delta_fits ∙ rw (to_z_pos w64 ha, to_z_pos w64 hb)
