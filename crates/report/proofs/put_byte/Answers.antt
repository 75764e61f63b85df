-- The store puts the byte down.
use Rattle.std.proofs.Common.{arith, refl}
use Rattle.packing.specs.Put.{set-put}
use Rattle.report.proofs.put_byte.Goals as goal

pub returns : goal.returns
returns c = record { room = omega arith; list = set-put _ _ _ c.requires; ends = refl }
