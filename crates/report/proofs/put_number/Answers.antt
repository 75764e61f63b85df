-- The byte is put down where the number ends.
use Rattle.report.specs.Placed.{placed_then}
use Rattle.report.specs.Text.{number}
use Rattle.report.proofs.put_number.Goals as goal

pub returns : goal.returns
unfolding number
returns c = placed_then c.put_decimal-end.ensures c.put_byte.ensures
