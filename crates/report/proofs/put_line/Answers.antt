-- Each number is put down where the one before it ends.
use Rattle.report.specs.Placed.{placed_then}
use Rattle.report.specs.Text.{line}
use Rattle.report.proofs.put_line.Goals as goal

pub returns : goal.returns
unfolding line
returns c = placed_then (placed_then (placed_then c.put_number-past_place.ensures c.put_number-past_kind.ensures) c.put_number-past_holds.ensures) c.put_number.ensures
