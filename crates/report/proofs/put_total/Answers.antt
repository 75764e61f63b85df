-- The total is put down where the word ends.
use Rattle.report.specs.Placed.{placed_then}
use Rattle.report.specs.Text.{total_line}
use Rattle.report.proofs.put_total.Goals as goal

pub returns : goal.returns
unfolding total_line
returns c = placed_then c.put_word-past_word.ensures c.put_number.ensures
