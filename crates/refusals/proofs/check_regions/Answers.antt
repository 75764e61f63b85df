-- The rows on each of the two lists, one list after the other.
use Rattle.refusals.specs.Table.{plan_table}
use Rattle.refusals.specs.Checked.{checked_stops, checked_goes_on}
use Rattle.refusals.proofs.check_regions.Goals as goal

pub returns-in_err-check_numbers : goal.returns-in_err-check_numbers
unfolding plan_table
returns-in_err-check_numbers c = checked_stops _ _ c.from_residual.ensures.1 c.in_err-check_numbers.ensures

pub returns : goal.returns
unfolding plan_table
returns c = checked_goes_on _ _ tt c.in_ok-check_numbers.ensures c.check_numbers-2.ensures
