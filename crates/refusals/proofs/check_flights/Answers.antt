-- Counts that are not refused are few and small.
use Rattle.refusals.specs.Valid.{few_counts}
use Rattle.refusals.specs.Checked.{checked_passed, checked_stops, checked_goes_on}
use Rattle.refusals.proofs.check_flights.Goals as goal

pub returns-in_err-check_counts : goal.returns-in_err-check_counts
returns-in_err-check_counts c = checked_stops _ _ c.from_residual.ensures.1 c.in_err-check_counts.ensures

pub check_visits-requires : goal.check_visits-requires
check_visits-requires c =
    let counted = checked_passed _ tt c.in_ok-check_counts.ensures in
    few_counts _ counted.0 counted.1.0

pub returns : goal.returns
returns c = checked_goes_on _ _ tt c.in_ok-check_counts.ensures c.check_visits.ensures
