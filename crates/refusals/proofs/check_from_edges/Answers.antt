-- The rows on each list, one list after the other.
use Rattle.refusals.specs.Table.{plan_table}
use Rattle.refusals.specs.Checked.{checked_stops, checked_goes_on}
use Rattle.refusals.proofs.check_from_edges.Goals as goal

pub returns-in_err-check_edges : goal.returns-in_err-check_edges
unfolding plan_table
returns-in_err-check_edges c = checked_stops _ _ c.from_residual.ensures.1 c.in_err-check_edges.ensures

pub returns-in_err-check_flights : goal.returns-in_err-check_flights
unfolding plan_table
returns-in_err-check_flights c = checked_goes_on _ _ tt c.in_ok-check_edges.ensures (checked_stops _ _ c.from_residual-in_err-check_flights.ensures.1 c.in_err-check_flights.ensures)

pub returns-in_err-check_constraints : goal.returns-in_err-check_constraints
unfolding plan_table
returns-in_err-check_constraints c = checked_goes_on _ _ tt c.in_ok-check_edges.ensures (checked_goes_on _ _ tt c.in_ok-check_flights.ensures (checked_stops _ _ c.from_residual-in_err-check_constraints.ensures.1 c.in_err-check_constraints.ensures))

pub returns : goal.returns
unfolding plan_table
returns c = checked_goes_on _ _ tt c.in_ok-check_edges.ensures (checked_goes_on _ _ tt c.in_ok-check_flights.ensures (checked_goes_on _ _ tt c.in_ok-check_constraints.ensures c.check_colouring.ensures))
