-- The five rows on the head's numbers, one after the other.
use Rattle.std.specs.Prelude.{leb}
use Rattle.meaning.specs.Plan.{most_edges}
use Rattle.form.specs.Refusals.{head_row}
use Rattle.sheet.proofs.Checks.{row_stops, row_goes_on, row_last}
use Rattle.sheet.proofs.opening.head_refusal.Goals as goal

pub returns-in_err-refuse_if : goal.returns-in_err-refuse_if
returns-in_err-refuse_if c = rw (← c.in_limits.ensures) (row_stops (head_row 1 c.in_limits.result) _ c.from_residual.ensures.1 c.in_err-refuse_if.ensures)

pub returns-in_err-refuse_if-2 : goal.returns-in_err-refuse_if-2
returns-in_err-refuse_if-2 c =
    rw (← c.in_limits.ensures, ← c.in_limits-2.ensures)
    (row_goes_on (head_row 1 c.in_limits.result) _ tt c.in_ok-refuse_if.ensures
    (row_stops (head_row 2 c.in_limits-2.result) _ c.from_residual-in_err-refuse_if-2.ensures.1 c.in_err-refuse_if-2.ensures))

pub returns-in_err-refuse_if-3 : goal.returns-in_err-refuse_if-3
returns-in_err-refuse_if-3 c =
    rw (← c.in_limits.ensures, ← c.in_limits-2.ensures)
    (row_goes_on (head_row 1 c.in_limits.result) _ tt c.in_ok-refuse_if.ensures
    (row_goes_on (head_row 2 c.in_limits-2.result) _ tt c.in_ok-refuse_if-2.ensures
    (row_stops (head_row 4 (leb c.args.head.edges most_edges)) _ c.from_residual-in_err-refuse_if-3.ensures.1 c.in_err-refuse_if-3.ensures)))

pub returns-in_err-refuse_if-4 : goal.returns-in_err-refuse_if-4
returns-in_err-refuse_if-4 c =
    rw (← c.in_limits.ensures, ← c.in_limits-2.ensures, ← c.in_limits-3.ensures)
    (row_goes_on (head_row 1 c.in_limits.result) _ tt c.in_ok-refuse_if.ensures
    (row_goes_on (head_row 2 c.in_limits-2.result) _ tt c.in_ok-refuse_if-2.ensures
    (row_goes_on (head_row 4 (leb c.args.head.edges most_edges)) _ tt c.in_ok-refuse_if-3.ensures
    (row_stops (head_row 6 c.in_limits-3.result) _ c.from_residual-in_err-refuse_if-4.ensures.1 c.in_err-refuse_if-4.ensures))))

pub returns : goal.returns
returns c =
    rw (← c.in_limits.ensures, ← c.in_limits-2.ensures, ← c.in_limits-3.ensures, ← c.flights_right-flights.ensures)
    (row_goes_on (head_row 1 c.in_limits.result) _ tt c.in_ok-refuse_if.ensures
    (row_goes_on (head_row 2 c.in_limits-2.result) _ tt c.in_ok-refuse_if-2.ensures
    (row_goes_on (head_row 4 (leb c.args.head.edges most_edges)) _ tt c.in_ok-refuse_if-3.ensures
    (row_goes_on (head_row 6 c.in_limits-3.result) _ tt c.in_ok-refuse_if-4.ensures (row_last (head_row 13 c.flights_right-flights.result) c.refuse_if-5.ensures)))))
