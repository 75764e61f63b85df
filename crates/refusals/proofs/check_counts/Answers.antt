-- The row on the whole list comes first, then the row on its items.
use Rattle.refusals.specs.Checked.{checked_stops, checked_goes_on}
use Rattle.refusals.proofs.check_counts.Goals as goal

pub returns-in_err-refuse_unless : goal.returns-in_err-refuse_unless
returns-in_err-refuse_unless c = checked_stops _ _ c.from_residual.ensures.1 c.in_err-refuse_unless.ensures

pub returns : goal.returns
returns c = rw (← c.first_bad_count.ensures) (checked_goes_on _ _ tt c.in_ok-refuse_unless.ensures c.refuse_at.ensures)
