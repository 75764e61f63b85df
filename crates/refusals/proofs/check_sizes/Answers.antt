-- The two rows, one after the other.
use Rattle.refusals.specs.Table.{plan_table}
use Rattle.refusals.specs.Checked.{checked_stops, checked_goes_on}
use Rattle.refusals.proofs.check_sizes.Goals as goal

pub returns-in_err-refuse_unless : goal.returns-in_err-refuse_unless
unfolding plan_table
returns-in_err-refuse_unless c = rw (← c.in_limits.ensures) (checked_stops _ _ c.from_residual.ensures.1 c.in_err-refuse_unless.ensures)

pub returns : goal.returns
unfolding plan_table
returns c = rw (← c.in_limits.ensures, ← c.in_limits-2.ensures) (checked_goes_on _ _ tt c.in_ok-refuse_unless.ensures c.refuse_unless-2.ensures)
