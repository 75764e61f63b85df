-- The rows, one after the other.
use Rattle.refusals.specs.Table.{room_table}
use Rattle.refusals.specs.Checked.{checked_stops, checked_goes_on}
use Rattle.refusals.proofs.check_room.Goals as goal

pub returns-in_err-refuse_unless : goal.returns-in_err-refuse_unless
unfolding room_table
returns-in_err-refuse_unless c = rw (← c.whole_records-whole.ensures) (checked_stops _ _ c.from_residual.ensures.1 c.in_err-refuse_unless.ensures)

pub returns-in_err-refuse_unless-2 : goal.returns-in_err-refuse_unless-2
unfolding room_table
returns-in_err-refuse_unless-2 c = rw (← c.whole_records-whole.ensures) (checked_goes_on _ _ tt c.in_ok-refuse_unless.ensures (checked_stops _ _ c.from_residual-in_err-refuse_unless-2.ensures.1 c.in_err-refuse_unless-2.ensures))

pub returns-in_err-refuse_unless-3 : goal.returns-in_err-refuse_unless-3
unfolding room_table
returns-in_err-refuse_unless-3 c = rw (← c.whole_records-whole.ensures) (checked_goes_on _ _ tt c.in_ok-refuse_unless.ensures (checked_goes_on _ _ tt c.in_ok-refuse_unless-2.ensures (checked_stops _ _ c.from_residual-in_err-refuse_unless-3.ensures.1 c.in_err-refuse_unless-3.ensures)))

pub returns : goal.returns
unfolding room_table
returns c = rw (← c.whole_records-whole.ensures, ← c.room_for_work.ensures) (checked_goes_on _ _ tt c.in_ok-refuse_unless.ensures (checked_goes_on _ _ tt c.in_ok-refuse_unless-2.ensures (checked_goes_on _ _ tt c.in_ok-refuse_unless-3.ensures c.refuse_unless-4.ensures)))
