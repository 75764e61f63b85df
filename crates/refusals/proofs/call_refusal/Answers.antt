-- The rows on the plan, then those on the moves and the room.
use Rattle.refusals.specs.Table.{plan_table, plan_refusal, call_table, call_refusal}
use Rattle.refusals.specs.Checked.{checked_stops, checked_goes_on}
use Rattle.refusals.proofs.call_refusal.Goals as goal

pub returns-in_err-plan_refusal : goal.returns-in_err-plan_refusal
unfolding plan_table plan_refusal call_table call_refusal
returns-in_err-plan_refusal c = checked_stops _ _ c.from_residual.ensures.1 c.in_err-plan_refusal.ensures

pub returns : goal.returns
unfolding plan_table plan_refusal call_table call_refusal
returns c = checked_goes_on _ _ tt c.in_ok-plan_refusal.ensures c.check_room.ensures
