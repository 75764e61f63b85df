-- The rows of the table, one list after the other.
use Rattle.refusals.specs.Table.{plan_table, plan_refusal}
use Rattle.refusals.specs.Checked.{checked_stops, checked_goes_on}
use Rattle.refusals.proofs.plan_refusal.Goals as goal

pub returns-in_err-check_sizes : goal.returns-in_err-check_sizes
unfolding plan_table plan_refusal
returns-in_err-check_sizes c = checked_stops _ _ c.from_residual.ensures.1 c.in_err-check_sizes.ensures

pub returns-in_err-check_regions : goal.returns-in_err-check_regions
unfolding plan_table plan_refusal
returns-in_err-check_regions c = checked_goes_on _ _ tt c.in_ok-check_sizes.ensures (checked_stops _ _ c.from_residual-in_err-check_regions.ensures.1 c.in_err-check_regions.ensures)

pub returns : goal.returns
unfolding plan_table plan_refusal
returns c = checked_goes_on _ _ tt c.in_ok-check_sizes.ensures (checked_goes_on _ _ tt c.in_ok-check_regions.ensures c.check_from_edges.ensures)
