-- The rows of the table but for those on outside areas, which are not given where there are none.
use Rattle.std.proofs.Common.{ap, ◌∙◌}
use Rattle.refusals.specs.Table.{plan_table, plan_refusal}
use Rattle.refusals.specs.Checked.{checked}
use Rattle.refusals.specs.Plain.{no_outside_rows}
use Rattle.refusals.specs.Checked.{checked_stops, checked_goes_on}
use Rattle.refusals.proofs.plain_refusal.Goals as goal

pub returns-in_err-check_sizes : goal.returns-in_err-check_sizes
unfolding plan_table plan_refusal
returns-in_err-check_sizes c = checked_stops _ _ c.from_residual.ensures.1 c.in_err-check_sizes.ensures

pub returns-in_err-check_numbers : goal.returns-in_err-check_numbers
unfolding plan_table plan_refusal
returns-in_err-check_numbers c = checked_goes_on _ _ tt c.in_ok-check_sizes.ensures (checked_stops _ _ c.from_residual-in_err-check_numbers.ensures.1 c.in_err-check_numbers.ensures)

pub returns : goal.returns
unfolding plan_table plan_refusal
returns c = checked_goes_on _ _ tt c.in_ok-check_sizes.ensures (checked_goes_on _ _ tt c.in_ok-check_numbers.ensures (c.check_from_edges.ensures ∙ ap checked (no_outside_rows _ c.args.workloads.now _)))
