-- The arrays are large enough for the flights of any plan that is not refused, and hold those that visit each region.
use Rattle.std.proofs.Common.{refl, sym}
use Rattle.call.specs.Arrays.{valid_flying, few_rows, rows_lent, visits_fit, picked_priced, gathered_flown}
use Rattle.call.proofs.run_timed.Goals as goal

pub slice_bounds-room-end : goal.slice_bounds-room-end
slice_bounds-room-end c = few_rows c.requires.valid

pub slice_bounds-starts-end : goal.slice_bounds-starts-end
slice_bounds-starts-end c = sym (rows_lent c.requires.valid)

pub gather_visitors-requires : goal.gather_visitors-requires
gather_visitors-requires c = record { flying = valid_flying c.requires.valid; regions_le_most_regions = c.requires.valid.plan.limits.R.high; starts_len = rows_lent c.requires.valid; visits_in_bounds = visits_fit c.requires.valid; firsts_len = refl }

pub judge_all-requires : goal.judge_all-requires
judge_all-requires c =
    let flown = gathered_flown c.requires.valid (picked_priced c.requires.valid c.requires.priced.picked) c.gather_visitors.ensures in
    record { valid = c.requires.valid; sorted = c.requires.sorted; setting = c.requires.setting; opening = c.requires.opening; flown = flown }

pub returns : goal.returns
returns c = c.judge_all.ensures
