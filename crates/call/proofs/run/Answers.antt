-- The arrays are large enough for any plan that is not refused, and their fronts hold its neighbours, its constraints by kind and what its sectors pay.
use Rattle.std.proofs.Common.{arith, refl, sym, ◌∙◌, length-take-le}
use Rattle.judge.specs.Small.{whole_small}
use Rattle.call.specs.Arrays.{few_regions, starts_lent, starts_ends, edges_fit, gathered_setting, prices_room, prices_lent, lent_opening, picked_fit, picked_sorted, picked_priced, empty_flown}
use Rattle.call.proofs.run.Goals as goal

pub slice_bounds-room-end : goal.slice_bounds-room-end
slice_bounds-room-end c = few_regions c.requires

pub slice_bounds-start-end : goal.slice_bounds-start-end
slice_bounds-start-end c = sym (starts_lent c.requires)

pub slice_bounds-prices-end : goal.slice_bounds-prices-end
slice_bounds-prices-end c = prices_room c.requires

pub slice_bounds-prices-end-2 : goal.slice_bounds-prices-end-2
slice_bounds-prices-end-2 c = sym (prices_lent c.requires)

pub gather-requires : goal.gather-requires
gather-requires c = record { ends = starts_ends c.requires; in_bounds = omega (arith, starts_lent c.requires); edge_length_in_bounds = edges_fit c.requires; areas_len = refl }

pub sum_of-whole-requires : goal.sum_of-whole-requires
sum_of-whole-requires c = omega (arith, whole_small _ c.requires.plan.limits)

pub pick-shared_end-requires : goal.pick-shared_end-requires
pick-shared_end-requires c = picked_fit c.requires

pub pick-limited_end-requires : goal.pick-limited_end-requires
pick-limited_end-requires c = picked_fit c.requires

pub pick-timed_end-requires : goal.pick-timed_end-requires
pick-timed_end-requires c = picked_fit c.requires

pub judge_all-requires : goal.judge_all-requires
judge_all-requires c =
    let none = length-take-le _ c.pick-timed_end.new.picked c.pick-timed_end.ensures.result_in_bounds ∙ c.if-timed_end-eq0.true in
    let setting = gathered_setting c.requires c.sum_of-whole.ensures c.gather.ensures in
    rw c.requires.plan.limits.workloads
    (record { valid = c.requires; sorted = picked_sorted c.requires c.pick-shared_end.ensures.picked_after c.pick-limited_end.ensures.picked_after; setting = setting; opening = lent_opening c.requires c.args.work.now refl; flown = empty_flown c.requires none (picked_priced c.requires c.pick-timed_end.ensures.picked_after) })

pub returns-then-timed_end-eq0 : goal.returns-then-timed_end-eq0
returns-then-timed_end-eq0 c = rw c.requires.plan.limits.workloads at c.judge_all.ensures

pub run_timed-requires : goal.run_timed-requires
run_timed-requires c =
    let setting = gathered_setting c.requires c.sum_of-whole.ensures c.gather.ensures in
    rw c.requires.plan.limits.workloads
    (record { valid = c.requires; sorted = picked_sorted c.requires c.pick-shared_end.ensures.picked_after c.pick-limited_end.ensures.picked_after; setting = setting; opening = lent_opening c.requires c.args.work.now refl; priced = picked_priced c.requires c.pick-timed_end.ensures.picked_after })

pub returns-else-timed_end-eq0 : goal.returns-else-timed_end-eq0
returns-else-timed_end-eq0 c = rw c.requires.plan.limits.workloads at c.run_timed.ensures
