-- The first judgement readies the memory for the moves, which leave it as a judgement of the last colouring would; the verdicts and T are made of its figures.
use Rattle.std.proofs.Common.{arith, refl}
use Rattle.turns.specs.StateLaws.{setting_queue, opened_ready}
use Rattle.turns.specs.Taken.{moved_ready}
use Rattle.call.specs.Arrays.{valid_flying}
use Rattle.call.specs.Concluding.{ready_concluding}
use Rattle.call.specs.Promised.{ran_by}
use Rattle.call.proofs.judge_all.Goals as goal

pub begin-first-requires : goal.begin-first-requires
begin-first-requires c = record { sorted = c.requires.sorted; setting = c.requires.setting; opening = c.requires.opening; priced = c.requires.flown.priced }

pub all_moves-last-requires : goal.all_moves-last-requires
all_moves-last-requires c =
    let ready = opened_ready c.requires.valid.plan.limits c.requires.valid.plan.coloured c.begin-first.ensures c.requires.opening.room in
    record { sorted = c.requires.sorted; move_length_bound = c.requires.valid.moves_few; setting = setting_queue c.requires.setting c.begin-first.auto.queue; ready = ready; move_length_in_bounds = c.requires.valid.rows_room; flown = c.requires.flown }

pub overflow_add-counts_end : goal.overflow_add-counts_end
overflow_add-counts_end c = omega (arith, c.requires.valid.plan.limits.S, c.requires.valid.plan.limits.R)

pub overflow_add-at : goal.overflow_add-at
overflow_add-at c = omega (arith, c.requires.valid.plan.limits.S, c.requires.valid.plan.limits.R)

pub offset_bounds-work-counts_end : goal.offset_bounds-work-counts_end
offset_bounds-work-counts_end c = omega (arith, c.requires.valid.plan.limits.S, c.requires.valid.plan.limits.R)

pub slice_bounds-conclude-end : goal.slice_bounds-conclude-end
slice_bounds-conclude-end c = omega (arith, c.all_moves-last.auto.work, c.begin-first.auto.work, c.requires.valid.work_room)

pub conclude-requires : goal.conclude-requires
conclude-requires c =
    let ready = opened_ready c.requires.valid.plan.limits c.requires.valid.plan.coloured c.begin-first.ensures c.requires.opening.room in
    record { concluding = ready_concluding c.requires.valid.plan.limits (moved_ready c.args.moves.now c.requires.valid.plan.limits ready c.all_moves-last.ensures.opened) c.args.prepared.lists.constraints.now refl (valid_flying c.requires.valid); constraints_in_bounds = c.requires.valid.verdicts_room }

pub offset_bounds-work-at : goal.offset_bounds-work-at
offset_bounds-work-at c = omega (arith, c.requires.valid.plan.limits.S, c.requires.valid.plan.limits.R)

pub bounds-work-at : goal.bounds-work-at
bounds-work-at c = omega (arith, c.all_moves-last.auto.work, c.begin-first.auto.work, c.requires.valid.work_room)

pub returns : goal.returns
returns c = ran_by _ c.requires.valid c.begin-first.ensures c.all_moves-last.ensures.opened c.all_moves-last.ensures.rows_after c.conclude.ensures
