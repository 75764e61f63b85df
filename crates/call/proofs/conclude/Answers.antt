-- The gauges are made in an array that is large enough for those of any plan, first of kind 4, then of kind 5, and the verdicts are made of them.
use Rattle.std.proofs.Common.{sym, ◌∙◌}
use Rattle.call.specs.Concluding.{gauges_room, gauges_lent, concluding_small, concluding_verdicts}
use Rattle.call.proofs.conclude.Goals as goal

pub slice_bounds-room-end : goal.slice_bounds-room-end
slice_bounds-room-end c = gauges_room c.requires.concluding

pub slice_bounds-gauges-end : goal.slice_bounds-gauges-end
slice_bounds-gauges-end c = sym (gauges_lent c.requires.concluding)

pub gauge_all-requires : goal.gauge_all-requires
gauge_all-requires c = record { few = c.requires.concluding.load; every = c.requires.concluding.paying.constraint; gauges_len = gauges_lent c.requires.concluding }

pub gauge_dwells-requires : goal.gauge_dwells-requires
gauge_dwells-requires c = record { every = c.requires.concluding.paying.constraint; gauges_len = c.gauge_all.auto.gauges ∙ gauges_lent c.requires.concluding; flying = c.requires.concluding.flying }

pub put_verdicts-requires : goal.put_verdicts-requires
put_verdicts-requires c = record { small = concluding_small c.requires.concluding c.gauge_all.ensures c.gauge_dwells.ensures (c.gauge_dwells.auto.gauges ∙ c.gauge_all.auto.gauges ∙ gauges_lent c.requires.concluding); constraints_in_bounds = c.requires.constraints_in_bounds }

pub returns : goal.returns
returns c = rw (concluding_verdicts c.requires.concluding c.gauge_all.ensures c.gauge_dwells.ensures) at c.put_verdicts.ensures
