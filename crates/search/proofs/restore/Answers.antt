-- Each turn takes the mark of the next region of the queue off, and after the last none is left.
use Rattle.std.proofs.Common.{◌<◌, arith, sym}
use Rattle.std.proofs.lemmas.List.{length-take-le, get_or-take}
use Rattle.search.specs.Flood.{flood_top}
use Rattle.search.specs.Restoring.{restoring_room, restoring_turn, restoring_end}
use Rattle.search.proofs.restore.Goals as goal

pub slice_bounds-region-items-end : goal.slice_bounds-region-items-end
slice_bounds-region-items-end c = sym (length-take-le c.args.end c.args.queue.now (omega (arith, flood_top c.requires, c.requires.room)))

pub loop-region-preserved : goal.loop-region-preserved
loop-region-preserved c =
    let h : c.loop-region.region-index < c.args.end = omega (arith, c.loop-region-test.true, length-take-le c.args.end c.args.queue.now (restoring_room c.loop-region.invariant)) in
    rw (get_or-take c.args.end c.args.queue.now c.loop-region.region-index 0 h) (restoring_turn c.loop-region.invariant h)

pub returns : goal.returns
returns c = restoring_end c.loop-region.invariant (omega (arith, c.loop-region-test.false, length-take-le c.args.end c.args.queue.now (restoring_room c.loop-region.invariant)))
