-- Each turn is done with one region more of the queue, and after the last with all.
use native.Mathlib.Omega.{arith}
use Rattle.relabel.specs.Growing.{growing_start, growing_room, growing_top, growing_turn}
use Rattle.relabel.proofs.component.grow.Goals as goal

pub loop-h-init : goal.loop-h-init
loop-h-init c = growing_start c.requires

pub offset_bounds-queue-h : goal.offset_bounds-queue-h
offset_bounds-queue-h c = omega (arith, growing_room c.loop-h.invariant, c.loop-h.invariant.grown.size)

pub bounds-queue-h : goal.bounds-queue-h
bounds-queue-h c = omega (arith, growing_room c.loop-h.invariant)

pub loop-h-smaller : goal.loop-h-smaller
loop-h-smaller c = omega (arith, c.loop-h-test.true, growing_top c.loop-h.invariant)

pub loop-h-preserved : goal.loop-h-preserved
loop-h-preserved c = growing_turn c.loop-h.invariant c.loop-h-test.true c.expand-e.ensures
