-- The loop goes through the neighbours up to place j: none of them shows the sector any longer, and each that did is marked and in the queue.
use native.Mathlib.Omega.{arith}
use Rattle.search.specs.Expanding.{expanding_start, expanding_in, expanding_room, expanding_turn}
use Rattle.search.proofs.expand.Goals as goal

pub loop-j-init : goal.loop-j-init
loop-j-init c = expanding_start c.requires

pub overflow_sub-z : goal.overflow_sub-z
overflow_sub-z c = omega (arith, expanding_in c.loop-j.invariant c.loop-j-test.true)

pub offset_bounds-colouring-z : goal.offset_bounds-colouring-z
offset_bounds-colouring-z c = omega (arith, expanding_in c.loop-j.invariant c.loop-j-test.true, c.loop-j.invariant.given.flood.size)

pub bounds-colouring-z : goal.bounds-colouring-z
bounds-colouring-z c = omega (arith, expanding_in c.loop-j.invariant c.loop-j-test.true, c.loop-j.invariant.grown.flood.size)

pub offset_bounds-queue-e : goal.offset_bounds-queue-e
offset_bounds-queue-e c = omega (arith, expanding_room c.loop-j.invariant, c.loop-j.invariant.grown.size)

pub bounds-queue-e : goal.bounds-queue-e
bounds-queue-e c = omega (arith, expanding_room c.loop-j.invariant, c.loop-j.invariant.grown.more)

pub offset_bounds-colouring-z-in-loop-j : goal.offset_bounds-colouring-z-in-loop-j
offset_bounds-colouring-z-in-loop-j c = omega (arith, expanding_in c.loop-j.invariant c.loop-j-test.true, c.loop-j.invariant.given.flood.size)

pub bounds-colouring-z-in-loop-j : goal.bounds-colouring-z-in-loop-j
bounds-colouring-z-in-loop-j c = omega (arith, expanding_in c.loop-j.invariant c.loop-j-test.true, c.loop-j.invariant.grown.flood.size)

pub overflow_add-e : goal.overflow_add-e
overflow_add-e c = omega (arith, expanding_room c.loop-j.invariant, c.loop-j.invariant.grown.size, c.hit-e.ensures.upper_bound)

pub loop-j-preserved : goal.loop-j-preserved
loop-j-preserved c = expanding_turn c.loop-j.invariant c.loop-j-test.true c.masked.ensures c.hit-e.ensures.value
