-- The loop goes through the neighbours up to place j: what is marked is the labels of those of the sector, and nothing else.
use native.Mathlib.Omega.{arith}
use mathlib.Core.Path.{◌∙◌}
use Rattle.search.specs.Touches.{touching_start, touching_in, touching_size, touching_label, touching_room, touching_turn, touching_end}
use Rattle.search.proofs.touching.Goals as goal

pub loop-j-init : goal.loop-j-init
loop-j-init c = touching_start c.requires.counting c.requires.labels_value

pub overflow_sub-w : goal.overflow_sub-w
overflow_sub-w c = omega (arith, touching_in c.loop-j.invariant c.loop-j-test.true)

pub offset_bounds-labels-w : goal.offset_bounds-labels-w
offset_bounds-labels-w c = omega (arith, touching_in c.loop-j.invariant c.loop-j-test.true, touching_size c.loop-j.invariant)

pub bounds-labels-w : goal.bounds-labels-w
bounds-labels-w c = omega (arith, touching_in c.loop-j.invariant c.loop-j-test.true, touching_size c.loop-j.invariant)

pub overflow_sub-z : goal.overflow_sub-z
overflow_sub-z c = omega (arith, touching_label c.loop-j.invariant c.loop-j-test.true)

pub offset_bounds-colouring-z : goal.offset_bounds-colouring-z
offset_bounds-colouring-z c = omega (arith, touching_label c.loop-j.invariant c.loop-j-test.true, c.loop-j.invariant.given.ready.size)

pub bounds-colouring-z : goal.bounds-colouring-z
bounds-colouring-z c = omega (arith, touching_label c.loop-j.invariant c.loop-j-test.true, c.loop-j.invariant.flood.size)

pub offset_bounds-queue-e : goal.offset_bounds-queue-e
offset_bounds-queue-e c = omega (arith, touching_room c.loop-j.invariant, c.loop-j.invariant.kept)

pub bounds-queue-e : goal.bounds-queue-e
bounds-queue-e c = touching_room c.loop-j.invariant

pub offset_bounds-colouring-z-in-loop-j : goal.offset_bounds-colouring-z-in-loop-j
offset_bounds-colouring-z-in-loop-j c = omega (arith, touching_label c.loop-j.invariant c.loop-j-test.true, c.loop-j.invariant.given.ready.size)

pub bounds-colouring-z-in-loop-j : goal.bounds-colouring-z-in-loop-j
bounds-colouring-z-in-loop-j c = omega (arith, touching_label c.loop-j.invariant c.loop-j-test.true, c.loop-j.invariant.flood.size)

pub overflow_add-e : goal.overflow_add-e
overflow_add-e c = omega (arith, touching_room c.loop-j.invariant, c.loop-j.invariant.kept, c.hit-e.ensures.upper_bound)

pub loop-j-preserved : goal.loop-j-preserved
loop-j-preserved c = touching_turn c.loop-j.invariant c.loop-j-test.true c.masked.ensures c.hit-e.ensures.value

pub returns : goal.returns
returns c = record { value = touching_end c.loop-j.invariant c.loop-j-test.false; colouring_unchanged = c.restore.ensures ∙ c.loop-j.invariant.same }
