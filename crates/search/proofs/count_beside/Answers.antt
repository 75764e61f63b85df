-- The loop has found n components and is done with the first h regions of the queue; where all of it is done with, the next neighbour that shows the sector is of another component.
use native.Mathlib.Omega.{arith}
use mathlib.Core.Path.{◌∙◌}
use lib.ListN.{length-set}
use Rattle.search.specs.Flood.{flood_top}
use Rattle.search.specs.Counting.{counting_span}
use Rattle.search.specs.Searching.{searching_start, searching_in, searching_room, searching_few, searching_span, searching_pop, searching_new, searching_end}
use Rattle.search.proofs.count_beside.Goals as goal

pub skip-i-requires : goal.skip-i-requires
skip-i-requires c = counting_span c.requires

pub loop-i-init : goal.loop-i-init
loop-i-init c = searching_start c.requires c.skip-i.ensures

pub offset_bounds-queue-h : goal.offset_bounds-queue-h
offset_bounds-queue-h c = omega (arith, c.if-h-e.true, flood_top c.loop-i.invariant.flood, c.loop-i.invariant.flood.room)

pub bounds-queue-h : goal.bounds-queue-h
bounds-queue-h c = omega (arith, c.if-h-e.true, flood_top c.loop-i.invariant.flood, c.loop-i.invariant.flood.room)

pub skip-i-requires-then-h-e : goal.skip-i-requires-then-h-e
skip-i-requires-then-h-e c = searching_span c.loop-i.invariant c.expand-e.ensures.grown.flood.size (omega (arith, c.loop-i.invariant.scan.passed)) (omega (arith, c.loop-i.invariant.scan.passed))

pub loop-i-smaller-then-h-e : goal.loop-i-smaller-then-h-e
loop-i-smaller-then-h-e c = omega (arith, c.if-h-e.true, flood_top c.loop-i.invariant.flood, c.expand-e.ensures.grown.more)

pub loop-i-preserved-then-h-e : goal.loop-i-preserved-then-h-e
loop-i-preserved-then-h-e c = searching_pop c.loop-i.invariant c.if-h-e.true c.expand-e.ensures c.skip-i-then-h-e.ensures

pub overflow_sub-z : goal.overflow_sub-z
overflow_sub-z c = omega (arith, searching_in c.loop-i.invariant c.loop-i-test.true)

pub offset_bounds-colouring-z : goal.offset_bounds-colouring-z
offset_bounds-colouring-z c = omega (arith, searching_in c.loop-i.invariant c.loop-i-test.true, c.loop-i.invariant.given.ready.size)

pub bounds-colouring-z : goal.bounds-colouring-z
bounds-colouring-z c = omega (arith, searching_in c.loop-i.invariant c.loop-i-test.true, c.loop-i.invariant.flood.size)

pub offset_bounds-queue-e : goal.offset_bounds-queue-e
offset_bounds-queue-e c = omega (arith, searching_room c.loop-i.invariant c.loop-i-test.true, c.loop-i.invariant.flood.room, c.loop-i.invariant.kept)

pub bounds-queue-e : goal.bounds-queue-e
bounds-queue-e c = omega (arith, searching_room c.loop-i.invariant c.loop-i-test.true, c.loop-i.invariant.flood.room)

pub overflow_add-e : goal.overflow_add-e
overflow_add-e c = omega (arith, searching_room c.loop-i.invariant c.loop-i-test.true, c.loop-i.invariant.flood.room, c.loop-i.invariant.kept)

pub overflow_add-n : goal.overflow_add-n
overflow_add-n c = omega (arith, searching_few c.loop-i.invariant)

pub skip-i-requires-else-h-e : goal.skip-i-requires-else-h-e
skip-i-requires-else-h-e c = searching_span c.loop-i.invariant (simp length-set c.loop-i.invariant.flood.size) (omega arith) (omega (arith, c.loop-i-test.true))

pub loop-i-smaller : goal.loop-i-smaller
loop-i-smaller c = omega (arith, c.if-h-e.false, searching_room c.loop-i.invariant c.loop-i-test.true, c.loop-i.invariant.head)

pub loop-i-preserved : goal.loop-i-preserved
loop-i-preserved c = searching_new c.loop-i.invariant c.if-h-e.false c.loop-i-test.true c.skip-i-else-h-e.ensures

pub returns : goal.returns
returns c = record { value = searching_end c.loop-i.invariant c.loop-i-test.false; colouring_unchanged = c.restore.ensures ∙ c.loop-i.invariant.same }
