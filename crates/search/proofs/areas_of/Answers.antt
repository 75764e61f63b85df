-- The loop goes through the row up to place j, and its two sums with what comes after make the whole areas.
use native.Mathlib.Omega.{arith}
use Rattle.meaning.specs.Faces.{area_to}
use Rattle.search.specs.Weighing.{weighing_start, weighing_in, weighing_turn, weighing_fits, weighing_end}
use Rattle.search.proofs.areas_of.Goals as goal

pub loop-j-init : goal.loop-j-init
loop-j-init c = (weighing_start c.requires.weighable, weighing_start c.requires.weighable)

pub overflow_sub-z : goal.overflow_sub-z
overflow_sub-z c = omega (arith, weighing_in c.loop-j.invariant.0 c.loop-j-test.true)

pub offset_bounds-colouring-z : goal.offset_bounds-colouring-z
offset_bounds-colouring-z c = omega (arith, weighing_in c.loop-j.invariant.0 c.loop-j-test.true, c.loop-j.invariant.0.given.size)

pub bounds-colouring-z : goal.bounds-colouring-z
bounds-colouring-z c = omega (arith, weighing_in c.loop-j.invariant.0 c.loop-j-test.true, c.loop-j.invariant.0.given.size)

pub part-here-requires : goal.part-here-requires
part-here-requires c = record { shown_bound = omega (arith, c.requires.comparable.shown _ (weighing_in c.loop-j.invariant.0 c.loop-j-test.true)); sector_bound = omega (arith, c.requires.comparable.one) }

pub overflow_add-here : goal.overflow_add-here
overflow_add-here c = omega (arith, weighing_fits c.loop-j.invariant.0 c.loop-j-test.true c.part-here.ensures)

pub part-there-requires : goal.part-there-requires
part-there-requires c = record { shown_bound = omega (arith, c.requires.comparable.shown _ (weighing_in c.loop-j.invariant.0 c.loop-j-test.true)); sector_bound = omega (arith, c.requires.comparable.other) }

pub overflow_add-there : goal.overflow_add-there
overflow_add-there c = omega (arith, weighing_fits c.loop-j.invariant.1 c.loop-j-test.true c.part-there.ensures)

pub loop-j-preserved : goal.loop-j-preserved
loop-j-preserved c = (weighing_turn c.loop-j.invariant.0 c.loop-j-test.true c.part-here.ensures, weighing_turn c.loop-j.invariant.1 c.loop-j-test.true c.part-there.ensures)

pub returns : goal.returns
unfolding area_to
returns c = record { here_value = weighing_end c.loop-j.invariant.0 c.loop-j-test.false; there_value = weighing_end c.loop-j.invariant.1 c.loop-j-test.false }
