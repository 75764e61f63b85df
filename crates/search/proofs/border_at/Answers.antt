-- The loop goes through the row up to place j, and its sum with what comes after makes the whole area.
use native.Mathlib.Omega.{arith}
use Rattle.search.specs.Weighing.{weighing_start, weighing_in, weighing_turn, weighing_fits, weighing_end}
use Rattle.search.proofs.border_at.Goals as goal

pub loop-j-init : goal.loop-j-init
loop-j-init c = weighing_start c.requires.weighable

pub overflow_sub-z : goal.overflow_sub-z
overflow_sub-z c = omega (arith, weighing_in c.loop-j.invariant c.loop-j-test.true)

pub offset_bounds-colouring-z : goal.offset_bounds-colouring-z
offset_bounds-colouring-z c = omega (arith, weighing_in c.loop-j.invariant c.loop-j-test.true, c.loop-j.invariant.given.size)

pub bounds-colouring-z : goal.bounds-colouring-z
bounds-colouring-z c = omega (arith, weighing_in c.loop-j.invariant c.loop-j-test.true, c.loop-j.invariant.given.size)

pub part_elsewhere-sum-requires : goal.part_elsewhere-sum-requires
part_elsewhere-sum-requires c = record { shown_bound = omega (arith, c.requires.comparable.shown _ (weighing_in c.loop-j.invariant c.loop-j-test.true)); sector_bound = omega (arith, c.requires.comparable.one) }

pub overflow_add-sum : goal.overflow_add-sum
overflow_add-sum c =
    omega (
      arith,
      weighing_fits c.loop-j.invariant c.loop-j-test.true c.part_elsewhere-sum.ensures,
    )

pub loop-j-preserved : goal.loop-j-preserved
loop-j-preserved c = weighing_turn c.loop-j.invariant c.loop-j-test.true c.part_elsewhere-sum.ensures

pub returns : goal.returns
returns c = weighing_end c.loop-j.invariant c.loop-j-test.false
