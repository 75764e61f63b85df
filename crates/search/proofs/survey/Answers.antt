-- The loop goes through the row up to place j: its two sums with what comes after make the whole areas, and the labels so far lie between low and high.
use Prim.Native.Nat.{◌-◌, ◌≤◌, ◌<◌}
use native.Mathlib.Omega.{arith}
use Rattle.std.proofs.Common.{◌∙◌}
use lib.ListN.{length, get_or}
use Rattle.lists.specs.Sums.{In, at}
use Rattle.meaning.specs.Faces.{area_to}
use Rattle.neighbours.specs.Net.{table_net}
use Rattle.search.specs.Ranging.{larger, ranging_start, ranging_either, ranging_end}
use Rattle.search.specs.Touches.{label_le, label_range}
use Rattle.search.specs.Weighing.{weighing_start, weighing_in, weighing_turn, weighing_fits, weighing_end}
use Rattle.search.proofs.survey.Goals as goal
use Rattle.search.proofs.survey.Goals.{In-loop-j}

-- the next neighbour is a region
next : (c : In-loop-j) → In (length c.args.faces.start.now - 1) (get_or c.args.faces.near.now c.loop-j.j 0)
next c = weighing_in c.loop-j.invariant.0 c.loop-j-test.true

-- what it shows may be compared with a sector
shown-low : (c : In-loop-j) → at c.args.colouring.now (get_or c.args.faces.near.now c.loop-j.j 0) < 256
shown-low c = omega (arith, c.requires.comparable.shown _ (next c))

-- its label is not above the number of regions
label-low : (c : In-loop-j) → at c.args.labels.now (get_or c.args.faces.near.now c.loop-j.j 0) ≤ length c.args.colouring.now
label-low c = label_le _ (table_net c.requires.weighable.table) c.requires.weighable.size c.requires.labels_value (next c)

pub loop-j-init : goal.loop-j-init
loop-j-init c = (weighing_start c.requires.weighable, (weighing_start c.requires.weighable, ranging_start (label_range _ (table_net c.requires.weighable.table) c.requires.weighable.size c.requires.labels_value c.requires.weighable.region)))

pub overflow_sub-z : goal.overflow_sub-z
overflow_sub-z c = omega (arith, next (goal.at.overflow_sub-z c).In-loop-j)

pub offset_bounds-colouring-z : goal.offset_bounds-colouring-z
offset_bounds-colouring-z c = omega (arith, next (goal.at.offset_bounds-colouring-z c).In-loop-j, c.requires.weighable.size)

pub bounds-colouring-z : goal.bounds-colouring-z
bounds-colouring-z c = omega (arith, next (goal.at.bounds-colouring-z c).In-loop-j, c.requires.weighable.size)

pub offset_bounds-labels-z : goal.offset_bounds-labels-z
offset_bounds-labels-z c = omega (arith, next (goal.at.offset_bounds-labels-z c).In-loop-j, c.loop-j.invariant.1.1.given.labels)

pub bounds-labels-z : goal.bounds-labels-z
bounds-labels-z c = omega (arith, next (goal.at.bounds-labels-z c).In-loop-j, c.loop-j.invariant.1.1.given.labels)

pub part-here-requires : goal.part-here-requires
part-here-requires c = record { shown_bound = shown-low (goal.at.part-here-requires c).In-loop-j; sector_bound = omega (arith, c.requires.comparable.one) }

pub overflow_add-here : goal.overflow_add-here
overflow_add-here c = omega (arith, weighing_fits c.loop-j.invariant.0 c.loop-j-test.true c.part-here.ensures)

pub part-there-requires : goal.part-there-requires
part-there-requires c = record { shown_bound = shown-low (goal.at.part-there-requires c).In-loop-j; sector_bound = omega (arith, c.requires.comparable.other) }

pub overflow_add-there : goal.overflow_add-there
overflow_add-there c = omega (arith, weighing_fits c.loop-j.invariant.1.0 c.loop-j-test.true c.part-there.ensures)

pub overflow_sub-top : goal.overflow_sub-top
overflow_sub-top c = label-low (goal.at.overflow_sub-top c).In-loop-j

pub part-requires : goal.part-requires
part-requires c = record { shown_bound = shown-low (goal.at.part-requires c).In-loop-j; sector_bound = omega (arith, c.requires.comparable.other) }

pub part-requires-in-loop-j : goal.part-requires-in-loop-j
part-requires-in-loop-j c = record { shown_bound = shown-low (goal.at.part-requires-in-loop-j c).In-loop-j; sector_bound = omega (arith, c.requires.comparable.other) }

pub loop-j-preserved : goal.loop-j-preserved
loop-j-preserved c = (
  weighing_turn c.loop-j.invariant.0 c.loop-j-test.true c.part-here.ensures,
  (
    weighing_turn c.loop-j.invariant.1.0 c.loop-j-test.true c.part-there.ensures,
    ranging_either c.loop-j.invariant.1.1 c.loop-j-test.true (label-low (goal.at.loop-j-preserved c).In-loop-j) c.part.ensures c.part-in-loop-j.ensures c.min-low.ensures (c.max-high.ensures ∙ larger _ _),
  ),
)

pub returns : goal.returns
unfolding area_to
returns c = record { here_value = weighing_end c.loop-j.invariant.0 c.loop-j-test.false; there_value = weighing_end c.loop-j.invariant.1.0 c.loop-j-test.false; ranged = ranging_end c.loop-j.invariant.1.1 c.loop-j-test.false }
