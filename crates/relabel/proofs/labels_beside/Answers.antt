-- Each turn takes in the label of the next neighbour if it has the sector, and after the last all are taken in.
use Prim.Native.Nat.{◌-◌}
use native.Mathlib.Omega.{arith}
use lib.ListN.{length, get_or}
use Rattle.std.proofs.Common.{◌∙◌}
use Rattle.std.proofs.Math.Nat.{add_assoc}
use Rattle.lists.specs.Sums.{In, at}
use Rattle.search.specs.Ranging.{larger, ranging_in, ranging_past, ranging_turn}
use Rattle.relabel.specs.Part.{part, row_item}
use Rattle.relabel.proofs.labels_beside.Goals as goal
use Rattle.relabel.proofs.labels_beside.Goals.{then-colouring-z, else-colouring-z, In-loop-neighbour}

-- what stands in the row is a region
item_in : (c : In-loop-neighbour) → In (length c.args.faces.start.now - 1) (get_or (part (at c.args.faces.start.now c.args.region) (get_or c.args.faces.start.now c.args.region 0) c.args.faces.near.now) c.loop-neighbour.neighbour-index 0)
item_in c =
    let item = row_item c.requires.net c.requires.region c.loop-neighbour-test.true in
    rw item.1 (ranging_in c.loop-neighbour.invariant item.0)

pub overflow_sub-z : goal.overflow_sub-z
overflow_sub-z c = omega (arith, item_in (goal.at.overflow_sub-z c).In-loop-neighbour)

pub offset_bounds-colouring-z : goal.offset_bounds-colouring-z
offset_bounds-colouring-z c = omega (arith, item_in (goal.at.offset_bounds-colouring-z c).In-loop-neighbour, c.loop-neighbour.invariant.given.sectors)

pub bounds-colouring-z : goal.bounds-colouring-z
bounds-colouring-z c = omega (arith, item_in (goal.at.bounds-colouring-z c).In-loop-neighbour, c.loop-neighbour.invariant.given.sectors)

pub offset_bounds-labels-z : goal.offset_bounds-labels-z
offset_bounds-labels-z c = omega (arith, item_in (goal.at.offset_bounds-labels-z c).In-loop-neighbour, c.loop-neighbour.invariant.given.labels)

pub bounds-labels-z : goal.bounds-labels-z
bounds-labels-z c = omega (arith, item_in (goal.at.bounds-labels-z c).In-loop-neighbour, c.loop-neighbour.invariant.given.labels)

pub loop-neighbour-preserved : goal.loop-neighbour-preserved
loop-neighbour-preserved c =
    let item = row_item c.requires.net c.requires.region c.loop-neighbour-test.true in
    elim c.if-colouring-z.branch [
      | then-colouring-z w ↦ rw (w.low-is, w.high-is, ← add_assoc) (ranging_turn c.loop-neighbour.invariant item.0 (rw item.1 at w.if-colouring-z.true) (rw item.1 at w.min-low.ensures) ((rw item.1 at w.max-high.ensures) ∙ larger _ _))
      | else-colouring-z w ↦ rw (w.low-is, w.high-is, ← add_assoc) (ranging_past c.loop-neighbour.invariant item.0 (rw item.1 at w.if-colouring-z.false))
    ]
