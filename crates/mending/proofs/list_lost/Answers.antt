-- The lost regions among those passed are put down, and each turn puts down the next, if it is lost.
use native.Mathlib.Omega.{arith}
use lib.ListN.{length}
use Rattle.lists.specs.SumLaws.{length_from}
use Rattle.lists.specs.ListLaws.{drop-up_to}
use Rattle.lists.specs.Passing.{listed_start, listed_room, listed_own, listed_other, listed_end}
use Rattle.mending.specs.MendedLaws.{lost-at, kept_at}
use Rattle.mending.proofs.list_lost.Goals as goal
use Rattle.mending.proofs.list_lost.Goals.{then-sector-eq0, else-sector-eq0}

pub loop-i-init : goal.loop-i-init
loop-i-init c = listed_start c.requires

pub bounds-list-count : goal.bounds-list-count
bounds-list-count c =
    omega (
      arith,
      c.loop-i.invariant.size,
      listed_room c.loop-i.invariant (drop-up_to _ c.loop-i.i c.loop-i-test.true) (lost-at c.args.survivors.now c.loop-i.i c.if-sector-eq0.true),
    )

pub loop-i-preserved : goal.loop-i-preserved
loop-i-preserved c =
    let next = drop-up_to _ c.loop-i.i c.loop-i-test.true in
    elim c.if-sector-eq0.branch [
      | then-sector-eq0 w ↦ rw (w.count-is, w.list-is) (listed_own c.loop-i.invariant next (lost-at c.args.survivors.now c.loop-i.i w.if-sector-eq0.true))
      | else-sector-eq0 w ↦ rw (w.count-is, w.list-is) (listed_other c.loop-i.invariant next (kept_at c.args.survivors.now c.loop-i.i w.if-sector-eq0.false))
    ]

pub returns : goal.returns
returns c = listed_end c.loop-i.invariant (rw (length_from 1 (length c.args.survivors.now)) c.loop-i-test.false)
