-- What is passed has its verdict, each turn stores the next, and what lies beyond stays.
use native.Mathlib.Omega.{arith}
use borrow.Author.Rules.{rules}
use lib.ListN.{length-set}
use Rattle.lists.specs.ListLaws.{length-list_of, drop-list_of}
use Rattle.judge.specs.Figures.{verdicts_by}
use Rattle.judge.specs.Judging.{judging_start, judging_turn, judging_end}
use Rattle.judge.proofs.verdicts.put_verdicts.Goals as goal

pub loop-k-init : goal.loop-k-init
loop-k-init c = (search rules, judging_start (rw length-list_of c.requires.constraints_in_bounds))

pub bounds-verdicts-at-in-loop-k : goal.bounds-verdicts-at-in-loop-k
bounds-verdicts-at-in-loop-k c = simp length-set (omega arith)

pub loop-k-preserved : goal.loop-k-preserved
loop-k-preserved c =
    let next = drop-list_of _ _ c.loop-k.k c.loop-k-test.true in
    (simp length-set c.loop-k.invariant.0, judging_turn c.loop-k.invariant.1 next c.from.ensures c.violation_at-v.ensures)

pub shape_of-verdicts : goal.shape_of-verdicts
shape_of-verdicts c = c.loop-k.invariant.0

pub returns : goal.returns
unfolding verdicts_by
returns c =
    let e = judging_end c.loop-k.invariant.1 (rw length-list_of c.loop-k-test.false) in
    rw length-list_of at e
