-- Those picked so far and those of the kinds low to high among the rest are all of these kinds.
use Rattle.kinds.specs.Picked.{Picked}
use Rattle.kinds.proofs.pick.Given as goal

abbrev pub invariant-loop-k : goal.invariant-loop-k
invariant-loop-k l = Picked l.low l.high l.constraints l.initial.picked l.k l.n l.picked
