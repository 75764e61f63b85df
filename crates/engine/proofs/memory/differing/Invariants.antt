-- Each turn compares the labels of the next region; with those after it all are compared.
use Rattle.engine.specs.Compared.{Compared}
use Rattle.engine.proofs.memory.differing.Given as goal

abbrev pub invariant-loop-i : goal.invariant-loop-i
invariant-loop-i l = Compared l.before l.after l.i l.n
