-- The lost regions among those passed are put down, and each turn puts down the next, if it is lost.
use lib.ListN.{length}
use Rattle.lists.specs.Sums.{up_to}
use Rattle.lists.specs.Passing.{Listed}
use Rattle.mending.specs.Mended.{is_lost}
use Rattle.mending.proofs.list_lost.Given as goal

abbrev pub invariant-loop-i : goal.invariant-loop-i
invariant-loop-i l = Listed (is_lost l.survivors) (up_to (length l.survivors)) l.initial.list l.i l.count l.list
