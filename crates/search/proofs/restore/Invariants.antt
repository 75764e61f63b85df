-- The loop takes the marks off the first k regions of the queue, so that what is still marked stands from there on.
use lib.ListN.{length}
use Rattle.search.specs.Restoring.{Restoring}
use Rattle.search.proofs.restore.Given as goal

abbrev pub invariant-loop-region : goal.invariant-loop-region
invariant-loop-region l = Restoring (length l.initial.colouring) l.sector l.initial.colouring l.queue l.end l.colouring l.region-index
