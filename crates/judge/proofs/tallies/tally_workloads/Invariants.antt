-- The sums are the tally of the regions passed, since each region adds its workload to the sum of its sector.
use lib.ListN.{length}
use Rattle.lists.specs.Sums.{at}
use Rattle.judge.specs.Tallies.{Tallied}
use Rattle.judge.proofs.tallies.tally_workloads.Given as goal

abbrev pub invariant-loop-sector : goal.invariant-loop-sector
invariant-loop-sector l = Tallied (length l.initial.loads) l.workloads l.colouring (at l.workloads) (length l.yielded) l.loads
