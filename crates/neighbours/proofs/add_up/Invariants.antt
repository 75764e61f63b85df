-- Each turn puts one sum more in its count's place, and after the last all are sums.
use Rattle.neighbours.specs.Counts.{Summed}
use Rattle.neighbours.proofs.add_up.Given as goal

abbrev pub invariant-loop-count : goal.invariant-loop-count
invariant-loop-count l = Summed l.initial.counts l.total l.count-index l.counts
