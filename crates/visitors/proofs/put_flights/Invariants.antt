-- Each turn puts down the hops of one flight more; with those of the others put down from there on, all are.
use Rattle.visitors.specs.Laid.{FlightsLaid}
use Rattle.visitors.proofs.put_flights.Given as goal

abbrev pub invariant-loop-k : goal.invariant-loop-k
invariant-loop-k l = FlightsLaid l.regions l.counts l.visits l.initial.hops l.k l.first l.hops
