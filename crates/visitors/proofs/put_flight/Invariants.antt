-- Each turn puts down the hop of one visit more; with those of the others put down from there on, all are.
use Rattle.visitors.specs.Laid.{FlightLaid}
use Rattle.visitors.proofs.put_flight.Given as goal

abbrev pub invariant-loop-k : goal.invariant-loop-k
invariant-loop-k l = FlightLaid l.number l.first l.flight l.initial.hops l.k l.hops
