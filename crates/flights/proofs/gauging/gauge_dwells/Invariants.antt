-- What is passed has its gauge, and each turn stores the next by the one that still stands there.
use Rattle.meaning.specs.Plan.{flights_of}
use Rattle.flights.specs.Gauged.{Gauged}
use Rattle.flights.proofs.gauging.gauge_dwells.Given as goal

abbrev pub invariant-loop-k : goal.invariant-loop-k
invariant-loop-k l = Gauged (flights_of l.counts l.visits) l.colouring l.constraints l.initial.gauges l.k l.gauges
