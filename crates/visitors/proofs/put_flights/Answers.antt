-- Each turn puts down the hops of one flight more; with those of the others put down from there on, all are.
use Rattle.visitors.specs.Laid.{flights_room, flights_turn, flights_end}
use Rattle.visitors.proofs.put_flights.Goals as goal

pub put_flight-requires : goal.put_flight-requires
put_flight-requires c = flights_room c.loop-k.invariant c.loop-k-test.true

pub loop-k-preserved : goal.loop-k-preserved
loop-k-preserved c = flights_turn c.loop-k.invariant c.loop-k-test.true c.put_flight.ensures

pub returns : goal.returns
returns c = flights_end c.loop-k.invariant c.loop-k-test.false
