-- Each turn puts down the hop of one visit more; with those of the others put down from there on, all are.
use Rattle.visitors.specs.Laid.{flight_turn, flight_end}
use Rattle.visitors.proofs.put_flight.Goals as goal

pub loop-k-preserved : goal.loop-k-preserved
loop-k-preserved c = flight_turn c.loop-k.invariant c.loop-k-test.true

pub returns : goal.returns
returns c = flight_end c.loop-k.invariant c.loop-k-test.false
