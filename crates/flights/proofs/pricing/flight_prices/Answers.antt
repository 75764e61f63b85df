-- The loop walks the visits from the last to the first by both colourings, and in the end the prices differ as those of the flight do.
use native.Mathlib.Omega.{arith}
use Rattle.flights.specs.FirstStretch.{visiting_last}
use Rattle.flights.specs.Both.{walked-last, walked_ready, walked_visit, walked_turn, walked_end}
use Rattle.flights.proofs.pricing.flight_prices.Goals as goal

pub overflow_sub-last : goal.overflow_sub-last
overflow_sub-last c = omega (arith, (visiting_last c.args.flight.now c.requires.flight_limits).within)

pub stretches_of-firsts-requires-clause-visiting : goal.stretches_of-firsts-requires-clause-visiting
stretches_of-firsts-requires-clause-visiting c = visiting_last _ c.requires.flight_limits

pub loop-k-init : goal.loop-k-init
loop-k-init c = walked-last c.requires.paying c.requires.flight_limits c.stretches_of-firsts.ensures

pub add_both-firsts-requires-clause-ready : goal.add_both-firsts-requires-clause-ready
add_both-firsts-requires-clause-ready c = (walked_visit c.loop-k.invariant c.loop-k-test.true c.stretches_of-visit.ensures, walked_ready c.loop-k.invariant)

pub loop-k-preserved : goal.loop-k-preserved
loop-k-preserved c = walked_turn c.loop-k.invariant c.loop-k-test.true c.stretches_of-visit.ensures c.add_both-firsts.ensures

pub price_from-requires-clause-fits : goal.price_from-requires-clause-fits
price_from-requires-clause-fits c = (walked_ready c.loop-k.invariant).before

pub price_from-requires-2-clause-fits : goal.price_from-requires-2-clause-fits
price_from-requires-2-clause-fits c = (walked_ready c.loop-k.invariant).after

pub returns : goal.returns
returns c = walked_end c.loop-k.invariant c.loop-k-test.false c.price_from.ensures c.price_from-2.ensures
