-- The price so far and that of the flights left make the whole price, which fits.
use native.Mathlib.Omega.{arith}
use Rattle.flights.specs.Priced.{priced_flight, priced_turn, priced_room, priced_end}
use Rattle.flights.proofs.pricing.price_all.Goals as goal

pub flight_price-sum-requires-clause-flight_limits : goal.flight_price-sum-requires-clause-flight_limits
flight_price-sum-requires-clause-flight_limits c = priced_flight c.loop-count.invariant c.loop-count-test.true

pub overflow_add-sum : goal.overflow_add-sum
overflow_add-sum c = omega (arith, priced_room c.loop-count.invariant c.loop-count-test.true c.flight_price-sum.ensures)

pub loop-count-preserved : goal.loop-count-preserved
loop-count-preserved c = priced_turn c.loop-count.invariant c.loop-count-test.true c.flight_price-sum.ensures

pub returns : goal.returns
returns c = priced_end c.loop-count.invariant c.loop-count-test.false
