-- The loop takes the visits from the last to the first, and the price of those taken becomes that of the flight.
use native.Mathlib.Omega.{arith}
use mathlib.Core.Path.{◌∙◌}
use Rattle.flights.specs.FirstStretch.{visiting_last, taken-last, taken_fits, taken_end}
use Rattle.flights.proofs.pricing.flight_price.Goals as goal

pub overflow_sub-last : goal.overflow_sub-last
overflow_sub-last c = omega (arith, (visiting_last c.args.flight.now c.requires.flight_limits).within)

pub stretch_of-first-requires : goal.stretch_of-first-requires
stretch_of-first-requires c = visiting_last _ c.requires.flight_limits

pub loop-k-init : goal.loop-k-init
loop-k-init c = taken-last c.requires.paying c.requires.flight_limits c.stretch_of-first.ensures

pub price_from-requires-clause-fits : goal.price_from-requires-clause-fits
price_from-requires-clause-fits c = taken_fits c.loop-k.invariant

pub returns : goal.returns
returns c = c.price_from.ensures ∙ taken_end c.loop-k.invariant c.loop-k-test.false
