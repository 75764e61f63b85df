-- The loop walks the visits from the last to the first by both colourings, and in the end the prices differ as those of the flight do.
use Rattle.flights.specs.Both.{Walked}
use Rattle.flights.proofs.pricing.flight_prices.Given as goal

abbrev pub invariant-loop-k : goal.invariant-loop-k
invariant-loop-k l = Walked l.timed l.flight l.colouring l.region l.sector l.k l.firsts
