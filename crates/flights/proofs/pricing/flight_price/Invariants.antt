-- The loop takes the visits from the last to the first, and the price of those taken becomes that of the flight.
use Rattle.std.specs.Prelude.{unwrap_or}
use Rattle.std.specs.Option.{is_none}
use Rattle.flights.specs.FirstStretch.{Taken}
use Rattle.flights.proofs.pricing.flight_price.Given as goal

abbrev pub invariant-loop-k : goal.invariant-loop-k
invariant-loop-k l = Taken l.timed l.flight l.colouring (is_none l.only) (unwrap_or l.only 0) l.k l.first
