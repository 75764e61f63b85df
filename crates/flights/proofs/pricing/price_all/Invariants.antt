-- The price so far and that of the flights left make the whole price, which fits.
use Rattle.flights.specs.Priced.{Priced}
use Rattle.flights.proofs.pricing.price_all.Given as goal

abbrev pub invariant-loop-count : goal.invariant-loop-count
invariant-loop-count l = Priced l.timed l.counts l.visits l.colouring l.count-index l.at l.sum
