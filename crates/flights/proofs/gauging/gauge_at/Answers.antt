-- By the one constraint of weight 1 the price is the plain distance, and the test of the kind is the one that the definition goes by.
use mathlib.Core.Path.{◌∙◌}
use Rattle.flights.specs.Gauged.{unit_timing, unit-price}
use Rattle.flights.proofs.gauging.gauge_at.Goals as goal

pub price_all-requires-clause-paying : goal.price_all-requires-clause-paying
price_all-requires-clause-paying c = rw c.at-constraint.ensures (unit_timing c.requires.gauging)

pub returns-then-constraint-eq-DWELL : goal.returns-then-constraint-eq-DWELL
returns-then-constraint-eq-DWELL c = rw (rw c.at-constraint.ensures at c.if-constraint-eq-DWELL.true) ((rw c.at-constraint.ensures at c.price_all.ensures) ∙ unit-price _ _ _ _)
