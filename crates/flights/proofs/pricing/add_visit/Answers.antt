-- The test of the sectors is the one that the definition goes by.
use borrow.Author.Tests.{eq-eqb, ne_eqb}
use Rattle.flights.specs.FirstStretch.{with_visit}
use Rattle.flights.proofs.pricing.add_visit.Goals as goal

pub returns-then-visit-first : goal.returns-then-visit-first
unfolding with_visit
returns-then-visit-first c = rw (eq-eqb _ _ c.if-visit-first.true) c.joined.ensures

pub returns-else-visit-first : goal.returns-else-visit-first
unfolding with_visit
returns-else-visit-first c = rw (ne_eqb _ _ c.if-visit-first.false, ← c.price_from.ensures) c.broken.ensures
