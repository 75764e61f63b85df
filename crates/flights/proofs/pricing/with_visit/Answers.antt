-- The visit at its place is put in front of the first stretch.
use Rattle.flights.specs.FirstStretch.{visiting_fits, taken_fits, taken-before, taken_turn}
use Rattle.flights.proofs.pricing.with_visit.Goals as goal

pub add_visit-requires-clause-fits : goal.add_visit-requires-clause-fits
add_visit-requires-clause-fits c = (rw c.stretch_of-visit.ensures (visiting_fits (taken-before c.requires)), taken_fits c.requires)

pub returns : goal.returns
returns c = taken_turn c.requires c.stretch_of-visit.ensures c.add_visit.ensures
