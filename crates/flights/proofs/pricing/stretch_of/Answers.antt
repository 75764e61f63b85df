-- The numbers read are those of the visit at its place, and its region has a sector.
use native.Mathlib.Omega.{arith}
use Rattle.flights.specs.FirstStretch.{visiting_limits}
use Rattle.flights.proofs.pricing.stretch_of.Goals as goal

pub overflow_sub-z : goal.overflow_sub-z
overflow_sub-z c = omega (arith, (visiting_limits c.requires).region)

pub offset_bounds-colouring-z : goal.offset_bounds-colouring-z
offset_bounds-colouring-z c = omega (arith, (visiting_limits c.requires).region)

pub bounds-colouring-z : goal.bounds-colouring-z
bounds-colouring-z c = omega (arith, (visiting_limits c.requires).region)
