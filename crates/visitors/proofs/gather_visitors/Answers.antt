-- The hops that are put down are the edges whose table is asked for.
use native.Mathlib.Omega.{arith}
use Rattle.visitors.specs.Visitors.{laid_cells, laid_ends, laid_visitors}
use Rattle.visitors.proofs.gather_visitors.Goals as goal

pub gather-requires-clause-ends : goal.gather-requires-clause-ends
gather-requires-clause-ends c = laid_ends c.put_flights-taken.ensures c.requires.starts_len c.requires.flying

pub gather-requires-clause-edge_length_in_bounds : goal.gather-requires-clause-edge_length_in_bounds
gather-requires-clause-edge_length_in_bounds c = omega (arith, laid_cells c.put_flights-taken.ensures c.requires.flying)

pub returns : goal.returns
returns c = laid_visitors c.put_flights-taken.ensures c.requires.starts_len c.gather.ensures
