-- The counts add up to the ends of the rows, and the rows that are filled from their ends are the table.
use native.Mathlib.Omega.{arith}
use mathlib.Core.Path.{◌∙◌}
use Rattle.neighbours.specs.Counts.{counted_sum}
use Rattle.neighbours.specs.Rows.{filled_none, filled_table}
use Rattle.neighbours.proofs.gather.Goals as goal

pub add_up-requires : goal.add_up-requires
add_up-requires c = omega (arith, counted_sum c.count_edges.ensures)

pub fill-requires : goal.fill-requires
fill-requires c = filled_none c.count_edges.ensures c.add_up.auto.counts c.add_up.ensures c.requires.edge_length_in_bounds c.requires.areas_len

pub returns : goal.returns
returns c = filled_table (rw (c.add_up.auto.counts ∙ c.count_edges.auto.counts) at c.fill.ensures) c.requires.in_bounds c.requires.ends
