-- The cells, each exact in an i64, are put down.
use Rattle.std.specs.Prelude.{◌*◌}
use Rattle.meaning.specs.Moves.{row_length, cells}
use Rattle.turns.specs.RowLaws.{meant, row-stored}
use Rattle.turns.proofs.rows.put_row.Goals as goal

pub overflow_cast-cells : goal.overflow_cast-cells
unfolding cells
overflow_cast-cells c = c.requires.every.0

pub overflow_cast-cells-2 : goal.overflow_cast-cells-2
unfolding cells
overflow_cast-cells-2 c = c.requires.every.1.1.0

pub overflow_cast-cells-3 : goal.overflow_cast-cells-3
unfolding cells
overflow_cast-cells-3 c = c.requires.every.1.1.1.0

pub returns : goal.returns
returns c = row-stored c.args.rows.now (row_length * c.args.k) (meant c.args.row) c.requires.every c.requires.row_length_in_bounds c.copy_from_slice.ensures.after
