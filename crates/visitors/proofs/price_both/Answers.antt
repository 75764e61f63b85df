-- Each turn adds what one cell more adds; with what the cells after it add, the sums differ as the prices do.
use Rattle.std.proofs.Common.{rules, arith}
use Rattle.visitors.specs.Row.{pricing_row, row_numbered}
use Rattle.visitors.specs.AlongBoth.{both_start, both_end, both_turn, both_room, nothing_both}
use Rattle.visitors.proofs.price_both.Goals as goal

pub returns-then-is_empty : goal.returns-then-is_empty
returns-then-is_empty c = nothing_both c.args.visitors.timed.now _ _ _ _ _ (search rules)

pub loop-j-init : goal.loop-j-init
loop-j-init c = both_start (pricing_row c.requires.pricing c.requires.in_range (search rules))

pub price_cell_both-cell-requires-clause-numbered : goal.price_cell_both-cell-requires-clause-numbered
price_cell_both-cell-requires-clause-numbered c = row_numbered c.loop-j.invariant.before.row c.loop-j.invariant.before.low c.loop-j-test.true

pub overflow_add-sums : goal.overflow_add-sums
overflow_add-sums c = omega (arith, (both_room c.loop-j.invariant c.loop-j-test.true c.price_cell_both-cell.ensures).0)

pub overflow_add-sums-in-loop-j : goal.overflow_add-sums-in-loop-j
overflow_add-sums-in-loop-j c = omega (arith, (both_room c.loop-j.invariant c.loop-j-test.true c.price_cell_both-cell.ensures).1)

pub loop-j-preserved : goal.loop-j-preserved
loop-j-preserved c = both_turn c.loop-j.invariant c.loop-j-test.true c.price_cell_both-cell.ensures

pub returns : goal.returns
returns c = both_end c.loop-j.invariant c.loop-j-test.false
