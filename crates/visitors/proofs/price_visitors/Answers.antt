-- Each turn adds what one cell more adds; with what the cells after it add, the sum is the price.
use Rattle.std.proofs.Common.{rules, arith}
use Rattle.visitors.specs.Row.{pricing_row, row_numbered}
use Rattle.visitors.specs.Along.{along_start, along_end, along_turn, along_room, nothing_timed}
use Rattle.visitors.proofs.price_visitors.Goals as goal

pub returns-then-is_empty : goal.returns-then-is_empty
returns-then-is_empty c = nothing_timed c.args.visitors.timed.now _ _ _ _ _ (search rules)

pub loop-j-init : goal.loop-j-init
loop-j-init c = along_start (pricing_row c.requires.pricing c.requires.in_range (search rules))

pub price_cell-sum-requires-clause-numbered : goal.price_cell-sum-requires-clause-numbered
price_cell-sum-requires-clause-numbered c = row_numbered c.loop-j.invariant.row c.loop-j.invariant.low c.loop-j-test.true

pub overflow_add-sum : goal.overflow_add-sum
overflow_add-sum c = omega (arith, along_room c.loop-j.invariant c.loop-j-test.true c.price_cell-sum.ensures)

pub loop-j-preserved : goal.loop-j-preserved
loop-j-preserved c = along_turn c.loop-j.invariant c.loop-j-test.true c.price_cell-sum.ensures

pub returns : goal.returns
returns c = along_end c.loop-j.invariant c.loop-j-test.false
