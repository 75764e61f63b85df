-- Each turn compares the labels of the next region; with those after it all are compared.
use Rattle.std.proofs.Common.{arith}
use Rattle.engine.specs.Compared.{compared_room, compared_turn, compared_end}
use Rattle.engine.proofs.memory.differing.Goals as goal

pub overflow_add-n : goal.overflow_add-n
overflow_add-n c = omega (arith, compared_room c.loop-i.invariant c.loop-i-test.true c.from-n.ensures)

pub loop-i-preserved : goal.loop-i-preserved
loop-i-preserved c = compared_turn c.loop-i.invariant c.loop-i-test.true c.from-n.ensures

pub returns : goal.returns
returns c = compared_end c.loop-i.invariant c.loop-i-test.false
