-- Where there is a block, it is one of the blocks due, so the next place is still a number of the sheet's bytes.
use native.Mathlib.Omega.{arith}
use Rattle.sheet.specs.ShowLaws.{due-there, next_past, next-there}
use Rattle.sheet.proofs.showing.after.Goals as goal

pub returns-then-past_end : goal.returns-then-past_end
returns-then-past_end c = next_past c.args.sheet.now c.args.number c.past_end.ensures c.if-past_end.true

pub overflow_add-result : goal.overflow_add-result
overflow_add-result c = let t = due-there c.args.sheet.now c.args.number c.past_end.ensures c.if-past_end.false in omega (arith, t.before_last, t.opened.long)

pub returns : goal.returns
returns c = next-there c.args.sheet.now c.args.number c.past_end.ensures c.if-past_end.false
