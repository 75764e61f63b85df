-- What is due after the head is the rest of what is due.
use Rattle.std.proofs.Common.{arith, ◌∙◌}
use Rattle.packing.specs.Part.{part_rest}
use Rattle.form.specs.Form.{dues}
use Rattle.holding.proofs.later_fault.Goals as goal

pub returns : goal.returns
returns c = c.fault_between.ensures ∙ rw (part_rest 1 c.all_blocks.result (dues c.args.form c.args.head) (omega (arith, c.all_blocks.ensures)))
