-- The head is one record, so its numbers are those that its section holds; a number that it doesn't have stays 0.
use Rattle.sheet.specs.HeadLaws.{head_whole, head_front}
use Rattle.sheet.proofs.opening.head_in.Goals as goal

pub read_section-requires-clause-whole : goal.read_section-requires-clause-whole
read_section-requires-clause-whole c = head_whole c.args.form c.head_section.ensures c.head_shape.ensures.widths c.head_shape.ensures.stride

pub returns : goal.returns
returns c = head_front c.args.form c.head_section.ensures c.head_shape.ensures.widths c.head_shape.ensures.stride c.args.sheet.now c.read_section.ensures.out_after
