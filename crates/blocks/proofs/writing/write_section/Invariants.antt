-- The blocks that are left, put down after those that are, make all of them.
use Rattle.blocks.specs.SectionWritten.{SectionWritten}
use Rattle.blocks.proofs.writing.write_section.Given as goal

abbrev pub invariant-loop-number : goal.invariant-loop-number
invariant-loop-number l = SectionWritten l.letters l.first l.section.kind l.section.size l.section.bytes l.shape.widths.now l.shape.stride l.numbers l.initial.sheet l.left l.number l.from l.sheet
