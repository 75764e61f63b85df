-- The records that are left, put down after those that are, make all of them.
use Rattle.blocks.specs.SectionRead.{SectionRead}
use Rattle.blocks.proofs.reading.read_section.Given as goal

abbrev pub invariant-loop-number : goal.invariant-loop-number
invariant-loop-number l = SectionRead l.sheet l.first l.section.size l.section.bytes l.shape.widths.now l.shape.stride l.initial.out l.at l.left l.number l.to l.out
