-- The head is one record in one block.
use Rattle.std.proofs.Common.{arith}
use Rattle.form.proofs.FormLaws.{four_letters}
use Rattle.form.proofs.FirstLaws.{blocks_all}
use Rattle.writing.specs.Sections.{whole_head}
use Rattle.writing.proofs.sections.write_head.Goals as goal

pub write_section-requires-clause-letters_len : goal.write_section-requires-clause-letters_len
write_section-requires-clause-letters_len c = (rw c.letters.ensures (four_letters c.args.form), rw (c.head_shape.ensures.widths, c.head_shape.ensures.stride) (whole_head c.args.form c.head_section.ensures))

pub write_section-requires-clause-section_in_bounds : goal.write_section-requires-clause-section_in_bounds
write_section-requires-clause-section_in_bounds c = rw c.head_section.ensures (omega (arith, c.requires.long, blocks_all c.args.form c.args.head))
