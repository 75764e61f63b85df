-- The section of a kind is whole records.
use Rattle.form.proofs.FormLaws.{four_letters}
use Rattle.form.proofs.ListedLaws.{few_kind, whole_kind}
use Rattle.writing.proofs.sections.write_kind.Goals as goal

pub section-section-requires : goal.section-section-requires
section-section-requires c = few_kind c.args.kind c.args.form c.requires.head_limits

pub write_section-requires-clause-letters_len : goal.write_section-requires-clause-letters_len
write_section-requires-clause-letters_len c = (rw c.letters.ensures (four_letters c.args.form), rw (c.shape.ensures.widths, c.shape.ensures.stride) (whole_kind c.args.kind c.args.form c.args.head c.section-section.ensures))
