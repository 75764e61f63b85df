-- The section of a kind is whole records.
use Rattle.form.proofs.ListedLaws.{whole_kind}
use Rattle.holding.proofs.sections.read_kind.Goals as goal

pub read_section-requires-clause-whole : goal.read_section-requires-clause-whole
read_section-requires-clause-whole c = rw (c.shape.ensures.widths, c.shape.ensures.stride) (whole_kind c.args.kind c.args.form c.args.head c.section-section.ensures)
