-- They are the sections of the layouts in turn.
use Rattle.form.specs.Form.{layouts}
use Rattle.form.proofs.sections.sections.Goals as goal

pub returns : goal.returns
unfolding layouts
returns c =
    rw (
      c.head_section.ensures,
      c.section.ensures,
      c.section-2.ensures,
      c.section-3.ensures,
      c.section-4.ensures,
      c.section-5.ensures,
      c.section-6.ensures,
      c.section-7.ensures,
    )
