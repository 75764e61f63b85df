-- The blocks of each kind come after those of the kind before it, and in turn they are the sheet.
use Rattle.std.proofs.Common.{arith}
use Rattle.form.specs.Form.{layouts}
use Rattle.form.proofs.FirstLaws.{blocks_all}
use Rattle.writing.specs.Sections.{turned_taken, all-put, put_on, sheet_in_turn}
use Rattle.writing.proofs.sections.write_contents.Goals as goal

pub write_kind-first-requires-clause-blocks : goal.write_kind-first-requires-clause-blocks
write_kind-first-requires-clause-blocks c = omega (arith, c.requires.has_blocks.long, blocks_all c.args.form c.args.head, c.write_head-first.ensures.value, c.write_head-first.auto.sheet)

pub write_kind-first-requires-2-clause-blocks : goal.write_kind-first-requires-2-clause-blocks
write_kind-first-requires-2-clause-blocks c = omega (arith, c.requires.has_blocks.long, blocks_all c.args.form c.args.head, c.write_head-first.ensures.value, c.write_head-first.auto.sheet, c.write_kind-first.ensures.value, c.write_kind-first.auto.sheet)

pub write_kind-first-requires-3-clause-blocks : goal.write_kind-first-requires-3-clause-blocks
write_kind-first-requires-3-clause-blocks c = omega (arith, c.requires.has_blocks.long, blocks_all c.args.form c.args.head, c.write_head-first.ensures.value, c.write_head-first.auto.sheet, c.write_kind-first.ensures.value, c.write_kind-first.auto.sheet, c.write_kind-first-2.ensures.value, c.write_kind-first-2.auto.sheet)

pub write_kind-first-requires-4-clause-blocks : goal.write_kind-first-requires-4-clause-blocks
write_kind-first-requires-4-clause-blocks c = omega (arith, c.requires.has_blocks.long, blocks_all c.args.form c.args.head, c.write_head-first.ensures.value, c.write_head-first.auto.sheet, c.write_kind-first.ensures.value, c.write_kind-first.auto.sheet, c.write_kind-first-2.ensures.value, c.write_kind-first-2.auto.sheet, c.write_kind-first-3.ensures.value, c.write_kind-first-3.auto.sheet)

pub write_kind-first-requires-5-clause-blocks : goal.write_kind-first-requires-5-clause-blocks
write_kind-first-requires-5-clause-blocks c = omega (arith, c.requires.has_blocks.long, blocks_all c.args.form c.args.head, c.write_head-first.ensures.value, c.write_head-first.auto.sheet, c.write_kind-first.ensures.value, c.write_kind-first.auto.sheet, c.write_kind-first-2.ensures.value, c.write_kind-first-2.auto.sheet, c.write_kind-first-3.ensures.value, c.write_kind-first-3.auto.sheet, c.write_kind-first-4.ensures.value, c.write_kind-first-4.auto.sheet)

pub write_kind-first-requires-6-clause-blocks : goal.write_kind-first-requires-6-clause-blocks
write_kind-first-requires-6-clause-blocks c = omega (arith, c.requires.has_blocks.long, blocks_all c.args.form c.args.head, c.write_head-first.ensures.value, c.write_head-first.auto.sheet, c.write_kind-first.ensures.value, c.write_kind-first.auto.sheet, c.write_kind-first-2.ensures.value, c.write_kind-first-2.auto.sheet, c.write_kind-first-3.ensures.value, c.write_kind-first-3.auto.sheet, c.write_kind-first-4.ensures.value, c.write_kind-first-4.auto.sheet, c.write_kind-first-5.ensures.value, c.write_kind-first-5.auto.sheet)

pub write_kind-requires-clause-blocks : goal.write_kind-requires-clause-blocks
write_kind-requires-clause-blocks c = omega (arith, c.requires.has_blocks.long, blocks_all c.args.form c.args.head, c.write_head-first.ensures.value, c.write_head-first.auto.sheet, c.write_kind-first.ensures.value, c.write_kind-first.auto.sheet, c.write_kind-first-2.ensures.value, c.write_kind-first-2.auto.sheet, c.write_kind-first-3.ensures.value, c.write_kind-first-3.auto.sheet, c.write_kind-first-4.ensures.value, c.write_kind-first-4.auto.sheet, c.write_kind-first-5.ensures.value, c.write_kind-first-5.auto.sheet, c.write_kind-first-6.ensures.value, c.write_kind-first-6.auto.sheet)

pub returns : goal.returns
unfolding layouts
returns c =
    sheet_in_turn c.args.form c.requires.has_blocks
    (put_on c.write_head-first.ensures.value c.write_head-first.ensures.sheet_after
    (put_on c.write_kind-first.ensures.value c.write_kind-first.ensures.sheet_after
    (put_on c.write_kind-first-2.ensures.value c.write_kind-first-2.ensures.sheet_after
    (put_on c.write_kind-first-3.ensures.value c.write_kind-first-3.ensures.sheet_after
    (put_on c.write_kind-first-4.ensures.value (rw (turned_taken c.args.lists.constraints.now _ c.copy_turned.ensures) at c.write_kind-first-4.ensures.sheet_after)
    (put_on c.write_kind-first-5.ensures.value c.write_kind-first-5.ensures.sheet_after
    (put_on c.write_kind-first-6.ensures.value c.write_kind-first-6.ensures.sheet_after
    (put_on c.write_kind.ensures.value c.write_kind.ensures.sheet_after all-put))))))))
