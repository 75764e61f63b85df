-- Each turn puts down the records of the next block.
use Rattle.std.proofs.Common.{◌<◌, arith}
use Rattle.blocks.specs.Shown.{part_payload}
use Rattle.blocks.specs.Whole.{whole_small}
use Rattle.blocks.specs.SectionRead.{section-read_start, section-read-some, section-read-none, section-read_room, section-read_long, section-read_turn, section-read_end}
use Rattle.blocks.proofs.reading.read_section.Goals as goal
use Rattle.blocks.proofs.reading.read_section.Goals.{After-payload-bytes}

-- bytes are left for the block
some : (c : After-payload-bytes) → 0 < c.loop-number.left
some c = section-read-some c.loop-number.invariant (omega (arith, c.loop-number-test.true, c.block_count.ensures))

pub loop-number-init : goal.loop-number-init
loop-number-init c = section-read_start c.requires.whole c.requires.section_in_bounds c.requires.widths_in_bounds

pub read_records-requires-clause-count_in_bounds : goal.read_records-requires-clause-count_in_bounds
read_records-requires-clause-count_in_bounds c =
    let h = some (goal.at.read_records-requires-clause-count_in_bounds c).After-payload-bytes in (
      section-read_long c.loop-number.invariant h c.min-used.ensures (part_payload _ (whole_small c.loop-number.invariant.whole c.min-used.ensures) c.payload-bytes.ensures),
      section-read_room c.loop-number.invariant h c.min-used.ensures,
    )

pub overflow_mul-to : goal.overflow_mul-to
overflow_mul-to c = omega (arith, section-read_room c.loop-number.invariant (some (goal.at.overflow_mul-to c).After-payload-bytes) c.min-used.ensures)

pub overflow_add-to : goal.overflow_add-to
overflow_add-to c = omega (arith, section-read_room c.loop-number.invariant (some (goal.at.overflow_add-to c).After-payload-bytes) c.min-used.ensures)

pub loop-number-preserved : goal.loop-number-preserved
loop-number-preserved c =
    section-read_turn c.loop-number.invariant (some (goal.at.loop-number-preserved c).After-payload-bytes) c.min-used.ensures
    (part_payload _ (whole_small c.loop-number.invariant.whole c.min-used.ensures) c.payload-bytes.ensures)
    c.read_records.ensures

pub returns-clause-out_after : goal.returns-clause-out_after
returns-clause-out_after c =
    section-read_end c.loop-number.invariant (section-read-none c.loop-number.invariant (omega (arith, c.loop-number-test.false, c.block_count.ensures))) c.args.section.kind
