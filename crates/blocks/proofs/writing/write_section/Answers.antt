-- Each turn puts down the next block.
use Rattle.std.proofs.Common.{ℕ, ◌<◌, ◌≡◌, List, drop, length, arith, length-drop}
use Rattle.packing.specs.Part.{part, part_rest}
use Rattle.blocks.specs.SectionWritten.{section-written_start, section-written-some, section-written_filling, section-written_turn}
use Rattle.blocks.proofs.writing.write_section.Goals as goal
use Rattle.blocks.proofs.writing.write_section.Goals.{After-min-used}

-- the numbers from an index on, as the part up to the end
rest : (from : ℕ) (numbers : List ℕ) → part from (length numbers) numbers ≡ drop from numbers
rest from numbers = part_rest from (length numbers) numbers (omega arith)

-- bytes are left for the block
some : (c : After-min-used) → 0 < c.loop-number.left
some c = section-written-some c.loop-number.invariant (omega (arith, c.loop-number-test.true, c.block_count.ensures))

pub loop-number-init : goal.loop-number-init
loop-number-init c = section-written_start c.requires.letters_len.1 c.requires.letters_len.0 c.requires.section_in_bounds c.requires.widths_in_bounds

pub write_block-requires-clause-filling : goal.write_block-requires-clause-filling
write_block-requires-clause-filling c = rw (rest c.loop-number.from c.args.numbers.now) (section-written_filling c.loop-number.invariant (some (goal.at.write_block-requires-clause-filling c).After-min-used) c.min-used.ensures)

pub overflow_mul-from : goal.overflow_mul-from
overflow_mul-from c =
    omega (arith, (section-written_filling c.loop-number.invariant (some (goal.at.overflow_mul-from c).After-min-used) c.min-used.ensures).there, length-drop c.loop-number.from c.args.numbers.now)

pub overflow_add-from : goal.overflow_add-from
overflow_add-from c =
    omega (arith, c.loop-number.invariant.inside, (section-written_filling c.loop-number.invariant (some (goal.at.overflow_add-from c).After-min-used) c.min-used.ensures).there, length-drop c.loop-number.from c.args.numbers.now)

pub loop-number-preserved : goal.loop-number-preserved
loop-number-preserved c = section-written_turn c.loop-number.invariant (some (goal.at.loop-number-preserved c).After-min-used) c.min-used.ensures (rw (rest c.loop-number.from c.args.numbers.now) at c.write_block.ensures)
