-- Of all blocks those of the visits come last, and those of the counts before them.
use Rattle.std.proofs.Common.{◌≡◌, ◌+◌, ap, ◌∙◌, arith}
use Rattle.blocks.specs.Section.{blocks_of}
use Rattle.form.specs.Firsts.{count_first}
use Rattle.form.proofs.FirstLaws.{blocks_all}
use Rattle.form.proofs.sections.count_first.Goals as goal
use Rattle.form.proofs.sections.count_first.Goals.{After-block_count-2}

-- all blocks are those before them, and these
all_of : (c : After-block_count-2) → c.all_blocks.result ≡ count_first c.args.form c.args.head + c.block_count.result + c.block_count-2.result
all_of c = c.all_blocks.ensures ∙ blocks_all c.args.form c.args.head ∙ rw (c.block_count.ensures ∙ ap blocks_of c.section.ensures, c.block_count-2.ensures ∙ ap blocks_of c.section-2.ensures)

pub overflow_sub-result : goal.overflow_sub-result
overflow_sub-result c = omega (arith, blocks_all c.args.form c.args.head, c.all_blocks.ensures, c.block_count.ensures ∙ ap blocks_of c.section.ensures)

pub overflow_sub-result-2 : goal.overflow_sub-result-2
overflow_sub-result-2 c = omega (arith, all_of (goal.at.overflow_sub-result-2 c).After-block_count-2)

pub returns : goal.returns
returns c = omega (arith, all_of (goal.at.returns c).After-block_count-2)
