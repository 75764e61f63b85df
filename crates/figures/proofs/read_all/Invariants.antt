-- What was read so far goes from turn to turn, and each way out is one of its laws.
use Rattle.std.proofs.Common.{◌≡◌, ◌*◌, length}
use Rattle.blocks.specs.Block.{block_length}
use Rattle.form.specs.declared.Form.TheVariants.{Second}
use Rattle.form.specs.Form.{most_blocks}
use Rattle.review.specs.SoFar.{SoFar}
use Rattle.figures.proofs.read_all.Given as goal

abbrev pub invariant-loop-place : goal.invariant-loop-place
invariant-loop-place g l = SoFar l.place l.review × (length l.sheet ≡ most_blocks Second * block_length)
