-- The two bytes are compared with the sums, which are the check.
use Rattle.std.proofs.Common.{◌≡◌, ◌∙◌, arith, sym, length-take-le}
use Rattle.packing.specs.Part.{part}
use Rattle.blocks.specs.Fletcher.{check}
use Rattle.blocks.specs.Block.{block_length, checked_length}
use Rattle.blocks.proofs.Tests.{pointwise_same}
use Rattle.blocks.proofs.faults.check_right.Goals as goal

pub slice_bounds-sums_of-end : goal.slice_bounds-sums_of-end
slice_bounds-sums_of-end c = sym (length-take-le checked_length c.args.block.now (omega arith))

pub returns : goal.returns
returns c =
    let sums : c.bytes-check.result ≡ check (part 0 checked_length c.args.block.now) = c.bytes-check.ensures ∙ c.sums_of.ensures in
    rw sums at c.eq.ensures ∙ pointwise_same (part checked_length block_length c.args.block.now) (check (part 0 checked_length c.args.block.now))
