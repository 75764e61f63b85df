-- Past the last byte the remainders of the sums are the check.
use Rattle.blocks.specs.Summing.{summing_end}
use Rattle.blocks.proofs.check.sums_of.Goals as goal

pub returns : goal.returns
returns c = summing_end c.loop-byte.invariant c.loop-byte-test.false
