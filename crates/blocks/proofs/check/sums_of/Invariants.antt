-- The sums of the bytes so far, gone on with over the others, are the sums of all.
use Rattle.blocks.specs.Summing.{Summing}
use Rattle.blocks.proofs.check.sums_of.Given as goal

abbrev pub invariant-loop-byte : goal.invariant-loop-byte
invariant-loop-byte l = Summing l.bytes l.byte-index l.first l.second
