-- Each turn puts down the next record, and past the last the array is the whole.
use Rattle.std.proofs.Common.{arith, refl}
use Rattle.records.proofs.CopiedLaws.{put_next, put_end}
use Rattle.records.proofs.copying.array_of.Goals as goal

pub loop-k-init : goal.loop-k-init
loop-k-init c = refl

pub loop-k-preserved : goal.loop-k-preserved
loop-k-preserved c = rw c.put_record.ensures (put_next c.args.constraints.now c.loop-k.k c.loop-k.numbers _ (omega arith) c.loop-k.invariant)

pub returns : goal.returns
returns c = put_end c.args.constraints.now c.loop-k.k _ _ (omega arith) c.loop-k.invariant
