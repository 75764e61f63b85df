-- Each turn puts down the next byte.
use Rattle.std.proofs.Common.{add-zero, add-one, arith, drop-cons, rules}
use lib.ListN.{drop_of_length-le}
use Rattle.packing.specs.Put.{putting_start, putting_store, putting_end}
use Rattle.packing.proofs.copy_to.Goals as goal

pub loop-i-init : goal.loop-i-init
loop-i-init c = rw add-zero (putting_start (search rules))

pub loop-i-preserved : goal.loop-i-preserved
loop-i-preserved c = putting_store c.loop-i.invariant (rw (add-one, drop-cons c.args.from.now c.loop-i.i 0 (search rules))) (omega arith)

pub returns : goal.returns
returns c = putting_end c.loop-i.invariant (drop_of_length-le _ {i = c.loop-i.i} (search rules))
