-- Each turn puts down the next number.
use Rattle.packing.specs.Records.{record_read_start, record_read-next, record_read_turn}
use Rattle.packing.proofs.read_record.Goals as goal

pub loop-k-init : goal.loop-k-init
loop-k-init c = record_read_start c.requires.widths c.requires.widths_in_bounds.0 c.requires.widths_in_bounds.1

pub read_number-requires : goal.read_number-requires
read_number-requires c = let n = record_read-next c.loop-k.invariant c.loop-k-test.true in rw c.from-width.ensures (n.0, n.1.0)

pub loop-k-preserved : goal.loop-k-preserved
loop-k-preserved c = rw c.from-width.ensures (record_read_turn c.loop-k.invariant c.loop-k-test.true (rw c.from-width.ensures at c.read_number.ensures))
