-- Each turn puts down the next number.
use Rattle.packing.specs.Records.{record_written_start, record_written-next, record_written_turn}
use Rattle.packing.proofs.write_record.Goals as goal

pub loop-k-init : goal.loop-k-init
loop-k-init c = record_written_start c.requires.widths c.requires.widths_in_bounds.0 c.requires.widths_in_bounds.1

pub write_number-requires : goal.write_number-requires
write_number-requires c = rw c.from-width.ensures (record_written-next c.loop-k.invariant c.loop-k-test.true)

pub loop-k-preserved : goal.loop-k-preserved
loop-k-preserved c = rw c.from-width.ensures (record_written_turn c.loop-k.invariant c.loop-k-test.true (rw c.from-width.ensures at c.write_number.ensures))
