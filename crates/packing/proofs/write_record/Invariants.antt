-- The first k numbers are put down.
use Rattle.packing.specs.Records.{RecordWritten}
use Rattle.packing.proofs.write_record.Given as goal

abbrev pub invariant-loop-k : goal.invariant-loop-k
invariant-loop-k l = RecordWritten l.widths l.numbers l.from l.initial.bytes l.at l.k l.to l.bytes
