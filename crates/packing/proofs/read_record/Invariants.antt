-- The first k numbers are put down.
use Rattle.packing.specs.Records.{RecordRead}
use Rattle.packing.proofs.read_record.Given as goal

abbrev pub invariant-loop-k : goal.invariant-loop-k
invariant-loop-k l = RecordRead l.bytes l.widths l.from l.initial.out l.at l.k l.i l.out
