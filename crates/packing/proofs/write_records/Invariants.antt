-- Of the records all but the first k are left, and put down after those they make all of them.
use Rattle.std.proofs.Common.{◌+◌, ◌-◌, ◌*◌, length}
use Rattle.packing.specs.Records.{RecordsWritten}
use Rattle.packing.proofs.write_records.Given as goal

abbrev pub invariant-loop-k : goal.invariant-loop-k
invariant-loop-k l = RecordsWritten l.shape.widths.now l.numbers 0 l.count l.initial.bytes l.at (l.count - l.k) (l.k * length l.shape.widths.now) (l.at + l.k * l.shape.stride) l.bytes
