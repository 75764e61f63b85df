-- Of the records all but the first k are left, and put down after those they make all of them.
use Rattle.std.proofs.Common.{◌+◌, ◌-◌, ◌*◌, length}
use Rattle.packing.specs.Records.{RecordsRead}
use Rattle.packing.proofs.read_records.Given as goal

abbrev pub invariant-loop-k : goal.invariant-loop-k
invariant-loop-k l = RecordsRead l.bytes l.shape.widths.now l.count l.initial.out l.at (l.count - l.k) (l.k * l.shape.stride) (l.at + l.k * length l.shape.widths.now) l.out
