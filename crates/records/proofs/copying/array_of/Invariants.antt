-- Where the records that are left are put as well, the array is the whole.
use Rattle.std.proofs.Common.{◌≡◌, drop}
use Rattle.records.specs.Copied.{put_from, array_of}
use Rattle.records.proofs.copying.array_of.Given as goal

abbrev pub invariant-loop-k : goal.invariant-loop-k
invariant-loop-k l = put_from l.k l.numbers (drop l.k l.constraints) ≡ array_of l.constraints
