-- The bytes before index i are put down, and with the others stored after them all are.
use Rattle.std.proofs.Common.{◌+◌, drop}
use Rattle.packing.specs.Put.{Putting}
use Rattle.packing.proofs.copy_to.Given as goal

abbrev pub invariant-loop-i : goal.invariant-loop-i
invariant-loop-i l = Putting l.initial.bytes l.at l.from l.bytes (l.at + l.i) (drop l.i l.from)
