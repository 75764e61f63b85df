-- No more is held than there is room for.
use Rattle.std.specs.Prelude.{◌≤◌, length}
use Rattle.tries.proofs.numbers.read_list.Given as goal

abbrev pub invariant-loop-digits : goal.invariant-loop-digits
invariant-loop-digits l = l.count ≤ length l.held
