-- Each turn looks at the next place, and after the last all are looked at.
use Rattle.std.proofs.Common.{length, ◌+◌}
use Rattle.relabel.specs.Minimum.{Minimising}
use Rattle.relabel.proofs.component.smallest.Given as goal

abbrev pub invariant-loop-region : goal.invariant-loop-region
invariant-loop-region l = Minimising l.regions 0 (length l.regions) l.least (l.region-index + 1)
