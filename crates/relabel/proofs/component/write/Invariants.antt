-- Each turn gives the next region the label, and after the last all have it.
use Rattle.std.proofs.Common.{length}
use Rattle.relabel.specs.Writing.{Writing}
use Rattle.relabel.proofs.component.write.Given as goal

abbrev pub invariant-loop-region : goal.invariant-loop-region
invariant-loop-region l = Writing (length l.initial.labels) l.regions 0 (length l.regions) l.label l.initial.labels l.labels l.n l.region-index
