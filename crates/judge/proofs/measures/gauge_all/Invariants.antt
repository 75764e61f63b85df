-- What is passed has its gauge, and each turn stores the next.
use mathlib.Core.Path.{◌≡◌}
use lib.ListN.{length}
use Rattle.lists.specs.Loops.{Mapped}
use Rattle.meaning.specs.Plan.{constraints_of}
use Rattle.judge.specs.Figures.{gauge_by}
use Rattle.judge.proofs.measures.gauge_all.Given as goal

abbrev pub invariant-loop-k : goal.invariant-loop-k
invariant-loop-k l = (length l.gauges ≡ length l.initial.gauges)
    × Mapped (gauge_by l.loads) (constraints_of l.constraints) l.k l.gauges
