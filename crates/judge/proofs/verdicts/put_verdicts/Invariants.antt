-- What is passed has its verdict, each turn stores the next, and what lies beyond stays.
use mathlib.Core.Path.{◌≡◌}
use lib.ListN.{length}
use Rattle.lists.specs.Sums.{list_of}
use Rattle.judge.specs.Figures.{constraint_count, violation_at}
use Rattle.judge.specs.Judging.{Judging}
use Rattle.judge.proofs.verdicts.put_verdicts.Given as goal

abbrev pub invariant-loop-k : goal.invariant-loop-k
invariant-loop-k l = (length l.verdicts ≡ length l.initial.verdicts)
    × Judging (list_of (constraint_count l.constraints) (violation_at l.figures l.gauges l.constraints)) l.initial.verdicts l.k l.verdicts
