-- The product fits, and is the weight times the violation.
use Rattle.std.proofs.Common.{arith}
use Rattle.judge.specs.Small.{unweighted-limits, weighted_part}
use Rattle.judge.proofs.verdicts.weighted.Goals as goal

pub violation-requires : goal.violation-requires
violation-requires c = record { small_figures = c.requires.small_figures; constraint_limits = unweighted-limits c.requires.constraint_limits }

pub overflow_mul-result : goal.overflow_mul-result
overflow_mul-result c = rw c.violation.ensures (omega (arith, weighted_part c.requires.small_figures c.requires.constraint_limits))

pub returns : goal.returns
returns c = rw c.violation.ensures
