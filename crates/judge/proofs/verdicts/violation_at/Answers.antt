-- The constraint that is read is one of those within their limits.
use Rattle.meaning.specs.Plan.{ConstraintLimits}
use Rattle.kinds.specs.Constraints.{constraint_every}
use Rattle.judge.specs.Small.{unweighted-limits}
use Rattle.judge.proofs.verdicts.violation_at.Goals as goal

pub violation-requires-clause-constraint_limits : goal.violation-requires-clause-constraint_limits
violation-requires-clause-constraint_limits c = rw c.at.ensures (unweighted-limits (constraint_every _ c.requires.k_bound ConstraintLimits c.requires.small.constraint))
