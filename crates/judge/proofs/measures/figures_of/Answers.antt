-- The components of all sectors are few.
use native.Mathlib.Omega.{arith}
use Rattle.lists.specs.Few.{few_sum}
use Rattle.meaning.specs.Plan.{most_regions}
use Rattle.judge.proofs.measures.figures_of.Goals as goal

pub sum_of-requires : goal.sum_of-requires
sum_of-requires c = omega (arith, few_sum c.requires.count most_regions (λ n. n) (λ n h. h))
