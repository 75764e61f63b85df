-- The constraints of a flat list, as an iterator gives them.
-- Assumes nothing.
use Rattle.std.specs.Prelude.{◌≡◌}
use Rattle.std.specs.Iterator.{YieldsFirst}
use Rattle.std.proofs.Common.{ap}
use Rattle.std.proofs.lemmas.Iterator.{YieldsList}
use Rattle.std.proofs.lemmas.Iterator.Consumers.{YieldsList-from_first}
use Rattle.meaning.specs.Plan.{Constraint, constraints_of}
use Rattle.kinds.specs.declared.Constraints.{Constraints}

-- all of them, in their order
pub all_constraints : {s t : Constraints} → s ≡ t → YieldsList {B = Constraint} (YieldsFirst (λ u. constraints_of u.0.now)) (λ k. k) s (constraints_of t.0.now)
all_constraints e = YieldsList-from_first (λ k. k) (λ u. constraints_of u.0.now) _ (ap (λ u. constraints_of u.0.now) e)
