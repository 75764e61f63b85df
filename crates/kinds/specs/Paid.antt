-- What a number pays for constraints, and what those of a kind weigh, constraint by constraint.
-- Assumes nothing.
use Rattle.std.specs.Prelude.{ℕ, ◌*◌, ◌/◌, ◌≤◌, ◌<◌, ◌≡◌, List, cond, eqb, length, get_or}
use Rattle.std.proofs.Common.{arith, mul-le-mul, ◌∙◌}
use Rattle.terms.specs.Distance.{distance}
use Rattle.terms.specs.DistanceLaws.{distance_bound}
use Rattle.meaning.specs.Plan.{Constraint, constraint_length, constraint_at, constraints_of, most_constraints, most_weight, ConstraintLimits}
use Rattle.meaning.specs.Bounds.{most_load, most_distance}
use Rattle.meaning.specs.Prices.{weight_of, price, most_sector_price}
use Rattle.meaning.proofs.PriceLaws.{price_bound, weight_bound}
use Rattle.kinds.specs.declared.Weights.{Weights}
use Rattle.kinds.specs.Constraints.{Paying, length_constraints, constraint_every, constraint_at_lem}

-- what x pays for a constraint
abbrev pub price_by : ℕ → Constraint → ℕ
price_by x k = k.weight * distance k.relation x k.limit

-- what a constraint weighs where it is of the kind
abbrev pub weight_by : ℕ → Constraint → ℕ
weight_by kind k = cond (eqb k.kind kind) k.weight 0

-- what the constraints of each of the kinds 1 to 3 weigh
abbrev pub weights_of : List Constraint → Weights
weights_of ks = record { connected = weight_of 1 ks; border = weight_of 2 ks; balanced = weight_of 3 ks }

-- for one constraint within its limits x pays at most 1,000 times the largest distance
pub part_bound : {k : Constraint} {x : ℕ} → ConstraintLimits k → x ≤ most_load → price_by x k ≤ most_weight * most_distance
part_bound {k} {x} l h = mul-le-mul {m₂ = most_distance} l.weight.high (omega (arith, l.limit, distance_bound k.relation x k.limit))

module _ {constraints : List ℕ} (p : Paying constraints) where
  -- a workload, or a stretch, pays at most 16 * 1,000 times the largest distance
  pub paying_bound : (x : ℕ) → x ≤ most_load → price (constraints_of constraints) x ≤ most_sector_price
  paying_bound x h = price_bound (constraints_of constraints) p.few p.constraint most_distance x (omega arith)

  -- the constraints of a kind weigh at most 16 * 1,000
  pub paying_weight : (kind : ℕ) → weight_of kind (constraints_of constraints) ≤ most_constraints * most_weight
  paying_weight = weight_bound (constraints_of constraints) p.few p.constraint

  -- each constraint keeps to its limits
  pub paying_limits : {k : ℕ} → k < length constraints / constraint_length → ConstraintLimits (constraint_at constraints k)
  paying_limits below = constraint_every constraints below ConstraintLimits p.constraint

  -- so does each by its place among all of them
  pub paying_item : {k : Constraint} {i : ℕ} → i < length (constraints_of constraints) → k ≡ get_or (constraints_of constraints) i k → ConstraintLimits k
  paying_item {k} {i} below e =
      let h : i < length constraints / constraint_length = rw (length_constraints constraints) at below in
      rw (e ∙ constraint_at_lem constraints h k) (paying_limits h)

  -- nor does it pay more than all may
  pub paying_part : {k x : ℕ} → k < length constraints / constraint_length → x ≤ most_load → price_by x (constraint_at constraints k) ≤ most_sector_price
  paying_part below h = omega (arith, part_bound (paying_limits below) h)
