-- Document 01, code 6: a list of more than 16 constraints is refused, and alike whatever its numbers are.
-- Assumes nothing.
use Rattle.std.specs.Prelude.{ℕ, ◌*◌, ◌<◌, ◌≡◌, refl, Bool, true, false, not, List, ◌++◌, length}
use Rattle.std.proofs.Common.{arith, ap}
use Rattle.std.proofs.Math.Bool.{true≢false}
use Rattle.meaning.specs.Plan.{constraint_length, most_constraints}
use Rattle.scans.specs.Items.{records}
use Rattle.refusals.specs.Table.{Row, refusal, plan_table, plan_refusal}
use Rattle.refusals.specs.Passed.{passed, front-given, passed_records}

-- more numbers than 16 constraints have
abbrev pub TooMany : List ℕ → Type 0
TooMany numbers = constraint_length * most_constraints < length numbers

-- the row of code 6 is given
not-records : (numbers : List ℕ) → TooMany numbers → records constraint_length 1 most_constraints numbers ≡ false
not-records numbers h = go (records constraint_length 1 most_constraints numbers) refl
  where
    go : (b : Bool) → records constraint_length 1 most_constraints numbers ≡ b → b ≡ false
    go true e = let p = passed_records constraint_length 1 most_constraints numbers (ap not e) in absurd (omega (arith, h, p.0, p.1.1))
    go false e = refl

module _ (kinds R S : ℕ) (workloads outside edges counts visits colouring : List ℕ) where
  -- a plan with too many constraints is refused
  pub plan_refused : (numbers : List ℕ) → TooMany numbers → (plan_refusal kinds R S workloads outside edges counts visits numbers colouring).code ≡ 0 → ⊥
  unfolding plan_table plan_refusal
  plan_refused numbers h z =
      let right = (passed (plan_table kinds R S workloads outside edges counts visits numbers colouring) tt z).1.1.1.1.1.1.1.1.1.1.1.1.0 in
      true≢false (rw (not-records numbers h) at right)

  -- by the same code and place whatever the numbers are
  pub plan_alike : (xs ys : List ℕ) → TooMany xs → TooMany ys → plan_refusal kinds R S workloads outside edges counts visits xs colouring ≡ plan_refusal kinds R S workloads outside edges counts visits ys colouring
  unfolding plan_table plan_refusal refusal
  plan_alike xs ys h k = rw (not-records xs h, not-records ys k)

  -- whatever rows come after those on the plan
  pub table_alike : (xs ys : List ℕ) (more : List Row) → TooMany xs → TooMany ys → refusal (plan_table kinds R S workloads outside edges counts visits xs colouring ++ more) ≡ plan_refusal kinds R S workloads outside edges counts visits ys colouring
  unfolding plan_refusal
  table_alike xs ys more h k =
      rw (← front-given (plan_table kinds R S workloads outside edges counts visits xs colouring) more (plan_refused xs h)) (plan_alike xs ys h k)
