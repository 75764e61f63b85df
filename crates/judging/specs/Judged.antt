-- What judging a sheet leaves: the answer, and the constraints and verdicts in the lent lists.
-- Assumes nothing.
use Rattle.std.specs.Prelude.{ℕ, ◌/◌, ◌≡◌, cond, List, Result, Ok, Err, eqb, length}
use Rattle.meaning.specs.Plan.{constraint_length}
use Rattle.refusals.specs.declared.Refusal.{Refusal}
use Rattle.form.specs.Over.{over}
use Rattle.judging.specs.declared.Judged.{Judged}
use Rattle.judging.specs.Judgement.{Judgement, judgement}

-- the numbers of a judgement: how many constraints it has, and its total
abbrev pub numbers : Judgement → Judged
numbers j = record { constraints = length j.constraints / constraint_length; total = j.total }

-- the answer for a judgement: its refusal, or else its numbers
abbrev pub answer_for : Judgement → Result Judged Refusal
answer_for j = cond (eqb j.refusal.code 0) (Ok (numbers j)) (Err j.refusal)

-- the answer is that for a sheet's judgement, and its constraints and verdicts stand at the fronts of the lent lists
pub record Leaves (sheet constraints verdicts : List ℕ) (answer : Result Judged Refusal) (constraints' verdicts' : List ℕ) : Type 0 where
  pub answered : answer ≡ answer_for (judgement sheet)
  pub constraints_left : constraints' ≡ over (judgement sheet).constraints constraints
  pub verdicts-left : verdicts' ≡ over (judgement sheet).verdicts verdicts
