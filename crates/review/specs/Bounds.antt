-- How large the figures can be, so that no sum of them passes a machine number.
-- Assumes nothing.
use Rattle.std.specs.Prelude.{ℕ, ◌*◌, ◌/◌, ◌≤◌, ◌<◌, List, length}
use Rattle.std.proofs.Common.{arith}
use Rattle.std.proofs.Math.Bool.{not}
use Rattle.lists.specs.Sums.{from, up_to, sum, Every}
use Rattle.lists.specs.SumLaws.{length_from, few_bound, every_all, every_map}
use Rattle.lists.specs.Counts.{count_parts}
use Rattle.meaning.specs.Plan.{constraint_length, most_constraints, most_kind}
use Rattle.judging.specs.Judgement.{judgement}
use Rattle.judging.specs.Fronts.{sized}
use Rattle.review.specs.declared.Review.{Review}
use Rattle.review.specs.Review.{sound, zero_total, fails, failing, failed_in, review_of}
use Rattle.review.specs.Stream.{most_sheets}
use Rattle.review.specs.Next.{Taken}

-- no more constraints fail than there are
pub failing_most : (kind : ℕ) (constraints verdicts : List ℕ) → failing kind constraints verdicts ≤ length constraints / constraint_length
unfolding failing
failing_most kind constraints verdicts =
    let n = length constraints / constraint_length in
    omega (arith, count_parts (fails kind constraints verdicts) (from 0 n), length_from 0 n)

-- and in a sheet these are few
failed_most : (kind : ℕ) (sheet : List ℕ) → failed_in kind sheet ≤ most_constraints
failed_most kind sheet =
    let j = judgement sheet in omega (arith, failing_most kind j.constraints j.verdicts, (sized sheet).few)

-- the figures over fewer sheets than are read at most
module _ {place : ℕ} {r : Review} (t : Taken place r) (h : place ≤ most_sheets) where
  -- fewer of them have a property
  pub sound_few : r.sound < most_sheets
  unfolding review_of
  sound_few = rw t.figures (omega (arith, count_parts sound t.sheets, t.many))

  pub refused_few : r.refused < most_sheets
  unfolding review_of
  refused_few = rw t.figures (omega (arith, count_parts (λ s. not (sound s)) t.sheets, t.many))

  pub zero_few : r.zero < most_sheets
  unfolding review_of
  zero_few = rw t.figures (omega (arith, count_parts zero_total t.sheets, t.many))

  -- for each kind no more constraints failed than they all have
  pub failed_few : Every (λ x. x ≤ most_sheets * most_constraints) r.failed
  unfolding review_of
  failed_few =
      rw t.figures
      (every_map (λ x. x ≤ most_sheets * most_constraints) (λ kind. sum t.sheets (failed_in kind)) (up_to most_kind)
      (every_all _ (λ kind. few_bound most_sheets most_constraints t.sheets (failed_in kind) (omega (arith, t.many)) (every_all _ (failed_most kind) t.sheets)) (up_to most_kind)))
