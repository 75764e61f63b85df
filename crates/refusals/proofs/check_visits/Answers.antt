-- The counts are few and small, so their sum fits. The row on the whole list comes first, then the row on its items.
use Rattle.std.proofs.Common.{arith}
use Rattle.lists.specs.Few.{few_sum}
use Rattle.meaning.specs.Plan.{most_visits}
use Rattle.refusals.specs.Passed.{passed_equal}
use Rattle.refusals.specs.Checked.{checked_passed, checked_stops, checked_goes_on}
use Rattle.refusals.proofs.check_visits.Goals as goal

pub sum_of-requires : goal.sum_of-requires
sum_of-requires c = omega (arith, few_sum c.requires most_visits (λ n. n) (λ n h. h))

pub overflow_mul-numbers : goal.overflow_mul-numbers
overflow_mul-numbers c = omega (arith, c.sum_of.ensures, few_sum c.requires most_visits (λ n. n) (λ n h. h))

pub returns-in_err-refuse_unless : goal.returns-in_err-refuse_unless
returns-in_err-refuse_unless c = rw (← c.sum_of.ensures) (checked_stops _ _ c.from_residual.ensures.1 c.in_err-refuse_unless.ensures)

pub first_bad_flight-requires : goal.first_bad_flight-requires
first_bad_flight-requires c = rw (← c.sum_of.ensures) (passed_equal _ _ (checked_passed _ tt c.in_ok-refuse_unless.ensures).0)

pub returns : goal.returns
returns c = rw (← c.sum_of.ensures, ← c.first_bad_flight.ensures) (checked_goes_on _ _ tt c.in_ok-refuse_unless.ensures c.refuse_at.ensures)
