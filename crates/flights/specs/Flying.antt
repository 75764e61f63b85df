-- What the functions on flights take for granted: flights within the limits.
-- Assumes nothing.
use Rattle.std.specs.Prelude.{ℕ, ◌*◌, ◌≤◌, ◌≡◌, List, length}
use Rattle.lists.specs.Sums.{In, sum, Every}
use Rattle.meaning.specs.Plan.{visit_length, flights_of, most_flights, most_visits, FlightLimits}

-- the flat lists hold flights over R regions
pub record Flying (R : ℕ) (counts visits : List ℕ) : Type 0 where
  pub few : length counts ≤ most_flights
  pub count : Every (In most_visits) counts
  pub size : length visits ≡ visit_length * sum counts (λ n. n)
  pub flight : Every (FlightLimits R) (flights_of counts visits)
