-- The flights of the flat lists from one on, as a loop comes to them one after the other.
-- Assumes nothing.
use Rattle.std.specs.Prelude.{ℕ, suc, ◌+◌, ◌-◌, ◌*◌, ◌≤◌, ◌<◌, ◌≡◌, List, ◌∷◌, length, get_or, take, drop}
use Rattle.std.proofs.Math.Numerals.{add-one}
use Rattle.std.proofs.Common.{arith, ap, ◌∙◌, length-take-le, drop-cons, drop-drop}
use Rattle.lists.specs.Sums.{sum}
use Rattle.meaning.specs.Plan.{Visit, visit_length, visits_of, flights_of, FlightLimits}
use Rattle.flights.specs.Flying.{Flying}
use Rattle.flights.specs.FirstStretch.{length-visits}
use Rattle.flights.specs.Priced.{flying_first, flying_rest}

-- the flights from index k on are left, and the first of them has its first visit at index p
pub record Left (R : ℕ) (counts visits : List ℕ) (k p : ℕ) : Type 0 where
  pub flying : Flying R (drop k counts) (drop (visit_length * p) visits)
  pub size : length visits ≡ visit_length * (p + sum (drop k counts) (λ n. n))

-- before the first flight all are left
pub left-all : {R : ℕ} {counts visits : List ℕ} → Flying R counts visits → Left R counts visits 0 0
left-all f = record { flying = f; size = omega (arith, f.size) }

-- the flights that are left
abbrev pub flights_from : List ℕ → List ℕ → ℕ → ℕ → List (List Visit)
flights_from counts visits k p = flights_of (drop k counts) (drop (visit_length * p) visits)

-- the numbers of the first of them: those from its first visit up to the next flight's
abbrev pub numbers_from : List ℕ → List ℕ → ℕ → ℕ → List ℕ
numbers_from counts visits k p = take (visit_length * (p + get_or counts k 0) - visit_length * p) (drop (visit_length * p) visits)

-- its visits
abbrev pub flight_from : List ℕ → List ℕ → ℕ → ℕ → List Visit
flight_from counts visits k p = visits_of (numbers_from counts visits k p)

-- the first of some flights has as many numbers as its count says
pub length-numbers : {R n : ℕ} {counts visits : List ℕ} → Flying R (n ∷ counts) visits → length (take (visit_length * n) visits) ≡ visit_length * n
length-numbers {n = n} {visits = visits} f = length-take-le (visit_length * n) visits (omega (arith, f.size))

module _ (visits : List ℕ) (p n : ℕ) where
  -- past n visits from index p on come those from index p + n on
  pub drop-visits : drop (visit_length * n) (drop (visit_length * p) visits) ≡ drop (visit_length * (p + n)) visits
  drop-visits =
      let e : visit_length * p + visit_length * n ≡ visit_length * (p + n) = omega arith in
      drop-drop (visit_length * n) (visit_length * p) visits ∙ ap (λ i. drop i visits) e

  -- the numbers up to there are those of n visits
  pub take-visits : take (visit_length * (p + n) - visit_length * p) (drop (visit_length * p) visits) ≡ take (visit_length * n) (drop (visit_length * p) visits)
  take-visits =
      let e : visit_length * (p + n) - visit_length * p ≡ visit_length * n = omega arith in
      ap (λ i. take i (drop (visit_length * p) visits)) e

module _ {R : ℕ} {counts visits : List ℕ} {k p : ℕ} (l : Left R counts visits k p) (h : k < length counts) where
  -- they are the first and the others
  first : Flying R (get_or counts k 0 ∷ drop (suc k) counts) (drop (visit_length * p) visits)
  first = rw (drop-cons counts k 0 h) at l.flying

  -- past the first the others are left
  pub left-next : Left R counts visits (k + 1) (p + get_or counts k 0)
  left-next =
      record {
        flying = rw (add-one k, ← drop-visits visits p (get_or counts k 0)) (flying_rest first);
        size = rw (add-one k) (omega (arith, rw (drop-cons counts k 0 h) at l.size));
      }

  -- the first flight, and the others
  pub flights_next : flights_from counts visits k p ≡ flight_from counts visits k p ∷ flights_from counts visits (k + 1) (p + get_or counts k 0)
  unfolding flights_of
  flights_next = rw (drop-cons counts k 0 h, drop-visits, add-one k, take-visits)

  -- the first has as many numbers as its count says
  pub left-numbers : length (numbers_from counts visits k p) ≡ visit_length * get_or counts k 0
  left-numbers = rw take-visits (length-numbers first)

  -- and as many visits
  pub left-length : length (flight_from counts visits k p) ≡ get_or counts k 0
  left-length = omega (arith, length-visits (numbers_from counts visits k p), left-numbers)

  -- which are among the visits
  pub left_fits : visit_length * (p + get_or counts k 0) ≤ length visits
  left_fits = omega (arith, rw (drop-cons counts k 0 h) at l.size)

  -- it is within the limits
  pub left-limits : FlightLimits R (flight_from counts visits k p)
  left-limits = rw take-visits (flying_first first)
