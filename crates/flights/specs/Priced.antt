-- The prices of the flights, as a loop adds them up.
-- Assumes nothing.
use Rattle.std.specs.Prelude.{ℕ, suc, ◌+◌, ◌-◌, ◌*◌, ◌≤◌, ◌<◌, ◌≡◌, List, ◌∷◌, true, length, get_or, take, drop}
use Rattle.std.proofs.Common.{add-one, arith, length-drop, drop_of_length-le, drop-cons}
use Rattle.std.proofs.Math.Seq.{drop-drop}
use Rattle.meaning.specs.Plan.{constraints_of, visit_length, visits_of, flights_of, FlightLimits}
use Rattle.meaning.specs.Flights.{length-flights_of}
use Rattle.meaning.specs.Prices.{flight_price, flights_price, most_dwell_total}
use Rattle.meaning.proofs.PriceLaws.{flights_price_bound}
use Rattle.kinds.specs.Constraints.{Paying}
use Rattle.flights.specs.Flying.{Flying}

module _ {R n : ℕ} {counts visits : List ℕ} (f : Flying R (n ∷ counts) visits) where
  -- the first flight has its visits
  pub flying_first : FlightLimits R (visits_of (take (visit_length * n) visits))
  unfolding flights_of
  flying_first = f.flight.0

  -- and the others theirs after them
  pub flying_rest : Flying R counts (drop (visit_length * n) visits)
  unfolding flights_of
  flying_rest =
      record {
        few = omega (arith, f.few);
        count = f.count.1;
        size = rw (length-drop (visit_length * n) visits) (omega (arith, f.size));
        flight = f.flight.1;
      }

-- how many numbers the visits of flight i take
abbrev pub span_at : List ℕ → ℕ → ℕ
span_at counts i = visit_length * get_or counts i 0

-- t is the price of the flights before index i, whose visits end at index j: with the price of the rest it is the price of all
pub record Priced (timed counts visits col : List ℕ) (i j t : ℕ) : Type 0 where
  pub timing : Paying timed
  pub all : Flying (length col) counts visits
  pub within : j ≤ length visits
  pub left : Flying (length col) (drop i counts) (drop j visits)
  pub rest : t + flights_price (constraints_of timed) col (flights_of (drop i counts) (drop j visits)) ≡ flights_price (constraints_of timed) col (flights_of counts visits)

module _ {timed counts visits col : List ℕ} where
  -- before the first flight there is nothing to pay
  pub priced_start : Paying timed → Flying (length col) counts visits → Priced timed counts visits col 0 0 0
  priced_start t f = record { timing = t; all = f; within = omega arith; left = f; rest = omega arith }

  module _ {i j t : ℕ} (p : Priced timed counts visits col i j t) where
    -- past the last flight it is the price of all
    pub priced_end : length counts ≤ i → t ≡ flights_price (constraints_of timed) col (flights_of counts visits)
    unfolding flights_price flights_of
    priced_end h = omega (arith, rw (drop_of_length-le counts h) at p.rest)

    module _ (h : i < length counts) where
      -- the next flight comes first of the rest
      next : Flying (length col) (get_or counts i 0 ∷ drop (suc i) counts) (drop j visits)
      next = rw (drop-cons counts i 0 h) at p.left

      -- its visits are there
      pub priced_within : j + span_at counts i ≤ length visits
      priced_within = omega (arith, next.size, length-drop j visits, p.within)

      -- so many numbers they take
      span : j + span_at counts i - j ≡ span_at counts i
      span = omega arith

      -- they are those of a flight
      pub priced_flight : FlightLimits (length col) (visits_of (take (j + span_at counts i - j) (drop j visits)))
      priced_flight = rw span (flying_first next)

      module _ {r : ℕ} (q : r ≡ flight_price (constraints_of timed) col true 0 (visits_of (take (j + span_at counts i - j) (drop j visits)))) where
        -- its price added: the price of the flights before the next index
        pub priced_turn : Priced timed counts visits col (i + 1) (j + span_at counts i) (t + r)
        unfolding flights_price flights_of
        priced_turn =
            record {
              timing = p.timing;
              all = p.all;
              within = priced_within;
              left = rw (add-one i, ← drop-drop (span_at counts i) j visits) (flying_rest next);
              rest = rw (add-one i, ← drop-drop (span_at counts i) j visits) (omega (arith, rw span at q, rw (drop-cons counts i 0 h) at p.rest));
            }

        -- it fits
        pub priced_room : t + r ≤ most_dwell_total
        priced_room =
            omega (
              arith,
              priced_turn.rest,
              flights_price_bound (constraints_of timed) p.timing.few p.timing.constraint (length col) col (flights_of counts visits)
                  (rw (length-flights_of counts visits) p.all.few) p.all.flight,
            )
