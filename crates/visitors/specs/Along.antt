-- The row of a region is gone through cell by cell, and the prices of the flights that visit the region are added up.
-- Assumes nothing.
use Rattle.std.specs.Prelude.{ℕ, ◌+◌, ◌-◌, ◌≤◌, ◌<◌, ◌≡◌, List, Bool, cond, eqb, get_or, drop}
use native.Mathlib.Omega.{arith}
use Rattle.std.proofs.Common.{sym, drop_of_length-le}
use Rattle.std.proofs.Math.ListN.{length}
use Rattle.lists.specs.Sums.{at}
use Rattle.meaning.specs.Plan.{constraints_of, flights_of}
use Rattle.meaning.specs.Flights.{length-flights_of}
use Rattle.meaning.specs.Prices.{flight_price, visitors_price, most_dwell_total}
use Rattle.meaning.proofs.PriceLaws.{visitors_none, visitors_price_bound}
use Rattle.visitors.specs.Left.{flight_from}
use Rattle.visitors.specs.Once.{once, once-each}
use Rattle.visitors.specs.Row.{Row, row_of, row_end_lem, row_number, row_first, row_drop}

-- the price of the flight with a number, whose first visit is the one at index p
abbrev pub number_price : (timed counts visits col : List ℕ) → Bool → ℕ → ℕ → ℕ → ℕ
number_price timed counts visits col all v number p = flight_price (constraints_of timed) col all v (flight_from counts visits (number - length col - 1) p)

-- the row of v up to cell j is gone through, and `last` is the number in the cell before it: with what the cells from j on add, t is the price of the flights that visit v
pub record Along (timed counts visits starts numbers firsts col : List ℕ) (all : Bool) (v j last t : ℕ) : Type 0 where
  pub row : Row (length col) timed counts visits starts numbers firsts v
  pub low : at starts v ≤ j
  pub rest : t + once (number_price timed counts visits col all v) last (drop (j - at starts v) (row_of (length col) counts visits v))
      ≡ visitors_price (constraints_of timed) col all v (flights_of counts visits)

module _ {timed counts visits starts numbers firsts col : List ℕ} {all : Bool} {v : ℕ} where
  -- before the first cell nothing is added
  pub along_start : Row (length col) timed counts visits starts numbers firsts v → Along timed counts visits starts numbers firsts col all v (at starts v) 0 0
  unfolding visitors_price
  along_start r =
      let e : at starts v - at starts v ≡ 0 = omega arith in
      record {
        row = r;
        low = omega arith;
        rest = rw e (omega (arith, once-each (length col) counts visits (flight_price (constraints_of timed) col all v) v r.flying));
      }

  module _ {j last t : ℕ} (a : Along timed counts visits starts numbers firsts col all v j last t) where
    -- past the last cell it is the price
    pub along_end : get_or starts v 0 ≤ j → t ≡ visitors_price (constraints_of timed) col all v (flights_of counts visits)
    unfolding once
    along_end h =
        let past : length (row_of (length col) counts visits v) ≤ j - at starts v = omega (arith, row_end_lem a.row) in
        omega (arith, rw (drop_of_length-le (row_of (length col) counts visits v) past) at a.rest)

    module _ (h : j < get_or starts v 0) {x : ℕ}
        (q : x ≡ cond (eqb (get_or numbers j 0) last) 0 (number_price timed counts visits col all v (get_or numbers j 0) (get_or firsts j 0))) where
      -- what the next cell adds is added
      pub along_turn : Along timed counts visits starts numbers firsts col all v (j + 1) (get_or numbers j 0) (t + x)
      unfolding once
      along_turn =
          record {
            row = a.row;
            low = omega (arith, a.low);
            rest = rw (row_number a.row a.low h) (omega (arith, rw (row_number a.row a.low h, row_first a.row a.low h) at q, rw (row_drop a.row a.low h) at a.rest));
          }

      -- the sum fits
      pub along_room : t + x ≤ most_dwell_total
      along_room =
          let g = a.row in
          omega (
            arith,
            along_turn.rest,
            visitors_price_bound (constraints_of timed) g.timing.few g.timing.constraint (length col) col (flights_of counts visits)
                (rw (length-flights_of counts visits) g.flying.few) g.flying.flight all v,
          )

-- an empty list has no constraints: there is nothing to pay
pub nothing_timed : (timed counts visits col : List ℕ) (all : Bool) (v : ℕ) → length timed ≡ 0 → 0 ≡ visitors_price (constraints_of timed) col all v (flights_of counts visits)
unfolding constraints_of
nothing_timed timed counts visits col all v e = rw e (sym (visitors_none col all v (flights_of counts visits)))
