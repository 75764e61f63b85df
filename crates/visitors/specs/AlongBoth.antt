-- The row of a region is gone through once for two colourings: as it is, and with the region given to another sector.
-- Assumes nothing.
use Rattle.std.specs.Prelude.{ℕ, ◌+◌, ◌-◌, ◌≤◌, ◌<◌, ◌≡◌, refl, List, true, false, cond, eqb, length, get_or}
use Rattle.std.proofs.Common.{arith, length-set}
use Rattle.lists.specs.Sums.{at}
use Rattle.meaning.specs.Plan.{Visit, Constraint, constraints_of, flights_of}
use Rattle.meaning.specs.Prices.{flight_price, visitors_price, most_dwell_total}
use Rattle.meaning.specs.Moves.{recolour}
use Rattle.flights.specs.Both.{Differ}
use Rattle.flights.specs.declared.pricing.Prices.{Prices}
use Rattle.visitors.specs.Left.{flight_from}
use Rattle.visitors.specs.Row.{Row}
use Rattle.visitors.specs.Along.{number_price, Along, along_start, along_end, along_turn, along_room, nothing_timed}

-- the prices differ as those of the flights that visit region v do, before and after it is given to sector d
abbrev pub VisitorsDiffer : List Constraint → List ℕ → ℕ → ℕ → List (List Visit) → Prices → Type 0
VisitorsDiffer ks col v d flights = Differ (visitors_price ks col true v flights) (visitors_price ks (recolour col v d) true v flights)

-- what a cell adds: the price of its flight, and 0 where the cell before it has the same flight
abbrev cell_price : (timed counts visits col : List ℕ) → ℕ → ℕ → ℕ → ℕ → ℕ
cell_price timed counts visits col v number p last = cond (eqb number last) 0 (number_price timed counts visits col true v number p)

-- the prices differ as what a cell adds does
abbrev pub CellsDiffer : (timed counts visits col : List ℕ) → ℕ → ℕ → ℕ → ℕ → ℕ → Prices → Type 0
CellsDiffer timed counts visits col v d number p last =
    Differ (cell_price timed counts visits col v number p last) (cell_price timed counts visits (recolour col v d) v number p last)

-- the row of v is gone through up to cell j for both, and s and t differ as the prices so far do
pub record AlongBoth (timed counts visits starts numbers firsts col : List ℕ) (v d j last s t : ℕ) : Type 0 where
  pub x : ℕ
  pub y : ℕ
  pub before : Along timed counts visits starts numbers firsts col true v j last x
  pub after : Along timed counts visits starts numbers firsts (recolour col v d) true v j last y
  pub differ : Differ x y (record { before = s; after = t })

module _ {timed counts visits starts numbers firsts col : List ℕ} {v d : ℕ} where
  -- before the first cell nothing is added
  pub both_start : Row (length col) timed counts visits starts numbers firsts v → AlongBoth timed counts visits starts numbers firsts col v d (at starts v) 0 0 0
  both_start r =
      record {
        x = 0;
        y = 0;
        before = along_start r;
        after = along_start (rw (length-set col (v - 1) d) r);
        differ = record { sum = refl; before = omega arith; after = omega arith };
      }

  module _ {j last s t : ℕ} (a : AlongBoth timed counts visits starts numbers firsts col v d j last s t) where
    -- past the last cell they differ as the prices do
    pub both_end : get_or starts v 0 ≤ j → VisitorsDiffer (constraints_of timed) col v d (flights_of counts visits) (record { before = s; after = t })
    both_end h = rw (← along_end a.before h, ← along_end a.after h) a.differ

    module _ (h : j < get_or starts v 0) {p : Prices} (q : CellsDiffer timed counts visits col v d (get_or numbers j 0) (get_or firsts j 0) last p) where
      -- what the next cell adds is added
      pub both_turn : AlongBoth timed counts visits starts numbers firsts col v d (j + 1) (get_or numbers j 0) (s + p.before) (t + p.after)
      both_turn =
          record {
            x = _;
            y = _;
            before = along_turn a.before h refl;
            after = along_turn a.after h refl;
            differ = record { sum = omega (arith, q.sum, a.differ.sum); before = omega (arith, q.before, a.differ.before); after = omega (arith, q.after, a.differ.after) };
          }

      -- the sums fit
      pub both_room : (s + p.before ≤ most_dwell_total) × (t + p.after ≤ most_dwell_total)
      both_room = (
        omega (arith, along_room a.before h refl, q.before, a.differ.before),
        omega (arith, along_room a.after h refl, q.after, a.differ.after),
      )

-- where nothing is added, 0 and 0 differ by nothing
nothing : Differ 0 0 (record { before = 0; after = 0 })
nothing = record { sum = refl; before = omega arith; after = omega arith }

-- without constraints there is nothing to pay
pub nothing_both : (timed counts visits col : List ℕ) (v d : ℕ) → length timed ≡ 0 → VisitorsDiffer (constraints_of timed) col v d (flights_of counts visits) (record { before = 0; after = 0 })
nothing_both timed counts visits col v d e =
    rw (← nothing_timed timed counts visits col true v e, ← nothing_timed timed counts visits (recolour col v d) true v e) nothing

module _ (timed counts visits col : List ℕ) (v d number p last : ℕ) where
  -- a flight that the cell before has adds nothing
  pub same_cell : eqb number last ≡ true → CellsDiffer timed counts visits col v d number p last (record { before = 0; after = 0 })
  same_cell e = rw e nothing

  -- one that it does not have adds its price
  pub other_cell : eqb number last ≡ false → {r : Prices}
      → Differ (flight_price (constraints_of timed) col true v (flight_from counts visits (number - length col - 1) p)) (flight_price (constraints_of timed) (recolour col v d) true v (flight_from counts visits (number - length col - 1) p)) r
      → CellsDiffer timed counts visits col v d number p last r
  other_cell e q = rw (e, length-set col (v - 1) d) q
