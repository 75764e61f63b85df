-- The gauges of the constraints of kind 5: what they are, and how a loop puts them down.
-- Assumes nothing.
use Rattle.std.specs.Prelude.{ℕ, ◌+◌, ◌/◌, ◌≤◌, ◌<◌, ◌≡◌, refl, List, [], ◌∷◌, cond, eqb, length, get_or, set}
use Rattle.std.proofs.Common.{arith, sym, ◌∙◌, length-set, get_or-set_other}
use Rattle.lists.specs.Sums.{from, list_of, sum, Every}
use Rattle.lists.specs.SumLaws.{sum_ext, every_all, length_from}
use Rattle.lists.specs.ListLaws.{drop-places}
use Rattle.lists.specs.Loops.{Mapped, mapped_start, mapped_turn, mapped_end}
use Rattle.terms.specs.Distance.{distance}
use Rattle.meaning.specs.Plan.{Visit, Constraint, constraint_length, constraint_at, constraints_of, ConstraintLimits}
use Rattle.meaning.specs.Stretches.{stretches, dwell_of}
use Rattle.meaning.specs.Kinds.{off_dwell}
use Rattle.meaning.specs.Prices.{price, flight_price, flights_price}
use Rattle.kinds.specs.Constraints.{Paying, constraint_every}

-- a constraint's gauge: for kind 5 how far the stretches of all flights are from the limit, for another what it has
abbrev pub dwell_gauge : List (List Visit) → List ℕ → Constraint → ℕ → ℕ
dwell_gauge flights col k gauge = cond (eqb k.kind 5) (sum flights (λ flight. sum (stretches col flight) (off_dwell k))) gauge

-- the gauges of the constraints of the flat list
unfoldable pub dwell_gauges : List (List Visit) → List ℕ → List ℕ → List ℕ → List ℕ
dwell_gauges flights col constraints gauges =
    list_of (length constraints / constraint_length) (λ i. dwell_gauge flights col (constraint_at constraints i) (get_or gauges i 0))

-- ---- one gauge

-- constraints within their limits, and the index of one of them
pub record Gauging (constraints : List ℕ) (k : ℕ) : Type 0 where
  pub each : Every ConstraintLimits (constraints_of constraints)
  pub below : k < length constraints / constraint_length

-- one constraint of kind 5 that weighs 1
abbrev unit : ℕ → ℕ → List ℕ
unit relation limit = 5 ∷ relation ∷ limit ∷ 1 ∷ []

-- with the relation and the limit of another it keeps to the limits
pub unit_timing : {constraints : List ℕ} {k : ℕ} → Gauging constraints k → Paying (unit (constraint_at constraints k).relation (constraint_at constraints k).limit)
unfolding constraints_of
unit_timing {constraints} g =
    let l = constraint_every constraints g.below ConstraintLimits g.each in
    record {
      few = omega arith;
      constraint = (
        record {
          kind = record { low = omega arith; high = omega arith };
          relation = l.relation;
          limit = l.limit;
          weight = record { low = omega arith; high = omega arith };
        },
        tt,
      );
    }

-- the price by it is the plain distance
pub unit-price : (flights : List (List Visit)) (col : List ℕ) (relation limit : ℕ)
    → flights_price (constraints_of (unit relation limit)) col flights ≡ sum flights (λ flight. sum (stretches col flight) (λ s. distance relation (dwell_of s) limit))
unfolding flights_price flight_price price constraints_of
unit-price flights col relation limit =
    sum_ext flights _ _
    (every_all _ (λ flight. sum_ext (stretches col flight) _ _ (every_all _ (λ s. omega arith) (stretches col flight))) flights)

-- ---- all gauges

-- of the gauges those before index k are put down, and the others are as before
pub record Gauged (flights : List (List Visit)) (col constraints before : List ℕ) (k : ℕ) (after : List ℕ) : Type 0 where
  pub each : Every ConstraintLimits (constraints_of constraints)
  pub count : length before ≡ length constraints / constraint_length
  pub size : length after ≡ length before
  pub kept : (j : ℕ) → k ≤ j → get_or after j 0 ≡ get_or before j 0
  pub made : Mapped (λ i. dwell_gauge flights col (constraint_at constraints i) (get_or before i 0)) (from 0 (length constraints / constraint_length)) k after

module _ {flights : List (List Visit)} {col constraints before : List ℕ} where
  -- none is put down
  pub gauged_start : Every ConstraintLimits (constraints_of constraints) → length before ≡ length constraints / constraint_length
      → Gauged flights col constraints before 0 before
  gauged_start e l =
      record { each = e; count = l; size = refl; kept = λ j h. refl; made = mapped_start (l ∙ sym (length_from 0 _)) }

  module _ {k : ℕ} {after : List ℕ} (g : Gauged flights col constraints before k after) where
    -- past the last all are
    pub gauged_end : length after ≤ k → after ≡ dwell_gauges flights col constraints before
    unfolding dwell_gauges
    gauged_end h = mapped_end g.made (rw length_from (omega (arith, g.size, g.count)))

    module _ (h : k < length after) where
      -- the next is that of a constraint
      pub gauged_next : Gauging constraints k
      gauged_next = record { each = g.each; below = omega (arith, g.size, g.count) }

      -- it is put down
      pub gauged_turn : {v : ℕ} → v ≡ dwell_gauge flights col (constraint_at constraints k) (get_or after k 0) → Gauged flights col constraints before (k + 1) (set after k v)
      gauged_turn {v} e =
          record {
            each = g.each;
            count = g.count;
            size = length-set after k v ∙ g.size;
            kept = λ j l. get_or-set_other after k j v 0 (omega arith) ∙ g.kept j (omega arith);
            made = mapped_turn g.made (drop-places _ k gauged_next.below) (rw (g.kept k (omega arith)) at e);
          }
