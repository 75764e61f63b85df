-- The visits of a flight, taken from the last to the first: the first stretch of those taken, and the price of the stretches after it.
-- Assumes nothing.
use Rattle.std.specs.Prelude.{ℕ, zero, suc, ◌+◌, ◌-◌, ◌*◌, ◌/◌, ◌^◌, ◌≤◌, ◌<◌, ◌≡◌, refl, List, [], ◌∷◌, Bool, true, false, cond, ◌||◌, ◌≢◌, eqb, length, drop}
use Rattle.std.proofs.Common.{add-one, arith, ◌∙◌, length-drop, drop_of_length-le}
use Rattle.std.proofs.Math.Path.{sym}
use Rattle.std.proofs.Math.Bool.{or-false}
use borrow.Author.Tests.{eq-eqb, ne_eqb}
use Rattle.lists.specs.Sums.{sum, Every}
use Rattle.lists.specs.Tests.{by_eqb}
use Rattle.lists.specs.ListLaws.{length-list_of, drop-list_of, list_of_every}
use Rattle.meaning.specs.Plan.{Visit, Constraint, visit_length, visit_at, visits_of, constraints_of, most_visits, most_dwell, VisitLimits, FlightLimits}
use Rattle.meaning.specs.Stretches.{sector_of, before, stretches, dwell_of, visits}
use Rattle.meaning.proofs.BoundLaws.{stretch_bound}
use Rattle.meaning.specs.Prices.{price, flight_price}
use Rattle.meaning.proofs.PriceLaws.{flight_price_bound}
use Rattle.kinds.specs.Constraints.{Paying}
use Rattle.flights.specs.declared.pricing.Stretch.{Stretch}

-- a visit as a stretch of its own, with none after it
abbrev pub alone : List ℕ → Bool → ℕ → Visit → Stretch
alone col all region v =
    record { sector = sector_of col v; seconds = v.dwell; counted = all || eqb v.region region; after = 0 }

-- a visit in one stretch with the first
abbrev pub joined : Stretch → Stretch → Stretch
joined v t = record { sector = v.sector; seconds = v.seconds + t.seconds; counted = v.counted || t.counted; after = t.after }

-- a visit as a stretch of its own, with the price of those after it
abbrev pub broken : Stretch → ℕ → Stretch
broken v after = record { sector = v.sector; seconds = v.seconds; counted = v.counted; after = after }

-- the price of a first stretch, where it counts, and of those after it
abbrev pub price_from : List Constraint → Stretch → ℕ
price_from ks t = t.after + cond t.counted (price ks t.seconds) 0

-- a visit in front of the first stretch: one with it where both are in one sector, else a stretch of its own
unfoldable pub with_visit : List Constraint → Stretch → Stretch → Stretch
with_visit ks v t = cond (eqb v.sector t.sector) (joined v t) (broken v (price_from ks t))

-- a stretch is no longer than a flight, and the price of those after it fits
abbrev pub Fits : Stretch → Type 0
Fits t = (t.seconds ≤ most_visits * most_dwell) × (t.after < 2 ^ 63)

-- whether either of two stretches counts
counts_either : (all s t : Bool) → (all || s) || (all || t) ≡ all || (s || t)
counts_either true s t = refl
counts_either false s t = refl

-- ---- over any visits

module _ (ks : List Constraint) (col : List ℕ) (all : Bool) (region : ℕ) where
  -- the price of a stretch, where it counts
  abbrev part : List Visit → ℕ
  part s = cond (all || visits region s) (price ks (dwell_of s)) 0

  -- t is the first stretch of some visits, with the price of the stretches after it
  pub record First (vs : List Visit) (t : Stretch) : Type 0 where
    pub visit : Visit
    pub others : List Visit
    pub later : List (List Visit)
    pub are : stretches col vs ≡ (visit ∷ others) ∷ later
    pub sector : t.sector ≡ sector_of col visit
    pub seconds : t.seconds ≡ dwell_of (visit ∷ others)
    pub counted : t.counted ≡ all || visits region (visit ∷ others)
    pub after : t.after ≡ sum later part

  -- of one visit
  first_alone : (v : Visit) → First (v ∷ []) (alone col all region v)
  unfolding stretches before visits
  first_alone v =
      record {
        visit = v;
        others = [];
        later = [];
        are = refl;
        sector = refl;
        seconds = omega arith;
        counted = rw or-false;
        after = refl;
      }

  module _ {vs : List Visit} {t : Stretch} (f : First vs t) where
    -- the price of all stretches
    first_price : price_from ks t ≡ flight_price ks col all region vs
    unfolding flight_price
    first_price = rw (f.are, f.after, f.counted, f.seconds) (omega arith)

    -- a stretch is at most 32 * 86,400 seconds
    first_seconds : {R : ℕ} → FlightLimits R vs → t.seconds ≤ most_visits * most_dwell
    first_seconds l = rw f.seconds (rw f.are at (stretch_bound col vs l)).0

    module _ (v : Visit) where
      -- a visit in the same sector comes into the first stretch
      first_joined : sector_of col v ≡ t.sector → First (v ∷ vs) (joined (alone col all region v) t)
      unfolding stretches before visits
      first_joined e =
          record {
            visit = v;
            others = f.visit ∷ f.others;
            later = f.later;
            are = rw (f.are, eq-eqb _ _ (e ∙ f.sector));
            sector = refl;
            seconds = omega (arith, f.seconds);
            counted = rw f.counted (counts_either all _ _);
            after = f.after;
          }

      -- one in another is a stretch of its own
      first_broken : sector_of col v ≢ t.sector → {after : ℕ} → after ≡ price_from ks t → First (v ∷ vs) (broken (alone col all region v) after)
      unfolding stretches before visits flight_price
      first_broken ne q =
          record {
            visit = v;
            others = [];
            later = (f.visit ∷ f.others) ∷ f.later;
            are = rw (f.are, ne_eqb _ _ (λ e. ne (e ∙ sym f.sector)));
            sector = refl;
            seconds = omega arith;
            counted = rw or-false;
            after = q ∙ first_price ∙ rw f.are;
          }

-- ---- over the visits of a flat list

-- a flight over R regions and the index of one of its visits
pub record Visiting (R : ℕ) (flight : List ℕ) (k : ℕ) : Type 0 where
  pub limits : FlightLimits R (visits_of flight)
  pub within : k < length flight / visit_length

-- how many visits there are
pub length-visits : (flight : List ℕ) → length (visits_of flight) ≡ length flight / visit_length
unfolding visits_of
length-visits flight = length-list_of (length flight / visit_length) (visit_at flight)

-- a flight has a last visit
pub visiting_last : {R : ℕ} (flight : List ℕ) → FlightLimits R (visits_of flight) → Visiting R flight (length flight / visit_length - 1)
visiting_last flight l = record { limits = l; within = omega (arith, length-visits flight, l.visits.low) }

-- what each of a list has, each from index k on has
every_drop : {A : Type 0} (P : A → Type 0) (k : ℕ) (xs : List A) → Every P xs → Every P (drop k xs)
every_drop P zero xs e = e
every_drop P (suc k) [] e = tt
every_drop P (suc k) (x ∷ xs) e = every_drop P k xs e.1

module _ {R : ℕ} {flight : List ℕ} {k : ℕ} (g : Visiting R flight k) where
  -- the visit keeps to its limits
  pub visiting_limits : VisitLimits R (visit_at flight k)
  unfolding visits_of
  visiting_limits = list_of_every (VisitLimits R) (length flight / visit_length) (visit_at flight) g.limits.visit k g.within

  -- it fits as a stretch of its own
  pub visiting_fits : ((visit_at flight k).dwell ≤ most_visits * most_dwell) × (0 < 2 ^ 63)
  visiting_fits = (omega (arith, visiting_limits.dwell.high), omega arith)

  -- from its index on: the visit, and those after it
  visiting_next : drop k (visits_of flight) ≡ visit_at flight k ∷ drop (k + 1) (visits_of flight)
  unfolding visits_of
  visiting_next = rw (add-one k) (drop-list_of (length flight / visit_length) (visit_at flight) k g.within)

  -- those from there on are a flight too
  visiting_from : FlightLimits R (drop k (visits_of flight))
  visiting_from =
      record {
        visits = rw (length-drop k (visits_of flight), length-visits flight) (omega (arith, length-visits flight, g.limits.visits.high, g.within));
        visit = every_drop (VisitLimits R) k (visits_of flight) g.limits.visit;
      }

-- the visits from index k on are taken, and t is their first stretch
pub record Taken (timed flight col : List ℕ) (all : Bool) (region k : ℕ) (t : Stretch) : Type 0 where
  pub timing : Paying timed
  pub visiting : Visiting (length col) flight k
  pub first : First (constraints_of timed) col all region (drop k (visits_of flight)) t

-- the last visit is taken
pub taken-last : {timed flight col : List ℕ} {all : Bool} {region : ℕ} {v : Stretch} → Paying timed → FlightLimits (length col) (visits_of flight)
    → v ≡ alone col all region (visit_at flight (length flight / visit_length - 1)) → Taken timed flight col all region (length flight / visit_length - 1) v
taken-last {timed} {flight} {col} {all} {region} t l p =
    let g = visiting_last flight l in
    let none = drop_of_length-le (visits_of flight) {i = length flight / visit_length - 1 + 1} (omega (arith, length-visits flight, g.within)) in
    record { timing = t; visiting = g; first = rw (visiting_next g, none, p) (first_alone (constraints_of timed) col all region _) }

module _ {timed flight col : List ℕ} {all : Bool} {region k : ℕ} where
  module _ {t : Stretch} (a : Taken timed flight col all region k t) where
    -- the price of the first stretch and of those after it is the price of the visits taken
    taken-price : price_from (constraints_of timed) t ≡ flight_price (constraints_of timed) col all region (drop k (visits_of flight))
    taken-price = first_price _ _ _ _ a.first

    -- its seconds and that price fit
    pub taken_fits : Fits t
    taken_fits =
        let l = visiting_from a.visiting in (
          first_seconds _ _ _ _ a.first l,
          omega (arith, taken-price, flight_price_bound (constraints_of timed) a.timing.few a.timing.constraint col all region l),
        )

    -- once the first visit is taken that is the price of the flight
    pub taken_end : k ≤ 0 → price_from (constraints_of timed) t ≡ flight_price (constraints_of timed) col all region (visits_of flight)
    taken_end h = let e : k ≡ 0 = omega arith in rw e at taken-price

  module _ {t : Stretch} (a : Taken timed flight col all region (k + 1) t) where
    -- there is a visit before them
    pub taken-before : Visiting (length col) flight k
    taken-before = record { limits = a.visiting.limits; within = omega (arith, a.visiting.within) }

    module _ {v : Stretch} (p : v ≡ alone col all region (visit_at flight k)) where
      -- it is taken: into the first stretch, where it is in its sector
      taken-joined : v.sector ≡ t.sector → Taken timed flight col all region k (joined v t)
      taken-joined e =
          record {
            timing = a.timing;
            visiting = taken-before;
            first = rw (visiting_next taken-before, p) (first_joined _ _ _ _ a.first (visit_at flight k) (rw p at e));
          }

      -- as a stretch of its own, where it is not
      taken-broken : v.sector ≢ t.sector → {after : ℕ} → after ≡ price_from (constraints_of timed) t → Taken timed flight col all region k (broken v after)
      taken-broken ne q =
          record {
            timing = a.timing;
            visiting = taken-before;
            first = rw (visiting_next taken-before, p) (first_broken _ _ _ _ a.first (visit_at flight k) (rw p at ne) q);
          }

      -- one way or the other
      pub taken_turn : {r : Stretch} → r ≡ with_visit (constraints_of timed) v t → Taken timed flight col all region k r
      unfolding with_visit
      taken_turn q =
          rw q (by_eqb v.sector t.sector (Taken timed flight col all region k) (joined v t) (broken v (price_from (constraints_of timed) t)) taken-joined (λ ne. taken-broken ne refl))
