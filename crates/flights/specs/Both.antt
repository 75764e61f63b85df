-- A flight walked once for two colourings: as it is, and with a region given to another sector.
-- Assumes nothing.
use Rattle.std.specs.Prelude.{ℕ, ◌+◌, ◌-◌, ◌/◌, ◌≤◌, ◌<◌, ◌≡◌, List, Bool, ◌&&◌, eqb, length}
use native.Mathlib.Omega.{arith}
use Rattle.std.proofs.Math.Path.{refl}
use Rattle.std.proofs.Common.{sym, ap, ◌∙◌, length-set, get_or-set_same, get_or-set_other}
use Rattle.std.proofs.Math.Bool.{true, false, cond, and-eq-true_iff}
use Rattle.lists.specs.Sums.{In}
use Rattle.lists.specs.Tests.{by_eqb, eqb_both}
use Rattle.meaning.specs.Plan.{Visit, Constraint, visit_length, visit_at, visits_of, constraints_of, FlightLimits}
use Rattle.meaning.specs.Stretches.{sector_of}
use Rattle.meaning.specs.Prices.{price, flight_price}
use Rattle.meaning.specs.Moves.{recolour}
use Rattle.kinds.specs.Constraints.{Paying}
use Rattle.flights.specs.FirstStretch.{alone, joined, broken, price_from, with_visit, Fits, Visiting, visiting_limits, visiting_fits, Taken, taken-last, taken_fits, taken-before, taken_turn, taken_end}
use Rattle.flights.specs.declared.pricing.Stretch.{Stretch}
use Rattle.flights.specs.declared.pricing.Stretches.{Stretches}
use Rattle.flights.specs.declared.pricing.Prices.{Prices}

-- a visit as a stretch of its own, before and after region v is given to sector d
abbrev pub alone_both : List ℕ → ℕ → ℕ → Visit → Stretches
alone_both col v d visit = record { before = alone col true v visit; after = alone (recolour col v d) true v visit }

-- a visit in front of each first stretch
abbrev pub with_both : List Constraint → Stretches → Stretches → Stretches
with_both ks v t = record { before = with_visit ks v.before t.before; after = with_visit ks v.after t.after }

-- both stretches count and fit
pub record Ready (t : Stretches) : Type 0 where
  pub before : Fits t.before
  pub after : Fits t.after
  pub counted : (t.before.counted ≡ true) × (t.after.counted ≡ true)

-- two prices that differ as x and x' do, and are no larger
pub record Differ (x x' : ℕ) (p : Prices) : Type 0 where
  pub sum : x' + p.before ≡ x + p.after
  pub before : p.before ≤ x
  pub after : p.after ≤ x'

-- ---- a visit in front of both

-- they have one sector, and are equally long
abbrev pub alike : Stretches → Bool
alike t = eqb t.before.sector t.after.sector && eqb t.before.seconds t.after.seconds

-- a visit in front of stretches that are alike: where one ends it is not priced
abbrev carried : Stretches → Stretches → Stretches
carried v t =
    let seconds = v.before.seconds + cond (eqb v.before.sector t.before.sector) t.before.seconds 0 in
    record {
      before = record { sector = v.before.sector; seconds = seconds; counted = true; after = t.before.after };
      after = record { sector = v.before.sector; seconds = seconds; counted = true; after = t.after.after };
    }

-- a visit in front of both, as it is walked
unfoldable pub walked : List Constraint → Stretches → Stretches → Stretches
walked ks v t = cond (alike v && alike t) (carried v t) (with_both ks v t)

module _ (ks : List Constraint) (v t : Stretches) {x y : Bool} (p : x ≡ alike v) (q : y ≡ alike t) where
  -- so it is where they are alike
  pub walked-alike : x && y ≡ true → {seconds : ℕ} → seconds ≡ v.before.seconds + cond (eqb v.before.sector t.before.sector) t.before.seconds 0
      → record {
        before = record { sector = v.before.sector; seconds = seconds; counted = true; after = t.before.after };
        after = record { sector = v.before.sector; seconds = seconds; counted = true; after = t.after.after };
      } ≡ walked ks v t
  unfolding walked
  walked-alike h e = rw (e, rw (p, q) at h)

  -- and where they are not
  pub walked_apart : x && y ≡ false → {b a : Stretch} → b ≡ with_visit ks v.before t.before → a ≡ with_visit ks v.after t.after → record { before = b; after = a } ≡ walked ks v t
  unfolding walked
  walked_apart h e f = rw (e, f, rw (p, q) at h)

-- t has the stretches of e, with prices that differ as those of e do
pub record Like (t e : Stretches) : Type 0 where
  pub sector : (t.before.sector ≡ e.before.sector) × (t.after.sector ≡ e.after.sector)
  pub seconds : (t.before.seconds ≡ e.before.seconds) × (t.after.seconds ≡ e.after.seconds)
  pub counted : (t.before.counted ≡ true) × (t.after.counted ≡ true)
  pub sum : e.after.after + t.before.after ≡ e.before.after + t.after.after
  pub before : t.before.after ≤ e.before.after
  pub after : t.after.after ≤ e.after.after

-- at first they are the same
pub like_self : (t : Stretches) → Ready t → Like t t
like_self t r = record { sector = (refl, refl); seconds = (refl, refl); counted = r.counted; sum = omega arith; before = omega arith; after = omega arith }

module _ (ks : List Constraint) (v t : Stretch) (c : t.counted ≡ true) where
  -- what a visit in front leaves of the sector
  with_sector : (with_visit ks v t).sector ≡ v.sector
  unfolding with_visit
  with_sector = go (eqb v.sector t.sector)
    where
      go : (b : Bool) → (cond b (joined v t) (broken v (price_from ks t))).sector ≡ v.sector
      go true = refl
      go false = refl

  -- of the seconds
  with_seconds : (with_visit ks v t).seconds ≡ v.seconds + cond (eqb v.sector t.sector) t.seconds 0
  unfolding with_visit
  with_seconds = go (eqb v.sector t.sector)
    where
      go : (b : Bool) → (cond b (joined v t) (broken v (price_from ks t))).seconds ≡ v.seconds + cond b t.seconds 0
      go true = refl
      go false = omega arith

  -- and of the price of those after it: a stretch that ends adds its own
  with_after : (with_visit ks v t).after ≡ t.after + cond (eqb v.sector t.sector) 0 (price ks t.seconds)
  unfolding with_visit
  with_after = go (eqb v.sector t.sector)
    where
      go : (b : Bool) → (cond b (joined v t) (broken v (price_from ks t))).after ≡ t.after + cond b 0 (price ks t.seconds)
      go true = omega arith
      go false = rw c

  -- it counts
  with_counted : v.counted ≡ true → (with_visit ks v t).counted ≡ true
  unfolding with_visit
  with_counted d = go (eqb v.sector t.sector)
    where
      go : (b : Bool) → (cond b (joined v t) (broken v (price_from ks t))).counted ≡ true
      go true = rw d
      go false = d

-- ---- and what that leaves

module _ (ks : List Constraint) {t e : Stretches} (v : Stretches) (l : Like t e) (r : Ready e) (w : Ready v) (same : v.before.seconds ≡ v.after.seconds) where
  -- of the seconds
  seconds_before : v.before.seconds + cond (eqb v.before.sector t.before.sector) t.before.seconds 0 ≡ (with_both ks v e).before.seconds
  seconds_before = rw (l.sector.0, l.seconds.0) (sym (with_seconds ks v.before e.before r.counted.0))

  seconds_after : v.after.seconds + cond (eqb v.after.sector t.after.sector) t.after.seconds 0 ≡ (with_both ks v e).after.seconds
  seconds_after = rw (l.sector.1, l.seconds.1) (sym (with_seconds ks v.after e.after r.counted.1))

  -- of the prices, where both are priced
  priced_before : (with_both ks v t).before.after ≡ t.before.after + cond (eqb v.before.sector e.before.sector) 0 (price ks e.before.seconds)
  priced_before = rw (← l.sector.0, ← l.seconds.0) (with_after ks v.before t.before l.counted.0)

  priced_after : (with_both ks v t).after.after ≡ t.after.after + cond (eqb v.after.sector e.after.sector) 0 (price ks e.after.seconds)
  priced_after = rw (← l.sector.1, ← l.seconds.1) (with_after ks v.after t.after l.counted.1)

  -- the prices differ as they did
  like_with : Like (with_both ks v t) (with_both ks v e)
  like_with =
      let x = with_after ks v.before e.before r.counted.0 in
      let y = with_after ks v.after e.after r.counted.1 in
      record {
        sector = (
          with_sector ks v.before t.before l.counted.0 ∙ sym (with_sector ks v.before e.before r.counted.0),
          with_sector ks v.after t.after l.counted.1 ∙ sym (with_sector ks v.after e.after r.counted.1),
        );
        seconds = (
          with_seconds ks v.before t.before l.counted.0 ∙ seconds_before,
          with_seconds ks v.after t.after l.counted.1 ∙ seconds_after,
        );
        counted = (with_counted ks v.before t.before l.counted.0 w.counted.0, with_counted ks v.after t.after l.counted.1 w.counted.1);
        sum = omega (arith, x, y, priced_before, priced_after, l.sum);
        before = omega (arith, x, priced_before, l.before);
        after = omega (arith, y, priced_after, l.after);
      }

  -- and so they do where neither is priced, and both would cost the same
  like_carried : alike v && alike t ≡ true → Like (carried v t) (with_both ks v e)
  like_carried h =
      let a = (and-eq-true_iff (alike v) (alike t)).0 h in
      let p = ((eqb_both v.before.sector v.after.sector v.before.seconds v.after.seconds).0 a.0).0 in
      let q = (eqb_both t.before.sector t.after.sector t.before.seconds t.after.seconds).0 a.1 in
      let x = with_after ks v.before e.before r.counted.0 in
      let y = with_after ks v.after e.after r.counted.1 in
      let one : cond (eqb v.after.sector e.after.sector) 0 (price ks e.after.seconds) ≡ cond (eqb v.before.sector e.before.sector) 0 (price ks e.before.seconds) =
      rw (← p, ← l.sector.1, ← q.0, l.sector.0, ← l.seconds.1, ← q.1, l.seconds.0) in
      record {
        sector = (
          sym (with_sector ks v.before e.before r.counted.0),
          p ∙ sym (with_sector ks v.after e.after r.counted.1),
        );
        seconds = (seconds_before, rw (same, p, q.0, q.1) seconds_after);
        counted = (refl, refl);
        sum = omega (arith, x, y, one, l.sum);
        before = omega (arith, x, l.before);
        after = omega (arith, y, l.after);
      }

  -- so they do once the visit is in front of both
  pub like_walked : Like (walked ks v t) (with_both ks v e)
  unfolding walked
  like_walked = go (alike v && alike t) refl
    where
      go : (b : Bool) → alike v && alike t ≡ b → Like (cond b (carried v t) (with_both ks v t)) (with_both ks v e)
      go true h = like_carried h
      go false h = like_with

-- ---- the sectors after the move

-- a region has the sector that it is given, and the others have theirs
sector-given : (col : List ℕ) (v d : ℕ) (visit : Visit) → In (length col) v → In (length col) visit.region → cond (eqb visit.region v) d (sector_of col visit) ≡ sector_of (recolour col v d) visit
sector-given col v d visit i l =
    by_eqb visit.region v (λ s. s ≡ sector_of (recolour col v d) visit) d (sector_of col visit)
    (λ e. rw e (sym (get_or-set_same col (v - 1) d 0 (omega (arith, i)))))
    (λ n. sym (get_or-set_other col (v - 1) (visit.region - 1) d 0 (λ e. n (omega (arith, i.low, l.low)))))

-- so the stretch of a visit alone has another sector at most
pub visiting_given : (col : List ℕ) {flight : List ℕ} {k : ℕ} (v d : ℕ) {s : Stretch} {given : ℕ} → Visiting (length col) flight k → In (length col) v → s ≡ alone col true v (visit_at flight k)
    → given ≡ cond (eqb (visit_at flight k).region v) d s.sector
    → record { before = s; after = record { sector = given; seconds = s.seconds; counted = true; after = 0 } } ≡ alone_both col v d (visit_at flight k)
visiting_given col {flight} {k} v d g i p q =
    rw (q, p, sector-given col v d (visit_at flight k) i (visiting_limits g).region)

-- ---- the visits from the last to the first

-- the visits from index k on are taken by both colourings, and t is walked beside their first stretches
pub record Walked (timed flight col : List ℕ) (v d k : ℕ) (t : Stretches) : Type 0 where
  pub first : Stretches
  pub before : Taken timed flight col true v k first.before
  pub after : Taken timed flight (recolour col v d) true v k first.after
  pub like : Like t first

module _ {timed flight col : List ℕ} {v d : ℕ} where
  -- the last visit is taken
  pub walked-last : {t : Stretches} → Paying timed → FlightLimits (length col) (visits_of flight)
      → t ≡ alone_both col v d (visit_at flight (length flight / visit_length - 1)) → Walked timed flight col v d (length flight / visit_length - 1) t
  walked-last {t} x l p =
      let b : Taken timed flight col true v (length flight / visit_length - 1) t.before = taken-last x l (ap (λ s. s.before) p) in
      let a : Taken timed flight (recolour col v d) true v (length flight / visit_length - 1) t.after = taken-last x (rw (length-set col (v - 1) d) l) (ap (λ s. s.after) p) in
      record { first = t; before = b; after = a; like = like_self t (record { before = taken_fits b; after = taken_fits a; counted = (b.first.counted, a.first.counted) }) }

  module _ {k : ℕ} {t : Stretches} (a : Walked timed flight col v d k t) where
    -- the first stretches are ready
    first_ready : Ready a.first
    first_ready = record { before = taken_fits a.before; after = taken_fits a.after; counted = (a.before.first.counted, a.after.first.counted) }

    -- and so are those that are walked
    pub walked_ready : Ready t
    walked_ready =
        let l = a.like in
        let f = first_ready in
        record {
          before = (rw l.seconds.0 f.before.0, omega (arith, l.before, f.before.1));
          after = (rw l.seconds.1 f.after.0, omega (arith, l.after, f.after.1));
          counted = l.counted;
        }

    -- once the first visit is taken the prices differ as those of the flight do
    pub walked_end : k ≤ 0 → {b c : ℕ} → b ≡ price_from (constraints_of timed) t.before → c ≡ price_from (constraints_of timed) t.after
        → Differ (flight_price (constraints_of timed) col true v (visits_of flight)) (flight_price (constraints_of timed) (recolour col v d) true v (visits_of flight)) (record { before = b; after = c })
    walked_end h p q =
        let l = a.like in
        let f = first_ready in
        let x = rw f.counted.0 at (taken_end a.before h) in
        let y = rw f.counted.1 at (taken_end a.after h) in
        let b = rw (l.counted.0, l.seconds.0) at p in
        let c = rw (l.counted.1, l.seconds.1) at q in
        record {
          sum = omega (arith, x, y, b, c, l.sum);
          before = omega (arith, x, b, l.before);
          after = omega (arith, y, c, l.after);
        }

    module _ (h : 0 < k) where
      -- the visit before them is at the index before
      index : k - 1 + 1 ≡ k
      index = omega arith

      before-next : Taken timed flight col true v (k - 1 + 1) a.first.before
      before-next = rw index a.before

      after_next : Taken timed flight (recolour col v d) true v (k - 1 + 1) a.first.after
      after_next = rw index a.after

      -- it is there
      pub walked-before : Visiting (length col) flight (k - 1)
      walked-before = taken-before before-next

      module _ {w : Stretches} (p : w ≡ alone_both col v d (visit_at flight (k - 1))) where
        -- it is ready
        pub walked_visit : Ready w
        walked_visit = rw p (record { before = visiting_fits walked-before; after = visiting_fits walked-before; counted = (refl, refl) })

        -- it is taken
        pub walked_turn : {r : Stretches} → r ≡ walked (constraints_of timed) w t → Walked timed flight col v d (k - 1) r
        walked_turn q =
            record {
              first = with_both (constraints_of timed) w a.first;
              before = taken_turn before-next (ap (λ s. s.before) p) refl;
              after = taken_turn after_next (ap (λ s. s.after) p) refl;
              like = rw q (like_walked (constraints_of timed) w a.like first_ready walked_visit (rw p));
            }
