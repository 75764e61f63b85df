-- Hops are put down as a flat list: those of a flight a visit at a time, and all of them a flight at a time.
-- Assumes nothing.
use Prim.Native.Nat.{ℕ, suc, ◌+◌, ◌*◌, ◌/◌, ◌≤◌, ◌<◌}
use Rattle.std.proofs.Common.{add-zero, ap, ◌∙◌, take_at}
use Rattle.std.proofs.Math.Numerals.{add-one}
use native.Mathlib.Omega.{arith}
use Rattle.std.specs.Prelude.{◌≡◌, refl, List, map, get_or, set, take, drop}
use Rattle.std.proofs.Math.ListN.{length, length-set, drop_of_length-le}
use Rattle.std.proofs.lemmas.List.{length-map}
use Rattle.std.proofs.lemmas.List.Edits.{sets}
use Rattle.std.proofs.Math.Seq.{sets-eq, length-sets}
use Rattle.lists.specs.SumLaws.{few_bound, every_turn}
use Rattle.lists.specs.ListLaws.{sets_append, drop-list_of}
use Rattle.meaning.specs.Plan.{Visit, edge_length, visit_length, visit_at, visits_of, most_flights, most_visits}
use Rattle.flights.specs.Flying.{Flying}
use Rattle.flights.specs.FirstStretch.{length-visits}
use Rattle.visitors.specs.Flat.{flat, length-flat, flat_append}
use Rattle.visitors.specs.Hops.{hop, hops, hops_of}
use Rattle.visitors.specs.Left.{numbers_from, flight_from, Left, left-all, left-next, left-numbers, left-length, left_fits}
use Rattle.visitors.specs.HopLaws.{length-hops, hops_from, hops-next}

-- ---- one flight

-- the hops of a flight whose first visit is the one at index p are put down, each at the index of its visit
abbrev pub lay_flight : ℕ → ℕ → List Visit → List ℕ → List ℕ
lay_flight number p vs out = sets out (edge_length * p) (flat (map (hop number p) vs))

-- the hops of its first k visits are put down: with the others put down from there on, all are
pub record FlightLaid (number p : ℕ) (flight out₀ : List ℕ) (k : ℕ) (out : List ℕ) : Type 0 where
  pub size : length out ≡ length out₀
  pub rest : sets out (edge_length * (p + k)) (flat (map (hop number p) (drop k (visits_of flight)))) ≡ lay_flight number p (visits_of flight) out₀

module _ {number p : ℕ} {flight out₀ : List ℕ} where
  -- before the first visit none is
  pub flight_start : FlightLaid number p flight out₀ 0 out₀
  flight_start = record { size = refl; rest = rw (add-zero p) }

  module _ {k : ℕ} {out : List ℕ} (l : FlightLaid number p flight out₀ k out) where
    -- the next hop is put down
    pub flight_turn : k < length flight / visit_length
        → let i = edge_length * (p + k) in FlightLaid number p flight out₀ (k + 1) (set (set (set out i (visit_at flight k).region) (i + 1) number) (i + 2) p)
    unfolding visits_of flat
    flight_turn h =
        let i = edge_length * (p + k) in
        let two : i + 2 ≡ suc (suc i) = omega arith in
        let three : edge_length * (p + (k + 1)) ≡ suc (suc (suc i)) = omega arith in
        record {
          size = simp length-set l.size;
          rest = rw (three, two, add-one i, add-one k) (rw (drop-list_of (length flight / visit_length) (visit_at flight) k h) at l.rest);
        }

    -- past the last visit all are
    pub flight_end : length flight / visit_length ≤ k → out ≡ lay_flight number p (visits_of flight) out₀
    unfolding flat
    flight_end h =
        let past : length (visits_of flight) ≤ k = rw (length-visits flight) h in
        rw (drop_of_length-le (visits_of flight) past) at l.rest

-- ---- all flights

-- there is room for the hops of all flights
abbrev pub Room : List ℕ → Type 0
Room out = edge_length * (most_flights * most_visits) ≤ length out

-- there are no more visits than all flights may have
flying_few : {R : ℕ} {counts visits : List ℕ} → Flying R counts visits → length visits ≤ visit_length * (most_flights * most_visits)
flying_few {counts = counts} f = omega (arith, f.size, few_bound most_flights most_visits counts (λ n. n) f.few (every_turn (λ n i. i.high) counts f.count))

-- the hops of the flights before index k, which have p visits, are put down: with the others put down from there on, all are
pub record FlightsLaid (R : ℕ) (counts visits out₀ : List ℕ) (k p : ℕ) (out : List ℕ) : Type 0 where
  pub flying : Flying R counts visits
  pub room : Room out₀
  pub left : Left R counts visits k p
  pub size : length out ≡ length out₀
  pub rest : sets out (edge_length * p) (flat (hops_from R counts visits k p)) ≡ sets out₀ 0 (flat (hops_of R counts visits))

-- the first n numbers of out are the hops of all flights
pub record Laid (R : ℕ) (counts visits : List ℕ) (n : ℕ) (out : List ℕ) : Type 0 where
  pub fits : n ≤ length out
  pub front : take n out ≡ flat (hops_of R counts visits)

module _ {R : ℕ} {counts visits out₀ : List ℕ} where
  -- before the first flight none is
  pub flights_start : Flying R counts visits → Room out₀ → FlightsLaid R counts visits out₀ 0 0 out₀
  flights_start f r = record { flying = f; room = r; left = left-all f; size = refl; rest = rw (add-zero R) }

  module _ {k p : ℕ} {out : List ℕ} (l : FlightsLaid R counts visits out₀ k p out) where
    module _ (h : k < length counts) where
      -- the next flight's visits are there
      pub flights_visits : visit_length * (p + get_or counts k 0) ≤ length visits
      flights_visits = left_fits l.left h

      -- and there is room for its hops
      pub flights_room : edge_length * (p + length (numbers_from counts visits k p) / visit_length) ≤ length out
      flights_room = omega (arith, flying_few l.flying, flights_visits, left-numbers l.left h, l.size, l.room)

      -- they are put down
      pub flights_turn : {out' : List ℕ} → out' ≡ lay_flight (R + k + 1) p (flight_from counts visits k p) out
          → FlightsLaid R counts visits out₀ (k + 1) (p + get_or counts k 0) out'
      flights_turn e =
          let flight = flight_from counts visits k p in
          let new = map (hop (R + k + 1) p) flight in
          let next : edge_length * (p + get_or counts k 0) ≡ edge_length * p + length (flat new) =
          omega (arith, length-flat new, length-map flight (hop (R + k + 1) p), left-length l.left h) in
          record {
            flying = l.flying;
            room = l.room;
            left = left-next l.left h;
            size = ap length e ∙ length-sets out (edge_length * p) (flat new) ∙ l.size;
            rest = rw (e, next, ← sets_append out (edge_length * p) (flat new), ← flat_append new) (rw (hops-next l.left h) at l.rest);
          }

    -- past the last flight all are put down
    pub flights_end : length counts ≤ k → Laid R counts visits (edge_length * p) out
    unfolding hops flat
    flights_end h =
        let none = drop_of_length-le counts h in
        let all = flat (hops_of R counts visits) in
        let visited : length visits ≡ visit_length * p = omega (arith, rw none at l.left.size) in
        let size : length all ≡ edge_length * p = omega (arith, length-flat (hops_of R counts visits), length-hops R 0 counts visits l.flying, l.flying.size) in
        let fits : edge_length * p ≤ length out₀ = omega (arith, flying_few l.flying, l.room) in
        record {
          fits = rw l.size fits;
          front = rw (rw none at l.rest, sets-eq all out₀ 0 (omega arith)) (take_at all _ (edge_length * p) size);
        }
