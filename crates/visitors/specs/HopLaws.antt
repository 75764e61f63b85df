-- The hops of the flights: how many there are, and where each leads.
-- Assumes nothing.
use Rattle.std.specs.Prelude.{ℕ, zero, suc, ◌+◌, ◌-◌, ◌*◌, ◌≤◌, ◌<◌, ◌≡◌, refl, List, [], ◌∷◌, ◌++◌, map, length, get_or, take, drop}
use Rattle.std.proofs.Common.{add-zero, ◌∙◌, length-append, drop_of_length-le, drop-cons}
use Rattle.std.proofs.Math.Numerals.{add-one}
use native.Mathlib.Omega.{arith}
use Rattle.std.proofs.lemmas.List.{length-map}
use Rattle.lists.specs.Sums.{In, sum, Every}
use Rattle.lists.specs.SumLaws.{every_turn, every_append, every_map}
use Rattle.meaning.specs.Plan.{Edge, Visit, visit_length, visits_of, VisitLimits, FlightLimits}
use Rattle.meaning.specs.Paths.{Ends}
use Rattle.flights.specs.Flying.{Flying}
use Rattle.flights.specs.FirstStretch.{length-visits}
use Rattle.flights.specs.Priced.{flying_rest}
use Rattle.visitors.specs.Hops.{hop, hops, hops_of}
use Rattle.visitors.specs.Left.{flight_from, length-numbers, Left, left-all, left-next, left_fits, left-limits, drop-visits, take-visits}

-- each visit is a hop
pub length-hops : {R : ℕ} (m p : ℕ) (counts visits : List ℕ) → Flying R counts visits → length (hops m p counts visits) ≡ sum counts (λ n. n)
unfolding hops
length-hops m p [] visits f = refl
length-hops m p (n ∷ counts) visits f =
    let numbers = take (visit_length * n) visits in
    length-append (map (hop (m + 1) p) (visits_of numbers)) _
    ∙ omega (arith, length-map (visits_of numbers) (hop (m + 1) p), length-visits numbers, length-numbers f, length-hops (m + 1) (p + n) counts (drop (visit_length * n) visits) (flying_rest f))

-- ---- from a flight on

-- the hops of the flights that are left
abbrev pub hops_from : ℕ → List ℕ → List ℕ → ℕ → ℕ → List Edge
hops_from R counts visits k p = hops (R + k) p (drop k counts) (drop (visit_length * p) visits)

-- a flight has the number, and its first visit the index p
pub record Numbered (R : ℕ) (counts visits : List ℕ) (number p : ℕ) : Type 0 where
  pub above : R < number
  pub below : number ≤ R + length counts
  pub fits : visit_length * (p + get_or counts (number - R - 1) 0) ≤ length visits
  pub limits : FlightLimits R (flight_from counts visits (number - R - 1) p)

-- a hop is from a region to a flight
pub record HopLimits (R : ℕ) (counts visits : List ℕ) (e : Edge) : Type 0 where
  pub region : In R e.a
  pub flight : Numbered R counts visits e.b e.area

module _ {R : ℕ} {counts visits : List ℕ} {k p : ℕ} (l : Left R counts visits k p) (h : k < length counts) where
  -- the hops of the first flight that is left, and those of the others
  pub hops-next : hops_from R counts visits k p ≡ map (hop (R + k + 1) p) (flight_from counts visits k p) ++ hops_from R counts visits (k + 1) (p + get_or counts k 0)
  unfolding hops
  hops-next =
      let e : R + k + 1 ≡ R + (k + 1) = omega arith in
      rw (drop-cons counts k 0 h, drop-visits, e, add-one k, take-visits)

  -- that flight has its number
  left_numbered : Numbered R counts visits (R + k + 1) p
  left_numbered =
      let e : R + k + 1 - R - 1 ≡ k = omega arith in
      record {
        above = omega arith;
        below = omega arith;
        fits = rw e (left_fits l h);
        limits = rw e (left-limits l h);
      }

  -- each of its hops leads to it
  left-hops : Every (HopLimits R counts visits) (map (hop (R + k + 1) p) (flight_from counts visits k p))
  left-hops =
      every_map (HopLimits R counts visits) (hop (R + k + 1) p) (flight_from counts visits k p)
      (every_turn (λ v q. leads v q) (flight_from counts visits k p) (left-limits l h).visit)
    where
      leads : (v : Visit) → VisitLimits R v → HopLimits R counts visits (hop (R + k + 1) p v)
      leads v q = record { region = q.region; flight = left_numbered }

-- each hop of the i flights that are left is from a region to a flight
each_left : {R : ℕ} {counts visits : List ℕ} (i : ℕ) {k p : ℕ} → k + i ≡ length counts → Left R counts visits k p
    → Every (HopLimits R counts visits) (hops_from R counts visits k p)
unfolding hops
each_left {counts = counts} zero {k} e l = let h : length counts ≤ k = omega arith in rw (drop_of_length-le counts h) tt
each_left {R} {counts} {visits} (suc i) {k} {p} e l =
    let h : k < length counts = omega arith in
    rw (hops-next l h)
    (every_append (HopLimits R counts visits) (map (hop (R + k + 1) p) (flight_from counts visits k p)) (hops_from R counts visits (k + 1) (p + get_or counts k 0))
    (left-hops l h) (each_left i (omega arith) (left-next l h)))

-- so is each hop of all
pub each-hop : {R : ℕ} {counts visits : List ℕ} → Flying R counts visits → Every (HopLimits R counts visits) (hops_of R counts visits)
each-hop {R} {counts} f = rw (add-zero R) at (each_left (length counts) (omega arith) (left-all f))

-- regions and flights together are the ends of the hops
pub hops_ends : {R : ℕ} {counts visits : List ℕ} → Flying R counts visits → Ends (R + length counts) (hops_of R counts visits)
hops_ends {R} {counts} {visits} f = every_turn (λ e h. omega arith) (hops_of R counts visits) (each-hop f)
