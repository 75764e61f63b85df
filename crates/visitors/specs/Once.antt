-- Of the hops at a region those of one flight stand one after the other: where the first of them alone counts, each flight that visits the region counts once.
-- Assumes nothing.
use Prim.Native.Nat.{ℕ, zero, suc, ◌+◌, ◌-◌, ◌≤◌, ◌<◌}
use Rattle.std.proofs.Common.{le_refl, add-zero, ◌∙◌, eq-eqb, ne_eqb, drop_of_length-le}
use native.Mathlib.Omega.{arith}
use Rattle.std.specs.Prelude.{◌≡◌, refl, Bool, ◌||◌, eqb}
use mathlib.Core.List.{List, [], ◌∷◌, ◌++◌, map}
use Rattle.std.proofs.Math.Bool.{true, false, cond}
use Rattle.std.proofs.Math.ListN.{length, get_or}
use Rattle.lists.specs.Sums.{sum}
use Rattle.meaning.specs.Plan.{Edge, Visit, flights_of}
use Rattle.meaning.specs.Stretches.{visits}
use Rattle.flights.specs.Flying.{Flying}
use Rattle.visitors.specs.Hops.{hop, hops, hops_of, hops_at}
use Rattle.visitors.specs.Left.{flights_from, flight_from, Left, left-all, left-next, flights_next}
use Rattle.visitors.specs.HopLaws.{hops_from, hops-next}

-- what f makes of hops after one of flight `last`, added up; a hop counts where its flight is not that of the hop before it
unfoldable pub once : (ℕ → ℕ → ℕ) → ℕ → List Edge → ℕ
once f last [] = 0
once f last (e ∷ es) = cond (eqb e.b last) 0 (f e.b e.area) + once f e.b es

-- the hops of flight m before those of flights with higher numbers, which come to t
module _ (f : ℕ → ℕ → ℕ) (v m p t : ℕ) (es : List Edge) (rest : (last : ℕ) → last ≤ m → once f last (hops_at v es) ≡ t) where
  -- once the flight is counted, no hop of it counts
  counted : (vs : List Visit) → once f m (hops_at v (map (hop m p) vs ++ es)) ≡ t
  unfolding hops_at once
  counted [] = rest m (le_refl m)
  counted (u ∷ vs) = go (eqb u.region v) (counted vs)
    where
      go : (s : Bool) → once f m (hops_at v (map (hop m p) vs ++ es)) ≡ t
          → once f m (cond s (hop m p u ∷ hops_at v (map (hop m p) vs ++ es)) (hops_at v (map (hop m p) vs ++ es))) ≡ t
      go true r = rw (eq-eqb m m refl) (omega arith)
      go false r = r

  -- before that it counts where it visits v
  uncounted : (last : ℕ) → last < m → (vs : List Visit) → once f last (hops_at v (map (hop m p) vs ++ es)) ≡ cond (visits v vs) (f m p) 0 + t
  unfolding hops_at once visits
  uncounted last h [] = rest last (omega arith) ∙ omega arith
  uncounted last h (u ∷ vs) = go (eqb u.region v) (uncounted last h vs)
    where
      go : (s : Bool) → once f last (hops_at v (map (hop m p) vs ++ es)) ≡ cond (visits v vs) (f m p) 0 + t
          → once f last (cond s (hop m p u ∷ hops_at v (map (hop m p) vs ++ es)) (hops_at v (map (hop m p) vs ++ es))) ≡ cond (s || visits v vs) (f m p) 0 + t
      go true r = rw (ne_eqb m last (λ z. omega arith)) (omega (arith, counted vs))
      go false r = r

module _ (R : ℕ) (counts visitsGiven : List ℕ) (g : List Visit → ℕ) (v : ℕ) where
  -- what g makes of the flight with a number
  abbrev of_flight : ℕ → ℕ → ℕ
  of_flight number p = g (flight_from counts visitsGiven (number - R - 1) p)

  -- what it makes of a flight, where it visits v
  abbrev of_visitor : List Visit → ℕ
  of_visitor flight = cond (visits v flight) (g flight) 0

  -- the hops of the i flights that are left
  once-left : (i : ℕ) {k p : ℕ} → k + i ≡ length counts → Left R counts visitsGiven k p → (last : ℕ) → last ≤ R + k
      → once of_flight last (hops_at v (hops_from R counts visitsGiven k p)) ≡ sum (flights_from counts visitsGiven k p) of_visitor
  unfolding hops flights_of hops_at once
  once-left zero {k} e l last h = let b : length counts ≤ k = omega arith in rw (drop_of_length-le counts b)
  once-left (suc i) {k} {p} e l last h =
      let b : k < length counts = omega arith in
      let n : R + k + 1 - R - 1 ≡ k = omega arith in
      rw (hops-next l b, flights_next l b)
      (uncounted of_flight v (R + k + 1) p (sum (flights_from counts visitsGiven (k + 1) (p + get_or counts k 0)) of_visitor) (hops_from R counts visitsGiven (k + 1) (p + get_or counts k 0))
      (λ last' h'. once-left i (omega arith) (left-next l b) last' (omega arith))
      last (omega arith) (flight_from counts visitsGiven k p)
      ∙ rw n)

  -- the hops of all flights: g of each flight that visits v
  pub once-each : Flying R counts visitsGiven → once of_flight 0 (hops_at v (hops_of R counts visitsGiven)) ≡ sum (flights_of counts visitsGiven) of_visitor
  once-each f = rw (add-zero R) at (once-left (length counts) (omega arith) (left-all f) 0 (omega arith))
