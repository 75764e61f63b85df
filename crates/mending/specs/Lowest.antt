-- Document 02, C-21: the neighbour whose sector a lost region is given is the lowest-numbered one whose sector survived.
-- Assumes nothing.
use Rattle.std.specs.Prelude.{ℕ, ◌-◌, ◌≤◌, ◌<◌, ◌≡◌, refl, ◌≢◌, ◌↔◌, Bool, true, false, not, ◌&&◌, ◌||◌, List, [], ◌∷◌, eqb, length, get_or}
use Rattle.std.proofs.Math.Decide.{ℕ_discrete, dec_le}
use Rattle.std.proofs.Common.{arith, sym, ◌∙◌, inl, inr, ⊎_elim, ne_eqb}
use Rattle.std.proofs.Math.Bool.{and-eq-true_iff, and-false}
use Rattle.std.proofs.lemmas.Bool.{false≢true, eqb-false, not-true}
use mathlib.Mathlib.Data.Bool.Basic.{or_inl, or_inr}
use Rattle.std.proofs.Math.ListN.{get_or-eq_default}
use Rattle.lists.specs.Sums.{In, at, up_to, passing}
use Rattle.lists.specs.Tests.{or_cases, eqb_both}
use Rattle.lists.specs.Among.{Among, among_none, among_first, among_cases, among_every, Rising, rising_up_to}
use Rattle.lists.specs.Passing.{passing-up_to, passing_rising}
use Rattle.meaning.specs.Plan.{Edge}
use Rattle.meaning.specs.Joined.{Neighbours}
use Rattle.meaning.specs.Kinds.{leads_to}
use Rattle.mending.specs.Mended.{is_lost, joins, beside_kept, lowest_beside}

-- ---- the lowest number that passes a test

-- w is the lowest number from 1 on that passes a test, and 0 where none does
pub record Lowest (test : ℕ → Bool) (w : ℕ) : Type 0 where
  -- it passes, unless it is 0
  pub passes : w ≢ 0 → test w ≡ true
  -- where some number passes, it is one of 1 up to that number
  pub least : (u : ℕ) → 1 ≤ u → test u ≡ true → In u w

-- there is only one
pub lowest_unique : {test : ℕ → Bool} {w w' : ℕ} → Lowest test w → Lowest test w' → w ≡ w'
lowest_unique {test} {w} {w'} p q = go (ℕ_discrete w 0) (ℕ_discrete w' 0)
  where
    go : Dec (w ≡ 0) → Dec (w' ≡ 0) → w ≡ w'
    go (yes e) (yes f) = omega arith
    go (yes e) (no n) = omega (arith, p.least w' (omega arith) (q.passes n))
    go (no n) (yes f) = omega (arith, q.least w (omega arith) (p.passes n))
    go (no n) (no m) = omega (arith, q.least w (omega arith) (p.passes n), p.least w' (omega arith) (q.passes m))

-- the first of those of 1..n that pass is the lowest, where no number above n passes
first_lowest : (test : ℕ → Bool) (n : ℕ) → ((u : ℕ) → n < u → test u ≡ false) → Lowest test (get_or (passing test (up_to n)) 0 0)
first_lowest test n past = go (passing test (up_to n)) (passing_rising test (up_to n) (rising_up_to n)) (passing-up_to test n)
  where
    inside : (u : ℕ) → 1 ≤ u → test u ≡ true → Dec (u ≤ n) → In n u
    inside u low t (yes h) = record { low = low; high = h }
    inside u low t (no h) = absurd (false≢true (sym (past u (omega arith)) ∙ t))

    go : (l : List ℕ) → Rising l → ((u : ℕ) → Among l u ↔ (In n u × (test u ≡ true))) → Lowest test (get_or l 0 0)
    go [] r is =
        record { passes = λ z. absurd (z refl); least = λ u low t. absurd (among_none ((is u).1 (inside u low t (dec_le u n), t))) }
    go (w ∷ ws) r is =
        let own = (is w).0 among_first in
        record {
          passes = λ z. own.1;
          least =
              λ u low t.
              ⊎_elim (λ e. record { low = omega arith; high = omega arith })
              (λ m. let b = among_every (λ y. w < y) ws r.0 m in record { low = own.0.low; high = omega arith })
              (among_cases ((is u).1 (inside u low t (dec_le u n), t)));
        }

-- ---- the lowest neighbour

-- two regions are the ends of some edge exactly where they are neighbours
pub joins_neighbours : (edges : List Edge) (v w : ℕ) → (joins edges v w ≡ true) ↔ Neighbours edges v w
unfolding joins leads_to
joins_neighbours [] v w = (λ h. false≢true h, λ n. absurd n)
joins_neighbours (e ∷ es) v w = (there (joins_neighbours es v w).0, back (joins_neighbours es v w).1)
  where
    first : Bool
    first = eqb e.a v && eqb w e.b

    second : Bool
    second = eqb e.b v && eqb w e.a

    there : (joins es v w ≡ true → Neighbours es v w) → (first || second) || joins es v w ≡ true → Neighbours (e ∷ es) v w
    there later h =
        ⊎_elim (λ k.
        ⊎_elim (λ t. let q = (eqb_both e.a v w e.b).0 t in inl (sym q.0, q.1))
        (λ t. let q = (eqb_both e.b v w e.a).0 t in inr (inl (sym q.0, q.1)))
        (or_cases first second k))
        (λ t. inr (inr (later t)))
        (or_cases (first || second) (joins es v w) h)

    back : (Neighbours es v w → joins es v w ≡ true) → Neighbours (e ∷ es) v w → (first || second) || joins es v w ≡ true
    back later (inl q) =
        or_inl (first || second) (joins es v w) (or_inl first second ((eqb_both e.a v w e.b).1 (sym q.0, q.1)))
    back later (inr (inl q)) =
        or_inl (first || second) (joins es v w) (or_inr first second ((eqb_both e.b v w e.a).1 (sym q.0, q.1)))
    back later (inr (inr n)) = or_inr (first || second) (joins es v w) (later n)

-- w is the lowest-numbered neighbour of v whose sector survived, and 0 where there is none
pub record LowestNeighbour (edges : List Edge) (col : List ℕ) (v w : ℕ) : Type 0 where
  -- unless it is 0, it is a region,
  pub region : w ≢ 0 → In (length col) w
  -- a neighbour of v,
  pub neighbour : w ≢ 0 → Neighbours edges v w
  -- and its sector survived
  pub kept : w ≢ 0 → at col w ≢ 0
  -- where a neighbour's sector survived, it is one of the regions from 1 up to that neighbour
  pub lowest : (u : ℕ) → 1 ≤ u → Neighbours edges v u → at col u ≢ 0 → In u w

module _ (edges : List Edge) (col : List ℕ) (v : ℕ) where
  -- past the last region no sector survived
  none_past : (u : ℕ) → length col < u → beside_kept edges col v u ≡ false
  none_past u h = rw (get_or-eq_default col 0 {n = u - 1} (omega arith)) (and-false (joins edges v u))

  -- what passes the test is a neighbour whose sector survived, and the other way
  beside-kept : (u : ℕ) → (beside_kept edges col v u ≡ true) ↔ (Neighbours edges v u × (at col u ≢ 0))
  beside-kept u = (
    λ h. let t = (and-eq-true_iff (joins edges v u) (not (is_lost col u))).0 h in ((joins_neighbours edges v u).0 t.0, eqb-false (at col u) 0 (not-true (is_lost col u) t.1)),
    λ p. (and-eq-true_iff (joins edges v u) (not (is_lost col u))).1 ((joins_neighbours edges v u).1 p.0, rw (ne_eqb (at col u) 0 p.1)),
  )

  -- the neighbour by its definition is the lowest that passes the test,
  pub lowest_beside_lem : Lowest (beside_kept edges col v) (lowest_beside edges col v)
  unfolding lowest_beside
  lowest_beside_lem = first_lowest (beside_kept edges col v) (length col) none_past

  -- and so the lowest-numbered neighbour whose sector survived
  pub lowest_neighbour : LowestNeighbour edges col v (lowest_beside edges col v)
  lowest_neighbour =
      record {
        region = λ z. region z (dec_le (lowest_beside edges col v) (length col));
        neighbour = λ z. (found z).0;
        kept = λ z. (found z).1;
        lowest = λ u low n k. lowest_beside_lem.least u low ((beside-kept u).1 (n, k));
      }
    where
      found : lowest_beside edges col v ≢ 0 → Neighbours edges v (lowest_beside edges col v) × (at col (lowest_beside edges col v) ≢ 0)
      found z = (beside-kept (lowest_beside edges col v)).0 (lowest_beside_lem.passes z)

      region : lowest_beside edges col v ≢ 0 → Dec (lowest_beside edges col v ≤ length col) → In (length col) (lowest_beside edges col v)
      region z (yes h) = record { low = omega arith; high = h }
      region z (no h) = absurd (false≢true (sym (none_past (lowest_beside edges col v) (omega arith)) ∙ lowest_beside_lem.passes z))

  -- there is only one such region
  pub lowest_only : {w : ℕ} → LowestNeighbour edges col v w → w ≡ lowest_beside edges col v
  lowest_only p =
      lowest_unique
      (record {
        passes = λ z. (beside-kept _).1 (p.neighbour z, p.kept z);
        least = λ u low t. let q = (beside-kept u).0 t in p.lowest u low q.0 q.1;
      })
      lowest_beside_lem
