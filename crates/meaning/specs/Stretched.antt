-- The report's section 4.3: where a sequence has a stretch, and that `stretches` cuts a flight into exactly its stretches.
-- Assumes nothing.
use Rattle.std.specs.Prelude.{ℕ, zero, suc, ◌+◌, ◌-◌, ◌≤◌, ◌<◌, ◌≡◌, ◌≢◌, ◌⊎◌, ◌↔◌, Bool, cond, length, get_or}
use native.Mathlib.Omega.{arith}
use Rattle.std.proofs.Math.Decide.{ℕ_discrete}
use Rattle.std.proofs.Math.Path.{refl}
use Rattle.std.proofs.Common.{sym, ◌∙◌, inl, inr}
use mathlib.Core.List.{List, [], ◌∷◌, map, flatten}
use Rattle.std.proofs.Math.Bool.{true, false}
use borrow.Author.Tests.{eqb-true, eqb-false}
use Rattle.std.proofs.Math.Dec.{eqb}
use Rattle.lists.specs.Sums.{Every}
use Rattle.meaning.specs.Plan.{Visit}
use Rattle.meaning.specs.Stretches.{sector_of, before, stretches}

-- X[i], from 0
infix 70 ◌!◌
abbrev pub ◌!◌ : List ℕ → ℕ → ℕ
X ! i = get_or X i 0

-- Stretch(X, ℓ, r): X[pred(ℓ)] ≠ X[ℓ] = X[r] ≠ X[succ(r)], and X[i] = X[ℓ] for each i between ℓ and r
-- The report's X starts and ends with a value of its own, where no stretch is. Here X is without the two: its first index has no pred and its last no succ, and nothing to differ from.
pub record Stretch (X : List ℕ) (ℓ r : ℕ) : Type 0 where
  pub rise : ℓ ≤ r
  pub inside : r < length X
  pub pred : (i : ℕ) → suc i ≡ ℓ → X ! i ≢ X ! ℓ
  pub ends : X ! ℓ ≡ X ! r
  pub succ : suc r < length X → X ! r ≢ X ! suc r
  pub between : (i : ℕ) → ℓ < i → i < r → X ! i ≡ X ! ℓ

-- of lists laid one after the other from index 0, one goes from index ℓ to index r
abbrev pub Place : List (List Visit) → ℕ → ℕ → Type 0
Place [] ℓ r = ⊥
Place (s ∷ ss) ℓ r = ((ℓ ≡ 0) × (suc r ≡ length s)) ⊎ ((i : ℕ) × (j : ℕ) × (ℓ ≡ length s + i) × (r ≡ length s + j) × Place ss i j)

-- the lists lie where X has its stretches, and each stretch of X is one of them
abbrev pub Found : List ℕ → List (List Visit) → Type 0
Found X ss = (ℓ r : ℕ) → Stretch X ℓ r ↔ Place ss ℓ r

-- the lists are the stretches of a flight: one after the other they are the flight, none is empty, and they lie exactly where the sectors along the flight, as X, have their stretches
pub record Cut (col : List ℕ) (flight : List Visit) (ss : List (List Visit)) : Type 0 where
  pub cover : flatten ss ≡ flight
  pub filled : Every (λ s. 1 ≤ length s) ss
  pub found : Found (map (sector_of col) flight) ss

-- a stretch has one value throughout
even : {X : List ℕ} {ℓ r : ℕ} → Stretch X ℓ r → (i : ℕ) → ℓ ≤ i → i ≤ r → X ! i ≡ X ! ℓ
even {X} {ℓ} {r} k i lo hi = go (ℕ_discrete i ℓ) (ℕ_discrete i r)
  where
    go : Dec (i ≡ ℓ) → Dec (i ≡ r) → X ! i ≡ X ! ℓ
    go (yes e) _ = rw e
    go (no n) (yes e) = rw e (sym k.ends)
    go (no n) (no m) = k.between i (omega arith) (omega arith)

-- ---- a sequence with one value more in front

module _ {x : ℕ} {X : List ℕ} where
  -- the value alone is a stretch where the next differs
  alone : (1 ≤ length X → x ≢ X ! 0) → Stretch (x ∷ X) 0 0
  alone n =
      record {
        rise = omega arith;
        inside = omega arith;
        pred = λ i e. absurd (omega arith);
        ends = refl;
        succ = λ h. n (omega arith);
        between = λ i h k. absurd (omega arith);
      }

  module _ {ℓ m r : ℕ} (d : m ≡ ℓ - 1) (e : (x ∷ X) ! ℓ ≡ X ! m) where
    -- a stretch that ends behind it, without it
    less : Stretch (x ∷ X) ℓ (suc r) → Stretch X m r
    less k =
        record {
          rise = omega (arith, k.rise);
          inside = omega (arith, k.inside);
          pred = λ i h q. k.pred (suc i) (omega arith) (q ∙ sym e);
          ends = sym e ∙ k.ends;
          succ = λ h. k.succ (omega arith);
          between = λ i h l. k.between (suc i) (omega arith) (omega arith) ∙ e;
        }

    -- and with it
    more : (ℓ ≡ 1 → 1 ≤ length X → x ≢ X ! 0) → Stretch X m r → Stretch (x ∷ X) ℓ (suc r)
    more n k =
        record {
          rise = omega (arith, k.rise);
          inside = omega (arith, k.inside);
          pred = pred;
          ends = e ∙ k.ends;
          succ = λ h. k.succ (omega arith);
          between = between;
        }
      where
        pred : (i : ℕ) → suc i ≡ ℓ → (x ∷ X) ! i ≢ (x ∷ X) ! ℓ
        pred zero h q = let z : m ≡ 0 = omega arith in n (sym h) (omega (arith, k.inside)) (rw z at (q ∙ e))
        pred (suc i) h q = k.pred i (omega arith) (q ∙ e)

        between : (i : ℕ) → ℓ < i → i < suc r → (x ∷ X) ! i ≡ (x ∷ X) ! ℓ
        between zero h l = absurd (omega arith)
        between (suc i) h l = even k i (omega arith) (omega arith) ∙ sym e

-- ---- a flight with one visit more in front

module _ (v : Visit) {x : ℕ} {X : List ℕ} where
  -- a visit in another sector than the next is a stretch of its own
  apart : (ss : List (List Visit)) → (1 ≤ length X → x ≢ X ! 0) → Found X ss → Found (x ∷ X) ((v ∷ []) ∷ ss)
  apart ss n f ℓ r = (to ℓ r, from)
    where
      to : (ℓ r : ℕ) → Stretch (x ∷ X) ℓ r → Place ((v ∷ []) ∷ ss) ℓ r
      to zero zero k = inl (refl, refl)
      to zero (suc r) k = absurd (n (omega (arith, k.inside)) (sym (even k 1 (omega arith) (omega arith))))
      to (suc ℓ) zero k = absurd (omega (arith, k.rise))
      to (suc ℓ) (suc r) k = inr (ℓ, r, omega arith, omega arith, (f ℓ r).0 (less (omega arith) refl k))

      from : Place ((v ∷ []) ∷ ss) ℓ r → Stretch (x ∷ X) ℓ r
      from (inl p) = let b : r ≡ 0 = omega arith in rw (p.0, b) (alone n)
      from (inr p) =
          let a : ℓ ≡ suc p.0 = omega arith in
          let b : r ≡ suc p.1 = omega arith in
          rw (a, b) (more (omega arith) refl (λ _. n) ((f p.0 p.1).1 p.4))

  -- a visit in the sector of the next is in its stretch
  joined : (w : Visit) (s : List Visit) (ss : List (List Visit)) → 1 ≤ length X → x ≡ X ! 0 → Found X ((w ∷ s) ∷ ss) → Found (x ∷ X) ((v ∷ w ∷ s) ∷ ss)
  joined w s ss n e f ℓ r = (to ℓ r, from)
    where
      longer : {ℓ m r : ℕ} → m ≡ ℓ - 1 → ℓ ≢ 1 → Place ((w ∷ s) ∷ ss) m r → Place ((v ∷ w ∷ s) ∷ ss) ℓ (suc r)
      longer h d (inl p) = inl (omega arith, omega arith)
      longer h d (inr p) = inr (p.0, p.1, omega arith, omega arith, p.4)

      to : (ℓ r : ℕ) → Stretch (x ∷ X) ℓ r → Place ((v ∷ w ∷ s) ∷ ss) ℓ r
      to ℓ zero k = absurd (k.succ (omega arith) e)
      to zero (suc r) k = longer {m = 0} (omega arith) (omega arith) ((f 0 r).0 (less (omega arith) e k))
      to (suc zero) (suc r) k = absurd (k.pred 0 refl e)
      to (suc (suc ℓ)) (suc r) k = longer {m = suc ℓ} (omega arith) (omega arith) ((f (suc ℓ) r).0 (less (omega arith) refl k))

      from : Place ((v ∷ w ∷ s) ∷ ss) ℓ r → Stretch (x ∷ X) ℓ r
      from (inl p) =
          let b : r ≡ suc (length s) = omega arith in
          rw (p.0, b) (more (omega arith) e (λ h. absurd (omega arith)) ((f 0 (length s)).1 (inl (refl, refl))))
      from (inr p) =
          let a : ℓ ≡ suc (suc (length s + p.0)) = omega arith in
          let b : r ≡ suc (suc (length s + p.1)) = omega arith in
          rw (a, b) (more (omega arith) refl (λ h. absurd (omega arith)) ((f (suc (length s + p.0)) (suc (length s + p.1))).1 (inr (p.0, p.1, omega arith, omega arith, p.4))))

module _ (col : List ℕ) where
  -- `before` gives the stretches with the visit in front
  before_cut : (v : Visit) (ss : List (List Visit)) → Cut col (flatten ss) ss → Cut col (v ∷ flatten ss) (before col v ss)
  unfolding before flatten
  before_cut v [] c = record { cover = refl; filled = (omega arith, tt); found = apart v [] (λ n. absurd (omega arith)) c.found }
  before_cut v ([] ∷ ss) c = absurd (omega (arith, c.filled.0))
  before_cut v ((w ∷ s) ∷ ss) c = go (eqb (sector_of col v) (sector_of col w)) refl
    where
      go : (t : Bool) → eqb (sector_of col v) (sector_of col w) ≡ t → Cut col (v ∷ flatten ((w ∷ s) ∷ ss)) (cond t ((v ∷ w ∷ s) ∷ ss) ((v ∷ []) ∷ (w ∷ s) ∷ ss))
      go true e = record { cover = refl; filled = (omega arith, c.filled.1); found = joined v w s ss (omega arith) (eqb-true _ _ e) c.found }
      go false e = record { cover = refl; filled = (omega arith, c.filled); found = apart v ((w ∷ s) ∷ ss) (λ _. eqb-false _ _ e) c.found }

  -- `stretches` gives the stretches of a flight
  pub stretches_cut : (flight : List Visit) → Cut col flight (stretches col flight)
  unfolding stretches flatten
  stretches_cut [] = record { cover = refl; filled = tt; found = λ ℓ r. (λ k. absurd (omega (arith, k.inside)), λ p. absurd p) }
  stretches_cut (v ∷ vs) = go (stretches_cut vs)
    where
      go : Cut col vs (stretches col vs) → Cut col (v ∷ vs) (before col v (stretches col vs))
      go c = rw c.cover at (before_cut v (stretches col vs) (rw c.cover c))
