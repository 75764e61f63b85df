-- The stretches of a flight: how many and how long they are, and that they ask only for the sectors of the regions that the flight visits.
-- Assumes nothing.
use Prim.Native.Nat.{ℕ, suc, ◌+◌, ◌≤◌}
use native.Mathlib.Omega.{arith}
use Rattle.std.specs.Prelude.{◌≡◌, Bool, cond, ◌||◌}
use Rattle.std.proofs.Math.Path.{refl, ap}
use Rattle.std.proofs.Common.{sym, ◌∙◌, get_or-set_other}
use mathlib.Core.List.{List, [], ◌∷◌}
use Rattle.std.proofs.Math.Bool.{true, false}
use Rattle.std.proofs.lemmas.Bool.{false≢true, eqb-false}
use Rattle.std.proofs.Math.Dec.{eqb}
use Rattle.std.proofs.Math.ListN.{length}
use Rattle.lists.specs.Sums.{In, sum, Every}
use Rattle.lists.specs.SumLaws.{every_both, every_turn}
use Rattle.meaning.specs.Plan.{Visit, VisitLimits}
use Rattle.meaning.specs.Stretches.{sector_of, before, stretches, visits}
use Rattle.meaning.specs.Moves.{recolour}

module _ (col : List ℕ) where
  -- a visit in front makes at most one stretch more
  before_few : (v : Visit) (ss : List (List Visit)) → length (before col v ss) ≤ suc (length ss)
  unfolding before
  before_few v [] = omega arith
  before_few v ([] ∷ ss) = omega arith
  before_few v ((w ∷ s) ∷ ss) = go (eqb (sector_of col v) (sector_of col w))
    where
      go : (t : Bool) → length (cond t ((v ∷ w ∷ s) ∷ ss) ((v ∷ []) ∷ (w ∷ s) ∷ ss)) ≤ suc (suc (length ss))
      go true = omega arith
      go false = omega arith

  -- there are no more stretches than visits
  pub stretches_few : (vs : List Visit) → length (stretches col vs) ≤ length vs
  unfolding stretches
  stretches_few [] = omega arith
  stretches_few (v ∷ vs) = omega (arith, before_few v (stretches col vs), stretches_few vs)

  -- whatever is summed over the visits of each stretch, a visit in front adds its own
  before-sum : (f : Visit → ℕ) (v : Visit) (ss : List (List Visit)) → sum (before col v ss) (λ s. sum s f) ≡ f v + sum ss (λ s. sum s f)
  unfolding before
  before-sum f v [] = omega arith
  before-sum f v ([] ∷ ss) = omega arith
  before-sum f v ((w ∷ s) ∷ ss) = go (eqb (sector_of col v) (sector_of col w))
    where
      go : (t : Bool) → sum (cond t ((v ∷ w ∷ s) ∷ ss) ((v ∷ []) ∷ (w ∷ s) ∷ ss)) (λ s. sum s f) ≡ f v + (f w + sum s f + sum ss (λ s. sum s f))
      go true = omega arith
      go false = omega arith

  -- the sums over the stretches make the sum over the flight
  pub stretches-sum : (f : Visit → ℕ) (vs : List Visit) → sum (stretches col vs) (λ s. sum s f) ≡ sum vs f
  unfolding stretches
  stretches-sum f [] = refl
  stretches-sum f (v ∷ vs) = omega (arith, before-sum f v (stretches col vs), stretches-sum f vs)

  module _ (P : Visit → Type 0) where
    -- where each visit of the stretches has P, so has each once one that has it is in front
    before_every : (v : Visit) (ss : List (List Visit)) → P v → Every (Every P) ss → Every (Every P) (before col v ss)
    unfolding before
    before_every v [] p q = ((p, tt), tt)
    before_every v ([] ∷ ss) p q = ((p, tt), q.1)
    before_every v ((w ∷ s) ∷ ss) p q = go (eqb (sector_of col v) (sector_of col w))
      where
        go : (t : Bool) → Every (Every P) (cond t ((v ∷ w ∷ s) ∷ ss) ((v ∷ []) ∷ (w ∷ s) ∷ ss))
        go true = ((p, q.0), q.1)
        go false = ((p, tt), q)

    -- what each visit of a flight has, each visit of its stretches has
    pub stretches_every : (vs : List Visit) → Every P vs → Every (Every P) (stretches col vs)
    unfolding stretches
    stretches_every [] e = tt
    stretches_every (v ∷ vs) e = before_every v (stretches col vs) e.0 (stretches_every vs e.1)

-- ---- a colouring that has the same sectors along a flight

module _ (col col' : List ℕ) where
  -- a visit is in the same sector by both
  abbrev Alike : Visit → Type 0
  Alike v = sector_of col v ≡ sector_of col' v

  before-alike : (v : Visit) (ss : List (List Visit)) → Alike v → Every (Every Alike) ss → before col v ss ≡ before col' v ss
  unfolding before
  before-alike v [] p q = refl
  before-alike v ([] ∷ ss) p q = refl
  before-alike v ((w ∷ s) ∷ ss) p q = rw (p, q.0.0)

  -- it has the same stretches
  pub stretches-alike : (vs : List Visit) → Every Alike vs → stretches col vs ≡ stretches col' vs
  unfolding stretches
  stretches-alike [] e = refl
  stretches-alike (v ∷ vs) e =
      before-alike v (stretches col vs) e.0 (stretches_every col Alike vs e.1) ∙ ap (before col' v) (stretches-alike vs e.1)

-- ---- a flight that does not visit a region

module _ (u : ℕ) where
  -- none of its visits is to the region
  abbrev Elsewhere : Visit → Type 0
  Elsewhere v = eqb v.region u ≡ false

  elsewhere : (vs : List Visit) → visits u vs ≡ false → Every Elsewhere vs
  unfolding visits
  elsewhere [] e = tt
  elsewhere (v ∷ vs) e = go (eqb v.region u) refl e (elsewhere vs)
    where
      go : (t : Bool) → eqb v.region u ≡ t → t || visits u vs ≡ false → (visits u vs ≡ false → Every Elsewhere vs) → Every Elsewhere (v ∷ vs)
      go true p q r = absurd (false≢true (sym q))
      go false p q r = (p, r q)

  elsewhere_none : (vs : List Visit) → Every Elsewhere vs → visits u vs ≡ false
  unfolding visits
  elsewhere_none [] e = refl
  elsewhere_none (v ∷ vs) e = rw e.0 (elsewhere_none vs e.1)

  -- none of its stretches visits it
  pub stretches_elsewhere : (col : List ℕ) (vs : List Visit) → visits u vs ≡ false → Every (λ s. visits u s ≡ false) (stretches col vs)
  stretches_elsewhere col vs e =
      every_turn elsewhere_none (stretches col vs) (stretches_every col Elsewhere vs (elsewhere vs e))

  -- its stretches are the same whatever sector the region is given
  pub stretches-recolour : {R : ℕ} → In R u → (col : List ℕ) (d : ℕ) (vs : List Visit) → Every (VisitLimits R) vs → visits u vs ≡ false → stretches (recolour col u d) vs ≡ stretches col vs
  stretches-recolour {R} i col d vs l e =
      stretches-alike (recolour col u d) col vs
      (every_both
      (λ v h n. get_or-set_other col _ _ d 0 (λ q. eqb-false v.region u n (omega (arith, h.region.low, i.low))))
      vs l (elsewhere vs e))
