-- Colourings that put the same regions together, whatever the names of the sectors: what they have in common.
-- Assumes nothing.
use Rattle.std.specs.Prelude.{ℕ, ◌+◌, ◌≡◌, ◌&&◌, length}
use Rattle.std.proofs.Math.Path.{refl, ap}
use Rattle.std.proofs.Common.{◌∙◌}
use mathlib.Core.List.{List, [], ◌∷◌}
use Rattle.std.proofs.Math.Dec.{eqb}
use Rattle.lists.specs.Sums.{In, at, up_to}
use Rattle.lists.specs.SumLaws.{sum-all, sum_same}
use Rattle.lists.specs.Counts.{count_same}
use Rattle.meaning.specs.Plan.{Edge, Visit, Constraint, Plan}
use Rattle.meaning.specs.Joined.{take_in, take_every, labels, leads}
use Rattle.meaning.specs.Stretches.{before, stretches}
use Rattle.meaning.specs.Kinds.{ncc, ncc_all, load, outside_area, border, dwelling, leads_to, border_of, dwelling_of}
use Rattle.meaning.specs.Moves.{relabelled}

-- any two regions have one sector in both colourings, or in neither
pub record Together (col col' : List ℕ) : Type 0 where
  pub size : length col ≡ length col'
  pub pair : (u w : ℕ) → eqb (at col u) (at col w) ≡ eqb (at col' u) (at col' w)

-- sector c of the one has the regions of sector d of the other
pub record SameRegions (R : ℕ) (col : List ℕ) (c : ℕ) (col' : List ℕ) (d : ℕ) : Type 0 where
  pub region : (u : ℕ) → In R u → eqb (at col u) c ≡ eqb (at col' u) d

module _ {col col' : List ℕ} (t : Together col col') where
  -- the same edges are taken in
  takes-together : (es : List Edge) (ls : List ℕ) → take_every col es ls ≡ take_every col' es ls
  unfolding take_every take_in
  takes-together [] ls = refl
  takes-together (e ∷ es) ls = rw (t.pair e.a e.b) (takes-together es (take_in col' e ls))

  -- so they have the same labels
  pub labels-together : (edges : List Edge) → labels edges col ≡ labels edges col'
  unfolding labels
  labels-together edges = rw t.size (takes-together edges (up_to (length col')))

  -- a visit before some stretches
  before-together : (v : Visit) (ss : List (List Visit)) → before col v ss ≡ before col' v ss
  unfolding before
  before-together v [] = refl
  before-together v ([] ∷ ss) = refl
  before-together v ((w ∷ s) ∷ ss) = rw (t.pair v.region w.region)

  -- a flight has the same stretches
  stretches-together : (flight : List Visit) → stretches col flight ≡ stretches col' flight
  unfolding stretches
  stretches-together [] = refl
  stretches-together (v ∷ vs) = before-together v (stretches col vs) ∙ ap (before col' v) (stretches-together vs)

  module _ (P : Plan) where
    -- NCC is the same
    pub ncc-all-together : ncc_all P col ≡ ncc_all P col'
    unfolding ncc_all
    ncc-all-together = rw (labels-together P.edges)

    -- and T
    pub border-together : border P col ≡ border P col'
    unfolding border
    border-together = ap (λ (n : ℕ). n + outside_area P) (sum-all P.edges _ _ (λ e. rw (t.pair e.a e.b)))

    -- and the violation of kind 5
    pub dwelling-together : (k : Constraint) → dwelling P col k ≡ dwelling P col' k
    unfolding dwelling
    dwelling-together k = sum-all P.flights _ _ (λ flight. rw (stretches-together flight))

    -- and a region's border
    pub border_of_together : (v : ℕ) → border_of P col v ≡ border_of P col' v
    unfolding border_of leads_to
    border_of_together v = ap (λ (n : ℕ). n + at P.outside v) (sum-all P.edges _ _ (λ e. rw (t.pair e.b v, t.pair e.a v)))

    -- and a region's part of kind 5
    pub dwelling_of_together : (v : ℕ) (k : Constraint) → dwelling_of P col v k ≡ dwelling_of P col' v k
    unfolding dwelling_of
    dwelling_of_together v k = sum-all P.flights _ _ (λ flight. rw (stretches-together flight))

    -- sectors with the same regions have as many components
    pub ncc-together : {c d : ℕ} → SameRegions P.R col c col' d → ncc P col c ≡ ncc P col' d
    unfolding ncc
    ncc-together {c} {d} s =
        count_same P.R (λ u. leads (labels P.edges col) u && eqb (at col u) c) (λ u. leads (labels P.edges col') u && eqb (at col' u) d)
        (λ u i. rw (labels-together P.edges, s.region u i))

-- sectors with the same regions have the same workload
pub load-same-regions : (P : Plan) {col col' : List ℕ} {c d : ℕ} → SameRegions P.R col c col' d → load P col c ≡ load P col' d
unfolding load
load-same-regions P s = sum_same P.R _ _ (λ u i. rw (s.region u i))

-- as many labels differ between two colourings as between two others that put the same regions together
pub relabelled-together : {col col' after after' : List ℕ} → Together col col' → Together after after' → (P : Plan) → relabelled P col after ≡ relabelled P col' after'
unfolding relabelled
relabelled-together t s P = rw (labels-together t P.edges, labels-together s P.edges)
