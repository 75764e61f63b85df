-- The pieces of a region's component depend on which regions are of its sector, and on nothing else of the colouring.
-- Assumes nothing.
use Rattle.std.specs.Prelude.{ℕ, ◌-◌, ◌≡◌, List, ◌≢◌, ◌↔◌, length}
use Rattle.std.proofs.Common.{arith, sym, ◌∙◌, length-set}
use Rattle.std.proofs.Math.Decide.{ℕ_discrete}
use Rattle.std.proofs.Math.Path.{ap}
use Rattle.std.proofs.Math.Bool.{true}
use Rattle.lists.specs.Sums.{In, at, bit}
use Rattle.lists.specs.SumLaws.{sum_same}
use Rattle.lists.specs.Tests.{test-same}
use Rattle.lists.specs.Places.{at_set, at_set_other}
use Rattle.meaning.specs.Plan.{Edge}
use Rattle.meaning.specs.Joined.{Joined, itself, along, labels}
use Rattle.meaning.proofs.Labels.{Labelled, labels_right}
use Rattle.meaning.specs.Paths.{Ends, neighbours_in, neighbours_far}
use Rattle.meaning.specs.Faces.{lift, beside, pieces, shares, Shares, shares-true, shares_make}

-- both colourings have R regions, and every one that has sector c in the first has sector d in the second
record Into (R : ℕ) (a b : List ℕ) (c d : ℕ) : Type 0 where
  size : length a ≡ R
  size' : length b ≡ R
  sector : (u : ℕ) → In R u → at a u ≡ c → at b u ≡ d

module _ {R : ℕ} (edges : List Edge) (ends : Ends R edges) where
  -- regions of sector c that are joined in the first are joined in the second
  joined_into : {a b : List ℕ} {c d : ℕ} → Into R a b c d → {u w : ℕ} → at a u ≡ c → Joined edges a u w → Joined edges b u w
  joined_into f e itself = itself
  joined_into f {u} e (along {w = x} n s p) =
      let e' = sym s ∙ e in
      along n (f.sector u (neighbours_in edges u x ends n) e ∙ sym (f.sector x (neighbours_far edges u x ends n) e')) (joined_into f e' p)

  module _ {a b : List ℕ} {c d : ℕ} (f : Into R a b c d) (g : Into R b a d c) where
    -- where the same regions have sector c in the first and d in the second, they have the same labels
    label_alike : (w : ℕ) → In R w → at a w ≡ c → at (labels edges a) w ≡ at (labels edges b) w
    label_alike w i e =
        let r : Labelled edges a (labels edges a) = labels_right edges a (rw f.size ends) in
        let s : Labelled edges b (labels edges b) = labels_right edges b (rw f.size' ends) in
        let h : In (length a) w = rw f.size i in
        let k : In (length b) w = rw f.size' i in
        omega (
          arith,
          r.least w (at (labels edges b) w) h (joined_into g (f.sector w i e) (s.joined w k)),
          s.least w (at (labels edges a) w) k (joined_into f e (r.joined w h)),
        )

    -- and a component that shares a face with v in the first does so in the second
    shares_into : {v l : ℕ} → Shares edges a (labels edges a) v c l → Shares edges b (labels edges b) v d l
    shares_into {v} s =
        let i = neighbours_far edges v s.w ends s.neighbours in
        record { w = s.w; neighbours = s.neighbours; sector = f.sector s.w i s.sector; label = sym (label_alike s.w i s.sector) ∙ s.label }

  -- as many components of sector c share a face with v in the first as of sector d in the second
  beside-alike : {a b : List ℕ} {c d : ℕ} → Into R a b c d → Into R b a d c → (v : ℕ) → beside edges a v c ≡ beside edges b v d
  unfolding beside
  beside-alike {a} {b} {c} {d} f g v = rw (f.size, f.size') (sum_same R _ _ (λ l _. ap bit (test-same _ _ (there l) (back l))))
    where
      there : (l : ℕ) → shares edges a (labels edges a) v c l ≡ true → shares edges b (labels edges b) v d l ≡ true
      there l t = shares_make edges (shares_into f g (shares-true edges t))

      back : (l : ℕ) → shares edges b (labels edges b) v d l ≡ true → shares edges a (labels edges a) v c l ≡ true
      back l t = shares_make edges (shares_into g f (shares-true edges t))

-- two colourings agree on which regions are of the sector that v has in each
pub record Agree (R : ℕ) (col col' : List ℕ) (v : ℕ) : Type 0 where
  pub size : length col ≡ R
  pub size' : length col' ≡ R
  pub region : In R v
  pub own : at col v ≢ 0
  pub own' : at col' v ≢ 0
  pub same : (u : ℕ) → In R u → (at col u ≡ at col v) ↔ (at col' u ≡ at col' v)

-- with v lifted out, a region of v's sector in one is of v's sector in the other
lift_into : {R : ℕ} (col col' : List ℕ) {v : ℕ} → length col ≡ R → length col' ≡ R → In R v → at col v ≢ 0
    → ((u : ℕ) → In R u → at col u ≡ at col v → at col' u ≡ at col' v) → Into R (lift col v) (lift col' v) (at col v) (at col' v)
lift_into {R} col col' {v} size size' i own same =
    record { size = length-set col (v - 1) 0 ∙ size; size' = length-set col' (v - 1) 0 ∙ size'; sector = λ u k e. go u k e (ℕ_discrete u v) }
  where
    go : (u : ℕ) → In R u → at (lift col v) u ≡ at col v → Dec (u ≡ v) → at (lift col' v) u ≡ at col' v
    go u k e (yes q) = absurd (own (sym (rw q at e) ∙ at_set col 0 size i))
    go u k e (no n) = at_set_other col' 0 size' i k n ∙ same u k (sym (at_set_other col 0 size i k n) ∙ e)

-- the component of v falls into as many pieces in both
pub pieces-alike : {R : ℕ} (edges : List Edge) → Ends R edges → {col col' : List ℕ} {v : ℕ} → Agree R col col' v → pieces edges col v ≡ pieces edges col' v
unfolding pieces
pieces-alike edges ends {col} {col'} {v} a =
    beside-alike edges ends
    (lift_into col col' a.size a.size' a.region a.own (λ u i. (a.same u i).0))
    (lift_into col' col a.size' a.size a.region a.own' (λ u i. (a.same u i).1))
    v
