-- A region that is lifted out of its sector is put into one: how many components each sector has afterwards.
-- Assumes nothing.
use Rattle.std.specs.Prelude.{ℕ, ◌+◌, ◌≤◌, ◌≡◌, refl, List, [], ◌∷◌, ◌≢◌, ◌↔◌, false, eqb}
use Rattle.std.proofs.Common.{arith, sym, ◌∙◌, eq-eqb, ne_eqb}
use Rattle.std.proofs.Math.Decide.{ℕ_discrete}
use Rattle.std.proofs.Math.Path.{ap}
use Rattle.std.proofs.Math.Bool.{and-true}
use mathlib.Mathlib.Data.Bool.Basic.{eq-false_of_not-eq-true}
use Rattle.lists.specs.Sums.{In, at, bit, up_to, count}
use Rattle.lists.specs.SumLaws.{sum_same, sum-add, sum_one}
use Rattle.lists.specs.Tests.{test-same, eqb_both, eqb-alike}
use Rattle.meaning.specs.Plan.{Edge, Plan, Limits}
use Rattle.meaning.specs.Joined.{Joined, labels}
use Rattle.meaning.specs.Kinds.{ncc, leads_to}
use Rattle.meaning.specs.Paths.{Ends, limits_ends, neighbours_far, joined_sym, joined_in, joined-sector}
use Rattle.meaning.proofs.Labels.{Labelled, plan_labels, label_joined}
use Rattle.meaning.specs.Faces.{belongs, shares, beside, Shares, shares-true, shares_make}
use Rattle.meaning.proofs.Put.{Put, in0, in1, label_else, joined-put}

-- where each region has sector c and label l in both colourings or in neither, v shares a face with such a region in both or in neither
shares-same : {R : ℕ} (c0 c1 l0 l1 : List ℕ) (v c l : ℕ) (edges : List Edge) → Ends R edges → ((w : ℕ) → In R w → belongs c1 l1 c l w ≡ belongs c0 l0 c l w)
    → shares edges c1 l1 v c l ≡ shares edges c0 l0 v c l
unfolding shares leads_to
shares-same c0 c1 l0 l1 v c l [] ends h = refl
shares-same c0 c1 l0 l1 v c l (e ∷ es) ends h =
    rw (h e.a ends.0.0, h e.b ends.0.1, shares-same c0 c1 l0 l1 v c l es ends.1 h)

module _ {R : ℕ} {edges : List Edge} {c0 c1 l0 l1 : List ℕ} {v d : ℕ} (ends : Ends R edges) (p : Put R c0 c1 v d) (r0 : Labelled edges c0 l0) (r1 : Labelled edges c1 l1) where
  -- the label of a component of sector d that shares a face with v has sector d, and itself for a label
  own : {u : ℕ} → In R u → Shares edges c0 l0 v d u → (at l0 u ≡ u) × (at c0 u ≡ d)
  own i s =
      let h = in0 p (neighbours_far edges v s.w ends s.neighbours) in
      let j = rw s.label at (r0.joined s.w h) in
      (sym ((label_joined r0 h (in0 p i)).1 j) ∙ s.label, sym (joined-sector j) ∙ s.sector)

  -- of the regions joined to v, each that is the label of a component of sector d is that of one that shares a face with v
  shares-joined : {u : ℕ} → In R u → Joined edges c1 u v → shares edges c0 l0 v d u ≡ belongs c0 l0 d u u
  shares-joined {u} i j =
      test-same _ _ (λ t. (eqb_both (at l0 u) u (at c0 u) d).1 (own i (shares-true edges t)))
      (λ t.
      let q = (eqb_both (at l0 u) u (at c0 u) d).0 t in
      let nv : u ≢ v = λ z. omega (arith, q.1, ap (at c0) z, p.lifted, p.sector) in
      shares_make edges (rw q.0 at ((joined-put ends p r0 i nv).0 j)))

  -- no other region is
  shares_else : {u : ℕ} → In R u → u ≢ v → (Joined edges c1 u v → ⊥) → shares edges c0 l0 v d u ≡ false
  shares_else i nv nj = eq-false_of_not-eq-true (λ t. let s = shares-true edges t in nj ((joined-put ends p r0 i nv).1 (rw (own i s).0 s)))

  -- a region has v's label exactly when it is joined to v
  with_v : {u : ℕ} → In R u → (at l1 u ≡ at l1 v) ↔ Joined edges c1 u v
  with_v i = label_joined r1 (in1 p i) (in1 p p.region)

  -- each region counts as often on both sides of `components-put`
  put_one : (u : ℕ) → In R u → bit (belongs c1 l1 d u u) + bit (shares edges c0 l0 v d u) ≡ bit (belongs c0 l0 d u u) + bit (eqb (at l1 v) u)
  put_one u i = go (ℕ_discrete (at l1 u) (at l1 v))
    where
      go : Dec (at l1 u ≡ at l1 v) → bit (belongs c1 l1 d u u) + bit (shares edges c0 l0 v d u) ≡ bit (belongs c0 l0 d u u) + bit (eqb (at l1 v) u)
      go (yes e) =
          let j = (with_v i).0 e in
          rw (e, joined-sector j ∙ p.placed, eq-eqb d d refl, and-true, shares-joined i j) (omega arith)
      go (no ne) =
          let nv : u ≢ v = λ z. ne (ap (at l1) z) in
          let nj : (Joined edges c1 u v → ⊥) = λ j. ne ((with_v i).1 j) in
          let nm : at l1 v ≢ u = λ z. nj (joined_sym (rw z at (r1.joined v (in1 p p.region)))) in
          rw (label_else ends p r0 r1 i nj, p.stay u i nv, shares_else i nv nj, ne_eqb (at l1 v) u nm)

  -- the components of sector d after, and those before that share a face with v, are those before, and one
  components_put : count (up_to R) (λ u. belongs c1 l1 d u u) + count (up_to R) (shares edges c0 l0 v d) ≡ count (up_to R) (λ u. belongs c0 l0 d u u) + 1
  components_put =
      let m = at l1 v in
      let i : In R m = joined_in ends (r1.joined v (in1 p p.region)) p.region in
      omega (
        arith,
        sum-add (up_to R) (λ u. bit (belongs c1 l1 d u u)) (λ u. bit (shares edges c0 l0 v d u)),
        sum-add (up_to R) (λ u. bit (belongs c0 l0 d u u)) (λ u. bit (eqb m u)),
        sum_same R _ _ put_one,
        sum_one R m (λ u. bit (eqb m u)) i (λ u _ ne. ap bit (ne_eqb m u (λ z. ne (sym z)))),
        ap bit (eq-eqb m m refl),
      )

  -- a region of another sector keeps sector and label
  belongs_else : {e : ℕ} → 1 ≤ e → e ≢ d → (l u : ℕ) → In R u → belongs c1 l1 e l u ≡ belongs c0 l0 e l u
  belongs_else {e} h ne l u i = eqb-alike (after, before)
    where
      kept : at c1 u ≡ e → at l1 u ≡ at l0 u
      kept s = label_else ends p r0 r1 i (λ j. ne (sym s ∙ joined-sector j ∙ p.placed))

      after : (at l1 u ≡ l) × (at c1 u ≡ e) → (at l0 u ≡ l) × (at c0 u ≡ e)
      after q = (sym (kept q.1) ∙ q.0, sym (p.stay u i (λ z. ne (sym q.1 ∙ ap (at c1) z ∙ p.placed))) ∙ q.1)

      before : (at l0 u ≡ l) × (at c0 u ≡ e) → (at l1 u ≡ l) × (at c1 u ≡ e)
      before q = let s = p.stay u i (λ z. omega (arith, q.1, ap (at c0) z, p.lifted)) ∙ q.1 in (kept s ∙ q.0, s)

module _ {P : Plan} {c0 c1 : List ℕ} {v d : ℕ} (l : Limits P) (p : Put P.R c0 c1 v d) where
  -- the components of sector d that share a face with v become one
  pub ncc-put : ncc P c1 d + beside P.edges c0 v d ≡ ncc P c0 d + 1
  unfolding ncc beside
  ncc-put = rw p.size0 (components_put (limits_ends P l) p (plan_labels l c0 p.size0) (plan_labels l c1 p.size1))

  module _ (e : ℕ) (h : 1 ≤ e) (ne : e ≢ d) where
    -- a region of another sector keeps sector and label, in a plan
    stays : (k u : ℕ) → In P.R u → belongs c1 (labels P.edges c1) e k u ≡ belongs c0 (labels P.edges c0) e k u
    stays = belongs_else (limits_ends P l) p (plan_labels l c0 p.size0) (plan_labels l c1 p.size1) h ne

    -- another sector has as many components as before
    pub ncc_else : ncc P c1 e ≡ ncc P c0 e
    unfolding ncc
    ncc_else = sum_same P.R _ _ (λ u i. ap bit (stays u u i))

    -- as many of them share a face with v
    pub beside_else : beside P.edges c1 v e ≡ beside P.edges c0 v e
    unfolding beside
    beside_else =
        rw (p.size0, p.size1)
        (sum_same P.R _ _ (λ k _. ap bit (shares-same c0 c1 _ _ v e k P.edges (limits_ends P l) (stays k))))
