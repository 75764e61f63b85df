-- What the border loses where a region is put into a sector.
-- Assumes nothing.
use Rattle.std.specs.Prelude.{ℕ, ◌+◌, ◌≡◌, List, ◌≢◌, true, false, ◌&&◌, ◌||◌}
use Rattle.std.proofs.Common.{arith, ◌∙◌, eq-eqb, ne_eqb}
use Rattle.std.proofs.Math.Decide.{ℕ_discrete}
use Rattle.std.proofs.Math.Path.{sym}
use Rattle.std.proofs.Math.Bool.{Bool, cond, or-false}
use Rattle.std.proofs.Math.Dec.{eqb}
use Rattle.lists.specs.Sums.{In, at}
use Rattle.lists.specs.SumLaws.{sum-add, sum_ext, every_turn}
use Rattle.lists.specs.Tests.{eqb_sym, cond_parts}
use Rattle.meaning.specs.Plan.{Edge, Plan, EdgeLimits, Limits}
use Rattle.meaning.specs.Kinds.{crosses, border, leads_to}
use Rattle.meaning.specs.Faces.{area_to}
use Rattle.meaning.proofs.Put.{Put}

-- at most one end of an edge is v
ends_at : {R : ℕ} (e : Edge) (v : ℕ) (Q : Bool → Bool → Type 0) → EdgeLimits R e
    → (e.a ≡ v → e.b ≢ v → Q true false) → (e.a ≢ v → e.b ≡ v → Q false true) → (e.a ≢ v → e.b ≢ v → Q false false) → Q (eqb e.a v) (eqb e.b v)
ends_at e v Q h f g k = go (ℕ_discrete e.a v) (ℕ_discrete e.b v)
  where
    go : Dec (e.a ≡ v) → Dec (e.b ≡ v) → Q (eqb e.a v) (eqb e.b v)
    go (yes x) (yes y) = absurd (omega (arith, h.rise))
    go (yes x) (no y) = rw (eq-eqb e.a v x, ne_eqb e.b v y) (f x y)
    go (no x) (yes y) = rw (ne_eqb e.a v x, eq-eqb e.b v y) (g x y)
    go (no x) (no y) = rw (ne_eqb e.a v x, ne_eqb e.b v y) (k x y)

module _ {P : Plan} (l : Limits P) where
  -- v's edges to sector d leave the border
  pub border-put : {c0 c1 : List ℕ} {v d : ℕ} → Put P.R c0 c1 v d → border P c1 + area_to P.edges c0 v d ≡ border P c0
  unfolding border area_to leads_to
  border-put {c0} {c1} {v} {d} p =
      omega (arith, sym (sum-add P.edges _ _) ∙ sum_ext P.edges _ _ (every_turn one P.edges l.edge))
    where
      Part : Edge → Bool → Bool → Type 0
      Part e a b =
          cond (crosses c1 e) e.area 0 + cond ((a && eqb (at c0 e.b) d) || (b && eqb (at c0 e.a) d)) e.area 0
          ≡ cond (crosses c0 e) e.area 0

      one : (e : Edge) → EdgeLimits P.R e → Part e (eqb e.a v) (eqb e.b v)
      one e h =
          let i : In P.R e.a = omega arith in
          let j : In P.R e.b = omega arith in
          ends_at e v (Part e) h
          (λ x y.
          let n = ne_eqb 0 (at c0 e.b) (λ z. omega (arith, p.others e.b j y)) in
          rw (x, p.placed, p.lifted, p.stay e.b j y, n, or-false, eqb_sym d (at c0 e.b)) (cond_parts (eqb (at c0 e.b) d) e.area))
          (λ x y.
          let n = ne_eqb (at c0 e.a) 0 (λ z. omega (arith, p.others e.a i x)) in
          rw (y, p.placed, p.lifted, p.stay e.a i x, n) (cond_parts (eqb (at c0 e.a) d) e.area))
          (λ x y. rw (p.stay e.a i x, p.stay e.b j y) (omega arith))
