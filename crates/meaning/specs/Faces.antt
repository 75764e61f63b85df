-- The faces of a region: the components that share one with it, the pieces that its own falls into without it, and the areas.
-- Assumes nothing.
use Rattle.std.specs.Prelude.{ℕ, ◌-◌, ◌≤◌, ◌≡◌, refl, Bool, false, ◌&&◌, ◌||◌, length}
use Rattle.std.proofs.Common.{arith, sym, inl, inr, eqb-true, eq-eqb, length-set}
use mathlib.Core.List.{List, [], ◌∷◌}
use Rattle.std.proofs.Math.Logic.{⊎_elim}
use Rattle.std.proofs.Math.Bool.{true, or-true, and-eq-true_iff}
use Rattle.std.proofs.lemmas.Bool.{false≢true}
use Rattle.std.proofs.Math.Dec.{eqb}
use Rattle.lists.specs.Sums.{at, up_to, count}
use Rattle.lists.specs.Counts.{count-le}
use Rattle.lists.specs.Tests.{or_cases, eqb_both}
use Rattle.meaning.specs.Plan.{Edge}
use Rattle.meaning.specs.Joined.{Neighbours, labels, in_component}
use Rattle.meaning.specs.Kinds.{area_of, leads_to}
use Rattle.meaning.specs.Moves.{recolour}

-- v lifted out of its sector: 0 is the sector of no region
abbrev pub lift : List ℕ → ℕ → List ℕ
lift col v = recolour col v 0

-- region w has sector c and label l
abbrev pub belongs : List ℕ → List ℕ → ℕ → ℕ → ℕ → Bool
belongs col ls c l w = in_component ls l w && eqb (at col w) c

-- some edge leads from region v to one of sector c and label l
unfoldable pub shares : List Edge → List ℕ → List ℕ → ℕ → ℕ → ℕ → Bool
shares [] col ls v c l = false
shares (e ∷ es) col ls v c l = leads_to (belongs col ls c l) v e || shares es col ls v c l

-- how many components of sector c share a face with region v
unfoldable pub beside : List Edge → List ℕ → ℕ → ℕ → ℕ
beside edges col v c = count (up_to (length col)) (shares edges col (labels edges col) v c)

-- how many pieces the component of v falls into without v
unfoldable pub pieces : List Edge → List ℕ → ℕ → ℕ
pieces edges col v = beside edges (lift col v) v (at col v)

-- there are no more of them than regions
pub pieces_bound : (edges : List Edge) (col : List ℕ) (v : ℕ) → pieces edges col v ≤ length col
unfolding pieces beside
pieces_bound edges col v =
    omega (arith, count-le (length (lift col v)) (shares edges (lift col v) (labels edges (lift col v)) v (at col v)), length-set col (v - 1) 0)

-- the summed area of v's edges whose other end has sector c
unfoldable pub area_to : List Edge → List ℕ → ℕ → ℕ → ℕ
area_to edges col v c = area_of edges (leads_to (λ w. eqb (at col w) c) v)

-- region w shares a face with region v, and has sector c and label l
pub record Shares (edges : List Edge) (col ls : List ℕ) (v c l : ℕ) : Type 0 where
  pub w : ℕ
  pub neighbours : Neighbours edges v w
  pub sector : at col w ≡ c
  pub label : at ls w ≡ l

module _ {col ls : List ℕ} {v c l : ℕ} where
  -- where the test passes, there is such a region
  pub shares-true : (edges : List Edge) → shares edges col ls v c l ≡ true → Shares edges col ls v c l
  unfolding shares leads_to
  shares-true [] h = absurd (false≢true h)
  shares-true (e ∷ es) h = ⊎_elim first (λ t. more (shares-true es t)) (or_cases (leads_to (belongs col ls c l) v e) _ h)
    where
      end : (u w : ℕ) → (v ≡ u → Neighbours (e ∷ es) v w) → eqb u v && belongs col ls c l w ≡ true → Shares (e ∷ es) col ls v c l
      end u w f t =
          let s = (and-eq-true_iff (eqb u v) (belongs col ls c l w)).0 t in
          let q = (eqb_both (at ls w) l (at col w) c).0 s.1 in
          record { w = w; neighbours = f (sym (eqb-true u v s.0)); sector = q.1; label = q.0 }

      first : leads_to (belongs col ls c l) v e ≡ true → Shares (e ∷ es) col ls v c l
      first t =
          ⊎_elim (end e.a e.b (λ q. inl (q, refl))) (end e.b e.a (λ q. inr (inl (q, refl))))
          (or_cases (eqb e.a v && belongs col ls c l e.b) _ t)

      more : Shares es col ls v c l → Shares (e ∷ es) col ls v c l
      more s = record { w = s.w; neighbours = inr (inr s.neighbours); sector = s.sector; label = s.label }

  -- where there is such a region, the test passes
  pub shares_make : (edges : List Edge) → Shares edges col ls v c l → shares edges col ls v c l ≡ true
  unfolding shares leads_to
  shares_make [] s = absurd s.neighbours
  shares_make (e ∷ es) s = go s.neighbours (λ n. shares_make es (record { w = s.w; neighbours = n; sector = s.sector; label = s.label }))
    where
      passes : belongs col ls c l s.w ≡ true
      passes = (eqb_both (at ls s.w) l (at col s.w) c).1 (s.label, s.sector)

      go : Neighbours (e ∷ es) v s.w → (Neighbours es v s.w → shares es col ls v c l ≡ true) → shares (e ∷ es) col ls v c l ≡ true
      go (inl h) r = rw (eq-eqb e.a v (sym h.0), ← h.1, passes)
      go (inr (inl h)) r = rw (eq-eqb e.b v (sym h.0), ← h.1, passes, or-true)
      go (inr (inr h)) r = rw (r h, or-true)
