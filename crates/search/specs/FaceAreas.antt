-- The area of a region's edges to the regions that pass a test is a sum along its row.
-- Assumes nothing.
use Rattle.std.specs.Prelude.{ℕ, ◌+◌, ◌-◌, ◌≤◌, ◌<◌, ◌≡◌, Bool, cond, ◌&&◌, eqb, length, get_or, drop}
use Rattle.std.proofs.Common.{add-one, sym, ◌∙◌, drop_of_length-le, get_or-set_other}
use native.Mathlib.Omega.{arith}
use Rattle.std.proofs.Math.Path.{refl}
use mathlib.Core.List.{List, [], ◌∷◌}
use Rattle.std.proofs.Math.Bool.{true, false}
use borrow.Author.Tests.{eqb-true}
use Rattle.std.proofs.Math.Seq.{drop-cons}
use Rattle.lists.specs.Sums.{In, at, Every}
use Rattle.lists.specs.SumLaws.{sum_ext, few_bound, every_turn}
use Rattle.lists.specs.Tests.{cond-le, cond_either, eqb-alike}
use Rattle.meaning.specs.Plan.{Edge, EdgeLimits, most_edges, most_area}
use Rattle.meaning.specs.Kinds.{area_of, leads_to}
use Rattle.meaning.specs.Faces.{lift, area_to}
use Rattle.neighbours.specs.Table.{when, sides, near, areas}

-- of neighbours and areas, cell by cell, the areas of those that pass the test are added up
unfoldable pub weigh : (ℕ → Bool) → List ℕ → List ℕ → ℕ
weigh test [] ss = 0
weigh test (w ∷ ws) [] = 0
weigh test (w ∷ ws) (s ∷ ss) = cond (test w) s 0 + weigh test ws ss

module _ (test : ℕ → Bool) where
  -- a neighbour and an area in front, where t passes
  weigh-when : (t : Bool) (w s : ℕ) (ws ss : List ℕ) → weigh test (when t w ws) (when t s ss) ≡ cond t (cond (test w) s 0) 0 + weigh test ws ss
  unfolding weigh
  weigh-when true w s ws ss = refl
  weigh-when false w s ws ss = omega arith

  -- from cell k on: that cell, and those after it
  pub weigh-drop : (k : ℕ) (ws ss : List ℕ) → k < length ws → k < length ss
      → weigh test (drop k ws) (drop k ss) ≡ cond (test (get_or ws k 0)) (get_or ss k 0) 0 + weigh test (drop (k + 1) ws) (drop (k + 1) ss)
  unfolding weigh
  weigh-drop k ws ss h i = rw (add-one, drop-cons ws k 0 h, drop-cons ss k 0 i)

  -- past the last cell there is nothing
  pub weigh_end : (k : ℕ) (ws ss : List ℕ) → length ws ≤ k → weigh test (drop k ws) (drop k ss) ≡ 0
  unfolding weigh
  weigh_end k ws ss h = rw (drop_of_length-le ws h)

  -- along the row of v it is the area of v's edges to regions that pass
  pub area_weigh : (R : ℕ) (edges : List Edge) (v : ℕ) → Every (EdgeLimits R) edges → weigh test (near edges v) (areas edges v) ≡ area_of edges (leads_to test v)
  unfolding weigh leads_to sides
  area_weigh R [] v l = refl
  area_weigh R (e ∷ es) v l =
      omega (
        arith,
        weigh-when (eqb e.a v) e.b e.area (when (eqb e.b v) e.a (near es v)) (when (eqb e.b v) e.area (areas es v)),
        weigh-when (eqb e.b v) e.a e.area (near es v) (areas es v),
        cond_either (eqb e.a v) (test e.b) (eqb e.b v) (test e.a) e.area (λ s t. omega (arith, eqb-true e.a v s, eqb-true e.b v t, l.0.rise)),
        area_weigh R es v l.1,
      )

  -- which is at most 2,048 * 10 ^ 6
  pub area_bound : (R : ℕ) (edges : List Edge) (v : ℕ) → length edges ≤ most_edges → Every (EdgeLimits R) edges → area_of edges (leads_to test v) ≤ 2_048_000_000
  area_bound R edges v few l =
      few_bound most_edges most_area edges _ few (every_turn (λ e h. cond-le (leads_to test v e) h.area.high (omega arith)) edges l)

-- no edge leads from v to itself: the area of its edges to a sector is the same with v lifted out
pub area_lift : {R v : ℕ} (edges : List Edge) → In R v → Every (EdgeLimits R) edges → (col : List ℕ) (c : ℕ) → area_to edges (lift col v) v c ≡ area_to edges col v c
unfolding area_to leads_to
area_lift {R} {v} edges i l col c = sum_ext edges _ _ (every_turn one edges l)
  where
    end : (u w : ℕ) → (u ≡ v → at (lift col v) w ≡ at col w) → (eqb u v && eqb (at (lift col v) w) c) ≡ (eqb u v && eqb (at col w) c)
    end u w f = eqb-alike (λ h. (h.0, sym (f h.0) ∙ h.1), λ h. (h.0, f h.0 ∙ h.1))

    one : (e : Edge) → EdgeLimits R e
        → cond (leads_to (λ w. eqb (at (lift col v) w) c) v e) e.area 0 ≡ cond (leads_to (λ w. eqb (at col w) c) v e) e.area 0
    one e h =
        rw (
          end e.a e.b (λ q. get_or-set_other col (v - 1) (e.b - 1) 0 0 (λ r. omega (arith, h.rise))),
          end e.b e.a (λ q. get_or-set_other col (v - 1) (e.a - 1) 0 0 (λ r. omega (arith, h.rise, h.low))),
        )
