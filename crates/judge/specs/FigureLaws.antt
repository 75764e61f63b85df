-- From the tallies of a colouring come its figures and its gauges, and from these its violations, its total and its verdicts.
-- Assumes nothing.
use Rattle.std.specs.Prelude.{ℕ, ◌+◌, ◌<◌, ◌≡◌, Bool, ◌&&◌, length, get_or}
use Rattle.std.proofs.Common.{arith, ◌∙◌}
use Rattle.std.proofs.Math.Path.{refl, sym, ap}
use mathlib.Core.List.{List, [], ◌∷◌, map, map-map}
use Rattle.std.proofs.Math.Bool.{true, false, cond}
use borrow.Author.Tests.{eqb-true, ne_eqb, leb-true}
use Rattle.std.proofs.Math.Dec.{eqb, leb}
use Rattle.lists.specs.Sums.{from, list_of, sum, Every}
use Rattle.lists.specs.SumLaws.{every_from}
use Rattle.lists.specs.ListLaws.{map_ext, get_or-list_of}
use Rattle.lists.specs.Places.{sum-at}
use Rattle.terms.specs.Plan.{within}
use Rattle.meaning.specs.Plan.{Constraint, Plan, Coloured, sectors, constraint_at, constraints_of}
use Rattle.meaning.specs.Kinds.{load, whole, crosses, area_of, outside_area, border, counts, loads, deviation, connected, bounded, by_kind, violation, holds, total}
use Rattle.meaning.proofs.Components.{ncc-sum}
use Rattle.meaning.specs.Moves.{verdict, verdicts_of, verdicts}
use Rattle.meaning.specs.Prices.{shared, limited, price, sector_price, prices, limit_total, dwell_total}
use Rattle.meaning.specs.Weighted.{kinds_sum, weighted-all}
use Rattle.meaning.proofs.PriceLaws.{total_parts}
use Rattle.judge.specs.Figures.{figures_of, figures_by, gauge_of, gauges, verdict_gauge_of, verdict_gauges, gauge_by, gauges_by, constraint_count, violation_by, violation_at, total_by, judged, verdicts_by}

-- the places of the constraints in the flat list, from 0
abbrev places : List ℕ → List ℕ
places constraints = from 0 (constraint_count constraints)

-- a number that a test picks is picked by the same test again
cond_twice : (t : Bool) (n : ℕ) → cond t (cond t n 0) 0 ≡ cond t n 0
cond_twice true n = refl
cond_twice false n = refl

-- the verdicts on some constraints, by their violations
judged-verdicts : (P : Plan) (col : List ℕ) (ks : List Constraint) → judged (map (violation P col) ks) ≡ verdicts_of P col ks
unfolding verdicts_of verdict holds
judged-verdicts P col [] = refl
judged-verdicts P col (k ∷ ks) = rw (judged-verdicts P col ks)

module _ (P : Plan) where
  -- the workloads make the whole workload
  pub whole_by : length P.workloads ≡ P.R → sum P.workloads (λ w. w) ≡ whole P
  unfolding whole
  whole_by l = sum-at P.R P.workloads (λ w. w) l

  module _ (col : List ℕ) where
    -- the edges and the faces to the outside make the border
    pub border_by : length P.outside ≡ P.R → area_of P.edges (crosses col) + sum P.outside (λ a. a) ≡ border P col
    unfolding border outside_area
    border_by l = ap (λ n. area_of P.edges (crosses col) + n) (sum-at P.R P.outside (λ a. a) l)

    -- the tallies make the figures
    pub figures_by_lem : Coloured P col → figures_by P.S (whole P) (counts P col) (loads P col) (border P col) (limit_total P col) (dwell_total P col) ≡ figures_of P col
    unfolding figures_by figures_of deviation
    figures_by_lem k = rw (ncc-sum P col k)

    -- the workloads of the sectors make what each of them pays
    pub prices_by : map (price (limited P.constraints)) (loads P col) ≡ prices P col
    unfolding prices loads sector_price
    prices_by = map-map (price (limited P.constraints)) (load P col) (sectors P)

    module _ (k : Constraint) where
      -- the figures alone make the violation of a constraint of kinds 1 to 3
      shared-violation : cond (within 1 k.kind 3) (violation_by (figures_of P col) 0 k) 0 ≡ cond (within 1 k.kind 3) (violation P col k) 0
      unfolding violation_by figures_of violation connected by_kind
      shared-violation = go (leb 1 k.kind) (leb k.kind 3) refl
        where
          go : (s t : Bool) → leb k.kind 3 ≡ t → cond (s && t) (violation_by (figures_of P col) 0 k) 0 ≡ cond (s && t) (violation P col k) 0
          go true true e = let high = leb-true k.kind 3 e in rw (ne_eqb k.kind 4 (omega arith), ne_eqb k.kind 5 (omega arith))
          go true false e = refl
          go false t e = refl

      -- with the gauge that its verdict asks for they make the violation of a constraint of any kind
      verdict-violation : violation_by (figures_of P col) (verdict_gauge_of P col k) k ≡ violation P col k
      unfolding violation_by figures_of gauge_of verdict_gauge_of violation connected by_kind
      verdict-violation = go (eqb k.kind 5) refl
        where
          go : (t : Bool) → eqb k.kind 5 ≡ t → violation_by (figures_of P col) (verdict_gauge_of P col k) k ≡ violation P col k
          go true e = rw (eqb-true k.kind 5 e)
          go false e = rw (e, cond_twice (eqb k.kind 4) (bounded P col k))

    -- the figures and the constraints of kinds 1 to 3 make the total
    pub total_by_lem : total_by (figures_of P col) (shared P.constraints) ≡ total P col
    unfolding total_by figures_of
    total_by_lem =
        let ks = P.constraints in
        ap (λ n. n + limit_total P col + dwell_total P col)
        (sym (kinds_sum 1 3 ks (violation_by (figures_of P col) 0)) ∙ weighted-all ks _ _ shared-violation ∙ kinds_sum 1 3 ks (violation P col))
        ∙ sym (total_parts P col)

    module _ (constraints : List ℕ) (e : P.constraints ≡ constraints_of constraints) where
      -- the workloads of the sectors make the gauges
      pub gauges_by_lem : gauges_by (loads P col) constraints ≡ gauges P col
      unfolding gauges_by gauge_by gauges gauge_of bounded
      gauges_by_lem = rw e

      -- one number for each constraint, one by one
      map-list_of : (g : Constraint → ℕ) → map g P.constraints ≡ list_of (constraint_count constraints) (λ i. g (constraint_at constraints i))
      unfolding constraints_of
      map-list_of g = ap (map g) e ∙ map-map g (constraint_at constraints) (places constraints)

      -- the gauges, one by one
      gauges-list_of : gauges P col ≡ list_of (constraint_count constraints) (λ i. gauge_of P col (constraint_at constraints i))
      unfolding gauges
      gauges-list_of = map-list_of (gauge_of P col)

      -- those that the verdicts ask for
      pub verdict-gauges-list_of : verdict_gauges P col ≡ list_of (constraint_count constraints) (λ i. verdict_gauge_of P col (constraint_at constraints i))
      unfolding verdict_gauges
      verdict-gauges-list_of = map-list_of (verdict_gauge_of P col)

      -- the gauge at each place is that of the constraint there
      pub gauge_at : (i : ℕ) → i < constraint_count constraints → get_or (gauges P col) i 0 ≡ gauge_of P col (constraint_at constraints i)
      gauge_at i h = ap (λ l. get_or l i 0) gauges-list_of ∙ get_or-list_of (constraint_count constraints) _ 0 i h

      -- where gauges make the violations v of all constraints, they make those at all places
      violations_at : (gauges : List ℕ) (g v : Constraint → ℕ) → gauges ≡ list_of (constraint_count constraints) (λ i. g (constraint_at constraints i)) → ((k : Constraint) → violation_by (figures_of P col) (g k) k ≡ v k)
          → Every (λ i. violation_at (figures_of P col) gauges constraints i ≡ v (constraint_at constraints i)) (places constraints)
      violations_at gauges g v p law =
          every_from _ 0 (constraint_count constraints)
          (λ i lo hi.
          ap (λ n. violation_by (figures_of P col) n (constraint_at constraints i))
          (ap (λ l. get_or l i 0) p ∙ get_or-list_of (constraint_count constraints) _ 0 i (omega arith))
          ∙ law (constraint_at constraints i))

      -- with the gauges that the verdicts ask for the figures make them
      pub verdicts_by_lem : verdicts_by (figures_of P col) (verdict_gauges P col) constraints (constraint_count constraints) ≡ verdicts P col
      unfolding verdicts_by constraints_of
      verdicts_by_lem =
          ap judged
          (map_ext (places constraints) _ _ (violations_at (verdict_gauges P col) (verdict_gauge_of P col) (violation P col) verdict-gauges-list_of verdict-violation)
          ∙ sym (map-map (violation P col) (constraint_at constraints) (places constraints))
          ∙ ap (map (violation P col)) (sym e))
          ∙ judged-verdicts P col P.constraints
