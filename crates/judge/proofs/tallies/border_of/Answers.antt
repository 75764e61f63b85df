-- The chain adds up the area of each edge that crosses; with the faces to the outside it makes the border, and fits.
use Rattle.std.specs.Prelude.{ℕ, zero, suc, ◌+◌, ◌/◌, ◌≡◌, refl, List, map, cond, length}
use Rattle.std.specs.List.{range_with_len}
use Rattle.std.proofs.Common.{rules, arith, ap, ◌∙◌, add-one}
use Rattle.std.proofs.lemmas.Iterator.{YieldsList-from_range, serves_from_Range}
use Rattle.lists.specs.Sums.{from, sum}
use Rattle.lists.specs.Few.{few_sum}
use Rattle.lists.proofs.Chains.{sum_from_chain, fits_from_chain}
use Rattle.meaning.specs.Plan.{edge_length, edge_at, most_area, edges_of}
use Rattle.meaning.specs.Kinds.{area_of, crosses}
use Rattle.judge.specs.Small.{edge_ends, area_bound}
use Rattle.judge.proofs.tallies.border_of.Goals as goal
use Rattle.judge.proofs.tallies.border_of.Goals.{After-sum-area}

-- what the edge at an index adds
abbrev added : List ℕ → List ℕ → ℕ → ℕ
added edges col k = cond (crosses col (edge_at edges k)) (edge_at edges k).area 0

-- added up over the indices it is the area of the edges
added_up : (edges col : List ℕ) (a n : ℕ) → sum (range_with_len a n) (added edges col) ≡ area_of (map (edge_at edges) (from a n)) (crosses col)
added_up edges col a zero = refl
added_up edges col a (suc n) = ap (λ s. added edges col a + s) (rw (← add-one a) (added_up edges col (a + 1) n))

pub sum_of-outside_area-requires : goal.sum_of-outside_area-requires
sum_of-outside_area-requires c = omega (arith, few_sum c.requires.few most_area (λ a. a) (λ a h. h))

pub sum-area-requires-clause-can : goal.sum-area-requires-clause-can
sum-area-requires-clause-can c =
    (tt, serves_from_Range (λ k q h. search rules) (λ k low below. let ends = edge_ends c.args.edges.now c.requires.small_edges k (rw c.map.ensures.source at below) in search rules))

pub sum-area-requires-clause-fits : goal.sum-area-requires-clause-fits
unfolding edges_of
sum-area-requires-clause-fits c =
    fits_from_chain (added c.args.edges.now c.args.colouring.now) (YieldsList-from_range 0 _ (length c.args.edges.now / edge_length) c.map.ensures.source (omega arith)) c.map.ensures.closure (λ k r q h. search rules)
    (omega (arith, added_up c.args.edges.now c.args.colouring.now 0 (length c.args.edges.now / edge_length), area_bound c.requires.small_edges (crosses c.args.colouring.now)))

-- all edges are gone through
all_edges : (c : After-sum-area) → c.sum-area.result ≡ area_of (edges_of c.args.edges.now) (crosses c.args.colouring.now)
unfolding edges_of
all_edges c =
    sum_from_chain (added c.args.edges.now c.args.colouring.now) (YieldsList-from_range 0 _ (length c.args.edges.now / edge_length) c.map.ensures.source (omega arith)) c.map.ensures.closure (λ k r q h. search rules) c.sum-area.ensures.ran
    ∙ added_up c.args.edges.now c.args.colouring.now 0 _

pub overflow_add-result : goal.overflow_add-result
overflow_add-result c =
    omega (
      arith,
      all_edges (goal.at.overflow_add-result c).After-sum-area,
      area_bound c.requires.small_edges (crosses c.args.colouring.now),
      c.sum_of-outside_area.ensures,
      few_sum c.requires.few most_area (λ a. a) (λ a h. h),
    )

pub returns : goal.returns
returns c = omega (arith, all_edges (goal.at.returns c).After-sum-area, c.sum_of-outside_area.ensures)
