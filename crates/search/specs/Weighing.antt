-- The row of a region is gone through, and the areas of its edges to the regions that pass a test are added up.
-- Assumes nothing.
use Rattle.std.specs.Prelude.{ℕ, ◌+◌, ◌-◌, ◌≤◌, ◌<◌, ◌≡◌, List, Bool, cond, eqb, length, get_or, drop}
use Rattle.std.proofs.Common.{arith, sym, ap, ◌∙◌}
use Rattle.lists.specs.Sums.{In, at, Every}
use Rattle.meaning.specs.Plan.{Edge, EdgeLimits, most_edges}
use Rattle.meaning.specs.Kinds.{area_of, leads_to}
use Rattle.neighbours.specs.Table.{near, areas, Table}
use Rattle.neighbours.specs.Degree.{same_length}
use Rattle.neighbours.specs.Net.{table_net, net_in}
use Rattle.search.specs.Scan.{Row, net_row}
use Rattle.search.specs.FaceAreas.{weigh, weigh-drop, weigh_end, area_weigh, area_bound}

-- what it starts from: the table of the neighbours and the areas, edges within their limits, a colouring and a region
pub record Weighable (R : ℕ) (edges : List Edge) (start nb ar col : List ℕ) (v : ℕ) : Type 0 where
  pub table : Table R edges start nb ar
  pub few : length edges ≤ most_edges
  pub limits : Every (EdgeLimits R) edges
  pub size : length col ≡ R
  pub region : In R v

-- the row of v up to place j is gone through: with the areas after it, x is the area of v's edges to regions that pass the test
pub record Weighing (R : ℕ) (edges : List Edge) (start nb ar col : List ℕ) (v : ℕ) (test : ℕ → Bool) (x j : ℕ) : Type 0 where
  pub given : Weighable R edges start nb ar col v
  pub low : at start v ≤ j
  pub rest : x + weigh test (drop (j - at start v) (near edges v)) (drop (j - at start v) (areas edges v)) ≡ area_of edges (leads_to test v)

-- the test is that a region has sector c
abbrev pub Towards : (R : ℕ) (edges : List Edge) (start nb ar col : List ℕ) (v c x j : ℕ) → Type 0
Towards R edges start nb ar col v c x j = Weighing R edges start nb ar col v (λ w. eqb (at col w) c) x j

module _ {R : ℕ} {edges : List Edge} {start nb ar col : List ℕ} {v : ℕ} where
  -- v has a row
  pub weighable_row : Weighable R edges start nb ar col v → Row start nb v
  weighable_row g = net_row (table_net g.table) g.region

  module _ {test : ℕ → Bool} where
    -- before the first place nothing is added
    pub weighing_start : Weighable R edges start nb ar col v → Weighing R edges start nb ar col v test 0 (at start v)
    weighing_start g =
        let e : at start v - at start v ≡ 0 = omega arith in
        record { given = g; low = omega arith; rest = rw e (omega (arith, area_weigh test R edges v g.limits)) }

    module _ {x j : ℕ} (w : Weighing R edges start nb ar col v test x j) where
      -- the next neighbour is a region
      pub weighing_in : j < get_or start v 0 → In R (get_or nb j 0)
      weighing_in h = net_in (table_net w.given.table) v j w.given.region w.low h

      -- after the last place it is that of all edges
      pub weighing_end : get_or start v 0 ≤ j → x ≡ area_of edges (leads_to test v)
      weighing_end h =
          omega (arith, w.rest, weigh_end test (j - at start v) (near edges v) (areas edges v) (omega (arith, w.given.table.next v w.given.region)))

      module _ {r : ℕ} (h : j < get_or start v 0) (q : r ≡ cond (test (get_or nb j 0)) (get_or ar j 0) 0) where
        -- the next place is gone through
        pub weighing_turn : Weighing R edges start nb ar col v test (x + r) (j + 1)
        weighing_turn =
            let t = w.given.table in
            let k : j - at start v < length (near edges v) = omega (arith, t.next v w.given.region) in
            let e : at start v + (j - at start v) ≡ j = omega (arith, w.low) in
            let m : j + 1 - at start v ≡ j - at start v + 1 = omega (arith, w.low) in
            let cell : get_or nb j 0 ≡ get_or (near edges v) (j - at start v) 0 = ap (λ (i : ℕ). get_or nb i 0) (sym e) ∙ t.cell v (j - at start v) w.given.region k in
            let area : get_or ar j 0 ≡ get_or (areas edges v) (j - at start v) 0 = ap (λ (i : ℕ). get_or ar i 0) (sym e) ∙ t.area v (j - at start v) w.given.region k in
            let next = weigh-drop test (j - at start v) (near edges v) (areas edges v) k (omega (arith, same_length edges v)) in
            record { given = w.given; low = omega (arith, w.low); rest = rw m (omega (arith, w.rest, next, rw (cell, area) at q)) }

        -- the sum fits
        pub weighing_fits : x + r ≤ 2_048_000_000
        weighing_fits = omega (arith, weighing_turn.rest, area_bound test R edges v w.given.few w.given.limits)
