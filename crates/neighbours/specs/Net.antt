-- What a search wants of the arrays: which cells are those of a region, and that its neighbours are in them.
-- Assumes nothing.
use Rattle.std.specs.Prelude.{ℕ, ◌+◌, ◌-◌, ◌≤◌, ◌<◌, ◌≡◌, List, length, get_or}
use Rattle.std.proofs.Common.{arith, sym, ap, ◌∙◌, subst}
use Rattle.lists.specs.Sums.{In, at}
use Rattle.meaning.specs.Plan.{Edge}
use Rattle.meaning.specs.Joined.{Neighbours}
use Rattle.meaning.specs.Paths.{Ends, neighbours_far}
use Rattle.neighbours.specs.Table.{near, Table}
use Rattle.neighbours.specs.Near.{near_neighbours, neighbours_near}

-- x stands in a cell of v
pub record Slot (start nb : List ℕ) (v x : ℕ) : Type 0 where
  -- the index of the cell
  pub index : ℕ
  -- it is one of v's
  pub low : at start v ≤ index
  pub high : index < get_or start v 0
  -- and has x
  pub is : get_or nb index 0 ≡ x

-- start and nb have, for each region of 1..R, the neighbours in some order
pub record Net (R : ℕ) (edges : List Edge) (start nb : List ℕ) : Type 0 where
  -- one number for each region, and one more
  pub size : length start ≡ R + 1
  -- edges have their ends among 1..R
  pub ends : Ends R edges
  -- the cells of v are those from index `at start v` up to `get_or start v 0`
  pub rise : (v : ℕ) → In R v → at start v ≤ get_or start v 0
  pub fits : (v : ℕ) → In R v → get_or start v 0 ≤ length nb
  -- each cell of v has a neighbour of v
  pub beside : (v j : ℕ) → In R v → at start v ≤ j → j < get_or start v 0 → Neighbours edges v (get_or nb j 0)
  -- each neighbour of v has a cell of v
  pub all : (v x : ℕ) → In R v → Neighbours edges v x → Slot start nb v x

-- a table has all that a search wants
pub table_net : {R : ℕ} {edges : List Edge} {start nb ar : List ℕ} → Table R edges start nb ar → Net R edges start nb
table_net {R} {edges} {start} {nb} t =
    record {
      size = t.size;
      ends = t.ends;
      rise = λ v h. omega (arith, t.next v h);
      fits = t.fits;
      beside = beside;
      all = all;
    }
  where
    beside : (v j : ℕ) → In R v → at start v ≤ j → j < get_or start v 0 → Neighbours edges v (get_or nb j 0)
    beside v j h low high =
        let k : j - at start v < length (near edges v) = omega (arith, t.next v h) in
        let e : at start v + (j - at start v) ≡ j = omega arith in
        subst (Neighbours edges v) (sym (t.cell v (j - at start v) h k) ∙ ap (λ (i : ℕ). get_or nb i 0) e) (near_neighbours edges v (j - at start v) k)

    all : (v x : ℕ) → In R v → Neighbours edges v x → Slot start nb v x
    all v x h n =
        let m = neighbours_near edges v x n in
        record {
          index = at start v + m.index;
          low = omega arith;
          high = omega (arith, t.next v h);
          is = t.cell v m.index h m.below ∙ m.is;
        }

-- what stands in a cell of v is a region
pub net_in : {R : ℕ} {edges : List Edge} {start nb : List ℕ} → Net R edges start nb → (v j : ℕ) → In R v → at start v ≤ j
    → j < get_or start v 0 → In R (get_or nb j 0)
net_in {edges = edges} {nb = nb} n v j h low high = neighbours_far edges v (get_or nb j 0) n.ends (n.beside v j h low high)
