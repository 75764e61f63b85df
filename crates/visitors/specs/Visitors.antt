-- The arrays that hold which flights visit each region, and what the price of a region's visitors takes for granted.
-- Assumes nothing.
use Rattle.std.specs.Prelude.{ℕ, ◌+◌, ◌-◌, ◌*◌, ◌/◌, ◌≤◌, ◌<◌, ◌≡◌, List, length, take}
use Rattle.std.proofs.Common.{arith, ap, ◌∙◌}
use Rattle.meaning.specs.Plan.{edge_length, edges_of}
use Rattle.meaning.specs.Paths.{Ends}
use Rattle.neighbours.specs.Table.{Table}
use Rattle.kinds.specs.Constraints.{Paying}
use Rattle.flights.specs.Flying.{Flying}
use Rattle.visitors.specs.Flat.{length-flat, edges-flat}
use Rattle.visitors.specs.Hops.{hops_of}
use Rattle.visitors.specs.HopLaws.{length-hops, hops_ends}
use Rattle.visitors.specs.Laid.{Laid}

-- the row of each region has a cell for each visit to it: numbers has R plus the flight's number there, and firsts the index of the flight's first visit
pub record Visitors (R : ℕ) (counts visits starts numbers firsts : List ℕ) : Type 0 where
  pub table : Table (R + length counts) (hops_of R counts visits) starts numbers firsts

-- constraints and flights within the limits and, where there are constraints, the rows
pub record Pricing (R : ℕ) (timed counts visits starts numbers firsts : List ℕ) : Type 0 where
  pub timing : Paying timed
  pub flying : Flying R counts visits
  pub table : 0 < length timed → Visitors R counts visits starts numbers firsts

-- ---- the rows are gathered from the hops that are put down

module _ {R : ℕ} {counts visits : List ℕ} {n : ℕ} {out : List ℕ} (l : Laid R counts visits n out) where
  -- which are the edges of their front
  laid_edges : edges_of (take n out) ≡ hops_of R counts visits
  laid_edges = ap edges_of l.front ∙ edges-flat (hops_of R counts visits)

  -- there are two cells for each
  pub laid_cells : Flying R counts visits → 2 * (length (take n out) / edge_length) ≤ length visits
  laid_cells f = omega (arith, ap length l.front, length-flat (hops_of R counts visits), length-hops R 0 counts visits f, f.size)

  module _ {s : ℕ} (size : s ≡ R + length counts + 1) where
    -- a start for each region and each flight, and one more
    less_one : s - 1 ≡ R + length counts
    less_one = omega arith

    -- their ends are regions and flights
    pub laid_ends : Flying R counts visits → Ends (s - 1) (edges_of (take n out))
    laid_ends f = rw (less_one, laid_edges) (hops_ends f)

    -- their table is that of the visitors
    pub laid_visitors : {starts numbers firsts : List ℕ} → Table (s - 1) (edges_of (take n out)) starts numbers firsts → Visitors R counts visits starts numbers firsts
    laid_visitors t = record { table = rw (less_one, laid_edges) at t }
