-- The row of a region in the array of neighbours, and a part of it that is gone through for the first neighbour that shows d.
-- Assumes nothing.
use Rattle.std.specs.Prelude.{ℕ, ◌≤◌, ◌<◌, ◌≡◌, List, ◌≢◌, length, get_or}
use Rattle.std.proofs.Common.{arith}
use Rattle.lists.specs.Sums.{In, at}
use Rattle.lists.specs.Parts.{Passed}
use Rattle.meaning.specs.Plan.{Edge}
use Rattle.neighbours.specs.Net.{Net, net_in}

-- where the row of v starts and ends: both are read, and the row lies within the array
pub record Row (start nb : List ℕ) (v : ℕ) : Type 0 where
  pub low : 1 ≤ v
  pub high : v < length start
  pub rise : at start v ≤ get_or start v 0
  pub fits : get_or start v 0 ≤ length nb

-- the cells of nb from `first` up to `end` hold regions
pub record Span (R : ℕ) (nb : List ℕ) (first end : ℕ) : Type 0 where
  pub order : first ≤ end
  pub fits : end ≤ length nb
  pub inside : (j : ℕ) → first ≤ j → j < end → In R (get_or nb j 0)

-- r is the first cell that shows d, or the end
pub record Scan (nb cur : List ℕ) (d first end r : ℕ) : Type 0 where
  pub passed : Passed (λ x. at cur x ≢ d) nb first end r
  pub next : r < end → at cur (get_or nb r 0) ≡ d

module _ {R : ℕ} {edges : List Edge} {start nb : List ℕ} (net : Net R edges start nb) {v : ℕ} (i : In R v) where
  -- each region has a row
  pub net_row : Row start nb v
  net_row = record { low = i.low; high = omega (arith, net.size, i.high); rise = net.rise v i; fits = net.fits v i }

  -- which holds regions, from any of its places on
  pub net_span : {j : ℕ} → at start v ≤ j → j ≤ get_or start v 0 → Span R nb j (get_or start v 0)
  net_span lo hi = record { order = hi; fits = net.fits v i; inside = λ k a b. net_in net v k i (omega arith) b }
