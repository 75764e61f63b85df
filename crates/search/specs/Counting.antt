-- What a count of the components of a sector that share a face with a region starts from.
-- Assumes nothing.
use Rattle.std.specs.Prelude.{ℕ, ◌<◌, List, length, get_or}
use Rattle.std.proofs.Common.{arith}
use Rattle.lists.specs.Sums.{In, at}
use Rattle.meaning.specs.Plan.{Edge}
use Rattle.meaning.specs.Joined.{labels}
use Rattle.meaning.proofs.Labels.{Labelled, labels_right}
use Rattle.neighbours.specs.Net.{Net}
use Rattle.search.specs.Marks.{mark}
use Rattle.search.specs.Flood.{Ready}
use Rattle.search.specs.Scan.{Row, Span, net_row, net_span}

-- it starts from the array of neighbours, a colouring without marks, room in the queue, a region and a sector
pub record Counting (R : ℕ) (edges : List Edge) (start nb col queue : List ℕ) (v d : ℕ) : Type 0 where
  pub net : Net R edges start nb
  pub ready : Ready R col queue
  pub region : In R v
  pub sector : d < mark

module _ {R : ℕ} {edges : List Edge} {start nb col queue : List ℕ} {v d : ℕ} (c : Counting R edges start nb col queue v d) where
  -- v has a row
  pub counting_row : Row start nb v
  counting_row = net_row c.net c.region

  -- which holds regions
  pub counting_span : Span (length col) nb (at start v) (get_or start v 0)
  counting_span = rw c.ready.size (net_span c.net c.region (omega arith) (c.net.rise v c.region))

  -- the labels are right
  pub counting_labels : Labelled edges col (labels edges col)
  counting_labels = labels_right edges col (rw c.ready.size c.net.ends)
