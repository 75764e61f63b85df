-- A search goes on until all of the queue is done with.
-- Assumes nothing.
use Rattle.std.specs.Prelude.{ℕ, ◌+◌, ◌≤◌, ◌<◌, List, length, get_or}
use Rattle.std.proofs.Common.{arith}
use Rattle.meaning.specs.Plan.{Edge}
use Rattle.neighbours.specs.Net.{Net}
use Rattle.search.specs.Flood.{Flood, flood_top}
use Rattle.search.specs.Grown.{Grown, grown_none, grown_trans}
use Rattle.search.specs.Expanding.{Expandable, Expanded}
use Rattle.search.specs.Closed.{Closed, closed_turn}

-- what a search starts from: some regions are marked and in the queue, and the first h of them are done with
pub record Growable (R : ℕ) (edges : List Edge) (start nb : List ℕ) (d : ℕ) (cur queue : List ℕ) (e h : ℕ) : Type 0 where
  pub net : Net R edges start nb
  pub flood : Flood R d cur queue e
  pub head : h ≤ e
  pub closed : Closed edges d cur queue h

-- where it stands: more regions are marked, and the first h of the queue are done with
pub record Growing (R : ℕ) (edges : List Edge) (start nb : List ℕ) (d : ℕ) (cur queue : List ℕ) (e : ℕ) (cur' queue' : List ℕ) (e' h : ℕ) : Type 0 where
  pub net : Net R edges start nb
  pub grown : Grown R edges d cur queue e cur' queue' e'
  pub head : h ≤ e'
  pub closed : Closed edges d cur' queue' h

-- nothing more is marked yet
pub growing_start : {R : ℕ} {edges : List Edge} {start nb : List ℕ} {d : ℕ} {cur queue : List ℕ} {e h : ℕ} → Growable R edges start nb d cur queue e h → Growing R edges start nb d cur queue e cur queue e h
growing_start g = record { net = g.net; grown = grown_none g.flood; head = g.head; closed = g.closed }

module _ {R : ℕ} {edges : List Edge} {start nb : List ℕ} {d : ℕ} {cur queue : List ℕ} {e : ℕ} {cur' queue' : List ℕ} {e' h : ℕ} (g : Growing R edges start nb d cur queue e cur' queue' e' h) where
  -- the queue is shorter than the array that holds it
  pub growing_room : e' < length queue'
  growing_room = omega (arith, flood_top g.grown.flood, g.grown.flood.room)

  -- there are no more regions in it than R
  pub growing_top : e' ≤ R
  growing_top = flood_top g.grown.flood

  -- the next of the queue is marked
  pub growing_next : h < e' → Expandable R edges start nb d cur' queue' e' (get_or queue' h 0)
  growing_next b = record { net = g.net; flood = g.grown.flood; reached = g.grown.flood.queued h b }

  -- and is done with
  pub growing_turn : {cur'' queue'' : List ℕ} {e'' : ℕ} → h < e' → Expanded R edges d cur' queue' e' (get_or queue' h 0) cur'' queue'' e'' → Growing R edges start nb d cur queue e cur'' queue'' e'' (h + 1)
  growing_turn b x = record { net = g.net; grown = grown_trans g.grown x.grown; head = omega (arith, x.grown.more); closed = closed_turn g.closed b x }

  -- all of it is done with
  pub growing_end : e' ≤ h → Growing R edges start nb d cur queue e cur' queue' e' e'
  growing_end b = record { net = g.net; grown = g.grown; head = omega arith; closed = record { done = λ k l. g.closed.done k (omega arith) } }
