-- The neighbours of a marked region are gone through, one by one: each that shows d is marked and put into the queue.
-- Assumes nothing.
use Rattle.std.specs.Prelude.{ℕ, ◌+◌, ◌≤◌, ◌<◌, ◌≡◌, List, ◌≢◌, eqb, length, get_or, set}
use Rattle.std.proofs.Common.{arith}
use Rattle.lists.specs.Sums.{In, at, bit}
use Rattle.lists.specs.Parts.{Passed, passed_start, passed_turn, passed_map}
use Rattle.meaning.specs.Plan.{Edge}
use Rattle.meaning.specs.Joined.{Neighbours, instead}
use Rattle.meaning.specs.Moves.{recolour}
use Rattle.meaning.proofs.MoveLaws.{recolour-own}
use Rattle.neighbours.specs.Net.{Net, net_in}
use Rattle.search.specs.Marks.{mark, mark_shut, by_test}
use Rattle.search.specs.Flood.{Reached, reached_here, Flood, flood_top}
use Rattle.search.specs.Scan.{Row, net_row}
use Rattle.search.specs.Grown.{Done, Grown, grown_none, grown_past, grown_push}

-- what a turn of a search starts from: some regions are marked and in the queue, and y is one of them
pub record Expandable (R : ℕ) (edges : List Edge) (start nb : List ℕ) (d : ℕ) (cur queue : List ℕ) (e y : ℕ) : Type 0 where
  pub net : Net R edges start nb
  pub flood : Flood R d cur queue e
  pub reached : Reached R cur y

-- and what it comes to: its neighbours of sector d are marked and in the queue too
pub record Expanded (R : ℕ) (edges : List Edge) (d : ℕ) (cur queue : List ℕ) (e y : ℕ) (cur' queue' : List ℕ) (e' : ℕ) : Type 0 where
  pub grown : Grown R edges d cur queue e cur' queue' e'
  pub done : Done edges d cur' y

-- the neighbours of y up to place j are gone through: none of them shows d
pub record Expanding (R : ℕ) (edges : List Edge) (start nb : List ℕ) (d : ℕ) (cur queue : List ℕ) (e y : ℕ) (cur' queue' : List ℕ) (e' j : ℕ) : Type 0 where
  pub given : Expandable R edges start nb d cur queue e y
  pub grown : Grown R edges d cur queue e cur' queue' e'
  pub passed : Passed (λ x. at cur' x ≢ d) nb (at start y) (get_or start y 0) j

module _ {R : ℕ} {edges : List Edge} {start nb : List ℕ} {d : ℕ} {cur queue : List ℕ} {e y : ℕ} where
  -- y has a row
  pub expandable_row : Expandable R edges start nb d cur queue e y → Row start nb y
  expandable_row g = net_row g.net g.reached.inside

  -- none of its neighbours is gone through yet
  pub expanding_start : Expandable R edges start nb d cur queue e y → Expanding R edges start nb d cur queue e y cur queue e (at start y)
  expanding_start g = record { given = g; grown = grown_none g.flood; passed = passed_start (g.net.rise y g.reached.inside) }

  module _ {cur' queue' : List ℕ} {e' j : ℕ} (x : Expanding R edges start nb d cur queue e y cur' queue' e' j) where
    -- there is room in the queue
    pub expanding_room : e' < length queue'
    expanding_room = omega (arith, flood_top x.grown.flood, x.grown.flood.room)

    -- all of them are gone through
    pub expanding_end : get_or start y 0 ≤ j → Expanded R edges d cur queue e y cur' queue' e'
    expanding_end h = record { grown = x.grown; done = record { none = none } }
      where
        none : (z : ℕ) → Neighbours edges y z → at cur' z ≢ d
        none z n = let s = x.given.net.all y z x.given.reached.inside n in rw (← s.is) (x.passed.each s.index s.low (omega (arith, s.high)))

    -- the next one is a region
    pub expanding_in : j < get_or start y 0 → In R (get_or nb j 0)
    expanding_in h = net_in x.given.net y j x.given.reached.inside x.passed.low h

    -- it is gone through, without a branch
    pub expanding_turn : {m b : ℕ} → j < get_or start y 0 → m ≡ instead d mark (at cur' (get_or nb j 0)) → b ≡ bit (eqb (at cur' (get_or nb j 0)) d)
        → Expanding R edges start nb d cur queue e y (recolour cur' (get_or nb j 0) m) (set queue' e' (get_or nb j 0)) (e' + b) (j + 1)
    expanding_turn h em eb = by_test After (at cur' z) d em eb hit miss
      where
        z : ℕ
        z = get_or nb j 0

        After : ℕ → ℕ → Type 0
        After m b = Expanding R edges start nb d cur queue e y (recolour cur' z m) (set queue' e' z) (e' + b) (j + 1)

        hit : at cur' z ≡ d → After mark 1
        hit o =
            let f = x.grown.flood in
            let r = x.given.reached in
            record {
              given = x.given;
              grown = grown_push x.grown r (x.given.net.beside y j r.inside x.passed.low h) (expanding_in h) o;
              passed = passed_turn (passed_map (λ w. mark_shut d cur' z w f.low) x.passed) h (λ q. omega (arith, (reached_here cur' f.size (expanding_in h)).marked, f.low));
            }

        miss : at cur' z ≢ d → After (at cur' z) 0
        miss n =
            let w : e' + 0 ≡ e' = omega arith in
            rw (recolour-own cur' z, w) (record { given = x.given; grown = grown_past x.grown z; passed = passed_turn x.passed h n })
