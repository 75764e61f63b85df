-- The first regions of the queue are done with: none of their neighbours shows d.
-- Assumes nothing.
use Rattle.std.specs.Prelude.{ℕ, ◌+◌, ◌≤◌, ◌<◌, ◌≡◌, List, ◌≢◌, get_or, set}
use Rattle.std.proofs.Common.{arith, sym, ◌∙◌, get_or-set_other}
use Rattle.std.proofs.Math.Decide.{ℕ_discrete}
use Rattle.lists.specs.Sums.{at}
use Rattle.meaning.specs.Plan.{Edge}
use Rattle.meaning.specs.Joined.{Joined, itself, along}
use Rattle.meaning.specs.Moves.{recolour}
use Rattle.meaning.specs.Paths.{Ends, neighbours_far}
use Rattle.search.specs.Marks.{mark, unmask, marked-sector, sector-marked, mark_shut}
use Rattle.search.specs.Flood.{Reached, Flood}
use Rattle.search.specs.Grown.{Done, grown_shut}
use Rattle.search.specs.Expanding.{Expanded}

-- the first h of the queue are done with
pub record Closed (edges : List Edge) (d : ℕ) (cur queue : List ℕ) (h : ℕ) : Type 0 where
  pub done : (k : ℕ) → k < h → Done edges d cur (get_or queue k 0)

module _ {edges : List Edge} {d : ℕ} {cur queue : List ℕ} where
  -- none yet
  pub closed_none : Closed edges d cur queue 0
  closed_none = record { done = λ k h. absurd (omega arith) }

  module _ {h : ℕ} (c : Closed edges d cur queue h) where
    -- the next one, once its neighbours of sector d are marked
    pub closed_turn : {R e : ℕ} {cur' queue' : List ℕ} {e' : ℕ} → h < e → Expanded R edges d cur queue e (get_or queue h 0) cur' queue' e' → Closed edges d cur' queue' (h + 1)
    closed_turn {e = e} {cur' = cur'} {queue' = queue'} b x = record { done = λ k l. go k l (ℕ_discrete k h) }
      where
        go : (k : ℕ) → k < h + 1 → Dec (k ≡ h) → Done edges d cur' (get_or queue' k 0)
        go k l (yes q) = rw (q, x.grown.kept h b) x.done
        go k l (no n) =
            let lh : k < h = omega arith in
            let le : k < e = omega arith in
            rw (x.grown.kept k le) (record { none = λ y a. grown_shut x.grown y ((c.done k lh).none y a) })

    -- they still are once one more region is marked and put behind them
    pub closed_push : (e z : ℕ) → h ≤ e → d < mark → Closed edges d (recolour cur z mark) (set queue e z) h
    closed_push e z b low =
        record { done = λ k l. rw (get_or-set_other queue e k z 0 (omega arith)) (record { none = λ y a. mark_shut d cur z y low ((c.done k l).none y a) }) }

    -- where all of the queue is done with, what is joined to a marked region is marked
    pub closed_joined : {R e : ℕ} {col : List ℕ} → Ends R edges → Flood R d cur queue e → unmask d cur ≡ col → e ≤ h → {u w : ℕ} → Joined edges col u w → Reached R cur u → Reached R cur w
    closed_joined ends f same b itself r = r
    closed_joined ends f same b {u} (along {w = x} a q j) r =
        let p = f.place u r in
        let shut : at cur x ≢ d = (c.done p.place (omega (arith, p.high))).none x (rw p.is a) in
        let sector = sym q ∙ marked-sector d cur same u r.marked in
        closed_joined ends f same b j (record { inside = neighbours_far edges u x ends a; marked = sector-marked d cur same x sector shut })
