-- A search goes on: what holds of the marks and of the queue after some more regions are marked, each a neighbour of one that was.
-- Assumes nothing.
use Rattle.std.specs.Prelude.{ℕ, ◌+◌, ◌≤◌, ◌<◌, ◌≡◌, refl, List, ◌≢◌, length, get_or, set}
use Rattle.std.proofs.Common.{arith, sym, ◌∙◌, ⊎_elim, length-set, get_or-set_same, get_or-set_other}
use Rattle.std.proofs.Math.Decide.{ℕ_discrete, dec_lt}
use Rattle.lists.specs.Sums.{In, at}
use Rattle.meaning.specs.Plan.{Edge}
use Rattle.meaning.specs.Joined.{Neighbours, Joined, itself, along}
use Rattle.meaning.specs.Paths.{joined_trans}
use Rattle.meaning.specs.Moves.{recolour}
use Rattle.search.specs.Marks.{mark, unmask, marked-sector, open_sector, unmask-put, shut_still, mark_keep}
use Rattle.search.specs.Flood.{Reached, reached_cases, Flood, flood_past, flood_room, flood_push}

-- no neighbour of y shows d: each that has it is marked
pub record Done (edges : List Edge) (d : ℕ) (cur : List ℕ) (y : ℕ) : Type 0 where
  pub none : (x : ℕ) → Neighbours edges y x → at cur x ≢ d

-- w is joined to a region that is marked
pub record Origin (R : ℕ) (edges : List Edge) (d : ℕ) (cur : List ℕ) (w : ℕ) : Type 0 where
  pub y : ℕ
  pub reached : Reached R cur y
  pub joined : Joined edges (unmask d cur) y w

-- the marks cur' and the queue of e' regions come of cur and e: more regions are marked, each joined to one that was
pub record Grown (R : ℕ) (edges : List Edge) (d : ℕ) (cur queue : List ℕ) (e : ℕ) (cur' queue' : List ℕ) (e' : ℕ) : Type 0 where
  pub flood : Flood R d cur' queue' e'
  -- nothing but the marks is new
  pub same : unmask d cur' ≡ unmask d cur
  pub size : length queue' ≡ length queue
  pub more : e ≤ e'
  -- what is in the queue stays there, and what is marked stays marked
  pub kept : (k : ℕ) → k < e → get_or queue' k 0 ≡ get_or queue k 0
  pub still : (w : ℕ) → at cur w ≡ mark → at cur' w ≡ mark
  -- each that is marked is joined to one that was, and each that came into the queue was not
  pub origin : (w : ℕ) → Reached R cur' w → Origin R edges d cur w
  pub new : (k : ℕ) → e ≤ k → k < e' → at cur (get_or queue' k 0) ≢ mark

-- before more are marked
pub grown_none : {R : ℕ} {edges : List Edge} {d : ℕ} {cur queue : List ℕ} {e : ℕ} → Flood R d cur queue e → Grown R edges d cur queue e cur queue e
grown_none f =
    record {
      flood = f;
      same = refl;
      size = refl;
      more = omega arith;
      kept = λ k h. refl;
      still = λ w m. m;
      origin = λ w h. record { y = w; reached = h; joined = itself };
      new = λ k a b. absurd (omega arith);
    }

module _ {R : ℕ} {edges : List Edge} {d : ℕ} {cur queue : List ℕ} {e : ℕ} {cur' queue' : List ℕ} {e' : ℕ} (g : Grown R edges d cur queue e cur' queue' e') where
  -- a region that does not show d does not show it afterwards
  pub grown_shut : (x : ℕ) → at cur x ≢ d → at cur' x ≢ d
  grown_shut x n = shut_still d cur cur' g.flood.low g.same x (g.still x) n

  -- what stands past the end of the queue is no matter
  pub grown_past : (x : ℕ) → Grown R edges d cur queue e cur' (set queue' e' x) e'
  grown_past x =
      record {
        flood = flood_past g.flood x;
        same = g.same;
        size = length-set queue' e' x ∙ g.size;
        more = g.more;
        kept = λ k h. get_or-set_other queue' e' k x 0 (omega (arith, g.more)) ∙ g.kept k h;
        still = g.still;
        origin = g.origin;
        new = λ k a b. rw (get_or-set_other queue' e' k x 0 (omega arith)) (g.new k a b);
      }

  -- a neighbour that shows d, of a region that was marked, is marked and put into the queue
  pub grown_push : {y z : ℕ} → Reached R cur y → Neighbours edges y z → In R z → at cur' z ≡ d → Grown R edges d cur queue e (recolour cur' z mark) (set queue' e' z) (e' + 1)
  grown_push {y} {z} r n i o =
      record {
        flood = flood_push g.flood i o;
        same = unmask-put d cur' g.same z shows;
        size = length-set queue' e' z ∙ g.size;
        more = omega (arith, g.more);
        kept = λ k h. get_or-set_other queue' e' k z 0 (omega (arith, g.more)) ∙ g.kept k h;
        still = λ w m. mark_keep cur' z w (g.still w m);
        origin = λ w h. ⊎_elim (λ q. rw q (record { y = y; reached = r; joined = link })) (λ m. g.origin w m) (reached_cases cur' g.flood.size i h);
        new = λ k a b. new k a b (ℕ_discrete k e');
      }
    where
      shows : at (unmask d cur) z ≡ d
      shows = open_sector d cur' g.same z o

      link : Joined edges (unmask d cur) y z
      link = along n (marked-sector d cur refl y r.marked ∙ sym shows) itself

      fresh : at cur z ≢ mark
      fresh m = omega (arith, g.still z m, g.flood.low)

      last : get_or (set queue' e' z) e' 0 ≡ z
      last = get_or-set_same queue' e' z 0 (omega (arith, flood_room g.flood i o, g.flood.room))

      new : (k : ℕ) → e ≤ k → k < e' + 1 → Dec (k ≡ e') → at cur (get_or (set queue' e' z) k 0) ≢ mark
      new k a b (yes q) = rw (q, last) fresh
      new k a b (no m) = rw (get_or-set_other queue' e' k z 0 m) (g.new k a (omega arith))

-- some more regions are marked, and then some more again
pub grown_trans : {R : ℕ} {edges : List Edge} {d : ℕ} {cur queue : List ℕ} {e : ℕ} {cur' queue' : List ℕ} {e' : ℕ} {cur'' queue'' : List ℕ} {e'' : ℕ}
    → Grown R edges d cur queue e cur' queue' e' → Grown R edges d cur' queue' e' cur'' queue'' e'' → Grown R edges d cur queue e cur'' queue'' e''
grown_trans {R} {edges} {d} {cur} {queue} {e} {cur'} {queue'} {e'} {cur''} {queue''} {e''} f g =
    record {
      flood = g.flood;
      same = g.same ∙ f.same;
      size = g.size ∙ f.size;
      more = omega (arith, f.more, g.more);
      kept = λ k h. g.kept k (omega (arith, f.more)) ∙ f.kept k h;
      still = λ w m. g.still w (f.still w m);
      origin = λ w r. let o = g.origin w r in let p = f.origin o.y o.reached in record { y = p.y; reached = p.reached; joined = joined_trans p.joined (rw f.same at o.joined) };
      new = λ k a b. new k a b (dec_lt k e');
    }
  where
    new : (k : ℕ) → e ≤ k → k < e'' → Dec (k < e') → at cur (get_or queue'' k 0) ≢ mark
    new k a b (yes l) = rw (g.kept k l) (f.new k a l)
    new k a b (no l) = λ m. g.new k (omega arith) b (f.still _ m)
