-- The components of some regions are labelled anew, one after the other.
-- Assumes nothing.
use Rattle.std.specs.Prelude.{ℕ, ◌+◌, ◌≤◌, ◌≡◌, refl, List, ◌≢◌, ◌⊎◌, length}
use Rattle.std.proofs.Common.{zero-add, arith, sym, ◌∙◌, inl, inr}
use Rattle.std.proofs.Math.Decide.{ℕ_discrete}
use Rattle.lists.specs.Sums.{In, at}
use Rattle.meaning.specs.Plan.{Edge}
use Rattle.meaning.specs.Joined.{Joined, labels}
use Rattle.meaning.specs.Paths.{Ends}
use Rattle.meaning.specs.Moves.{differing}
use Rattle.neighbours.specs.Net.{Net}
use Rattle.search.specs.Marks.{mark, unmask, marked-sector, sector-marked, shut_still}
use Rattle.search.specs.Flood.{ready_same, Reached, Flood, flood_none}
use Rattle.search.specs.Counting.{Counting}
use Rattle.relabel.specs.Differing.{differing-none, differing-le, differing-add}
use Rattle.search.specs.Closed.{closed_none}
use Rattle.relabel.specs.Seeding.{Whole, whole-joined, Seedable, Seeded}

-- the label of w is the right one, w being of sector d; or it is as it was, and then w is joined to no seed of sector d
pub data Renewal (edges : List Edge) (col : List ℕ) (d : ℕ) (Seed : ℕ → Type 0) (ls ls' : List ℕ) (w : ℕ) : Type 0 where
  anew : at col w ≡ d → at ls' w ≡ at (labels edges col) w → Renewal edges col d Seed ls ls' w
  kept : at ls' w ≡ at ls w → ((x : ℕ) → Seed x → at col x ≡ d → Joined edges col x w → ⊥) → Renewal edges col d Seed ls ls' w

-- the components of the seeds of sector d are labelled anew, and no others; n labels are new
pub record Renewed (R : ℕ) (edges : List Edge) (col : List ℕ) (d : ℕ) (Seed : ℕ → Type 0) (ls ls' : List ℕ) (n : ℕ) : Type 0 where
  pub size : length ls' ≡ R
  pub each : (w : ℕ) → In R w → Renewal edges col d Seed ls ls' w
  pub number : n ≡ differing R ls ls'

-- where that stands: what is marked is labelled anew, and nothing else is
pub record Sowing (R : ℕ) (edges : List Edge) (col : List ℕ) (d : ℕ) (ls cur ls' queue : List ℕ) (e n : ℕ) : Type 0 where
  pub whole : Whole R edges d cur queue e
  pub size : length ls' ≡ R
  pub same : unmask d cur ≡ col
  pub right : (w : ℕ) → Reached R cur w → at ls' w ≡ at (labels edges col) w
  pub stays : (w : ℕ) → In R w → at cur w ≢ mark → at ls' w ≡ at ls w
  pub number : n ≡ differing R ls ls'

-- nothing is yet
pub sowing_start : {R : ℕ} {edges : List Edge} {start nb col queue : List ℕ} {v d : ℕ} {ls : List ℕ} → Counting R edges start nb col queue v d → length ls ≡ R → Sowing R edges col d ls col ls queue 0 0
sowing_start {R} {d = d} {ls = ls} c size =
    record {
      whole = record { flood = flood_none c.ready c.sector; closed = closed_none };
      size = size;
      same = ready_same d c.ready;
      right = λ w r. absurd (omega (arith, r.marked, c.ready.plain w r.inside));
      stays = λ w i n. refl;
      number = sym (differing-none R ls);
    }

module _ {R : ℕ} {edges : List Edge} {col : List ℕ} {d : ℕ} {ls cur ls' queue : List ℕ} {e n : ℕ} (a : Sowing R edges col d ls cur ls' queue e n) where
  -- a region is looked at next
  pub sowing_next : {start nb : List ℕ} {s : ℕ} → Net R edges start nb → In R s → Seedable R edges start nb d s cur ls' queue e
  sowing_next net i = record { net = net; whole = a.whole; size = a.size; region = i }

  module _ {s : ℕ} {cur'' ls'' queue'' : List ℕ} {e'' k : ℕ} (x : Seeded R edges d s cur ls' queue cur'' ls'' queue'' e'' k) where
    -- its component is labelled
    pub sowing_turn : Sowing R edges col d ls cur'' ls'' queue'' e'' (n + k)
    sowing_turn =
        record {
          whole = x.whole;
          size = x.size;
          same = x.same ∙ a.same;
          right = λ w r. right w r (ℕ_discrete (at cur w) mark);
          stays = λ w i m. x.kept w i (λ q. absurd (m q)) ∙ a.stays w i (λ q. m (x.still w q));
          number = rw (a.number, x.number) (differing-add R ls ls' ls'' (λ w i. once w i (ℕ_discrete (at cur w) mark)));
        }
      where
        right : (w : ℕ) → Reached R cur'' w → Dec (at cur w ≡ mark) → at ls'' w ≡ at (labels edges col) w
        right w r (yes m) = x.kept w r.inside (λ _. m) ∙ a.right w (record { inside = r.inside; marked = m })
        right w r (no m) = rw (← a.same) (x.right w r m)

        once : (w : ℕ) → In R w → Dec (at cur w ≡ mark) → (at ls' w ≡ at ls w) ⊎ (at ls'' w ≡ at ls' w)
        once w i (yes m) = inr (x.kept w i (λ _. m))
        once w i (no m) = inl (a.stays w i m)

    -- what does not show d does not show it afterwards
    pub sowing_shut : (y : ℕ) → at cur y ≢ d → at cur'' y ≢ d
    sowing_shut y n = shut_still d cur cur'' a.whole.flood.low x.same y (x.still y) n

  -- no more labels are new than there are regions
  pub sowing_few : n ≤ R
  sowing_few = omega (arith, a.number, differing-le R ls ls')

  -- the marks can be taken off
  pub sowing_restore : Flood (length cur) d cur queue e
  sowing_restore = rw a.whole.flood.size a.whole.flood

  -- no seed shows d
  pub sowing_end : {Seed : ℕ → Type 0} → Ends R edges → ((x : ℕ) → Seed x → In R x × (at cur x ≢ d)) → Renewed R edges col d Seed ls ls' n
  sowing_end {Seed} ends f = record { size = a.size; each = λ w i. each w i (ℕ_discrete (at cur w) mark); number = a.number }
    where
      each : (w : ℕ) → In R w → Dec (at cur w ≡ mark) → Renewal edges col d Seed ls ls' w
      each w i (yes m) = anew (marked-sector d cur a.same w m) (a.right w (record { inside = i; marked = m }))
      each w i (no m) =
          kept (a.stays w i m)
          (λ x s q j.
          let reached : Reached R cur x = record { inside = (f x s).0; marked = sector-marked d cur a.same x q (f x s).1 } in
          m (whole-joined ends a.whole a.same j reached).marked)

-- the component of v alone is labelled anew
module _ {R : ℕ} {edges : List Edge} {start nb col queue : List ℕ} {v : ℕ} {ls : List ℕ} (c : Counting R edges start nb col queue v (at col v)) (size : length ls ≡ R) where
  -- v is looked at
  pub owning_next : Seedable R edges start nb (at col v) v col ls queue 0
  owning_next = sowing_next (sowing_start c size) c.net c.region

  module _ {cur' ls' queue' : List ℕ} {e' n : ℕ} (x : Seeded R edges (at col v) v col ls queue cur' ls' queue' e' n) where
    -- its component is labelled
    pub owning_turn : Sowing R edges col (at col v) ls cur' ls' queue' e' n
    owning_turn = rw (← zero-add n) (sowing_turn (sowing_start c size) x)

    -- and no other is
    pub owning_end : Renewed R edges col (at col v) (λ x. x ≡ v) ls ls' n
    owning_end = sowing_end owning_turn c.net.ends (λ y e. rw e (c.region, x.shut))
