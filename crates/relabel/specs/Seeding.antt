-- The component of a region is marked and labelled, where the region shows d.
-- Assumes nothing.
use Rattle.std.specs.Prelude.{ℕ, ◌+◌, ◌≤◌, ◌<◌, ◌≡◌, refl, List, ◌≢◌, length, get_or, set}
use Rattle.std.proofs.Common.{arith, sym, ◌∙◌, ⊎_elim, get_or-set_same, get_or-set_other}
use Rattle.std.proofs.Math.Decide.{ℕ_discrete, dec_lt}
use Rattle.lists.specs.Sums.{In, at}
use Rattle.lists.specs.Places.{at_set}
use Rattle.meaning.specs.Plan.{Edge}
use Rattle.meaning.specs.Joined.{Joined, labels}
use Rattle.meaning.specs.Paths.{Ends, joined_sym, joined_in}
use Rattle.meaning.proofs.Labels.{Labelled, labels_right, label_joined}
use Rattle.meaning.specs.Moves.{recolour, differing}
use Rattle.neighbours.specs.Net.{Net}
use Rattle.search.specs.Marks.{mark, unmask, length-unmask, open_sector, unmask-put, mark_keep}
use Rattle.search.specs.Flood.{Reached, reached_cases, Queued, Flood, flood_room, flood_push}
use Rattle.search.specs.Scan.{Span}
use Rattle.search.specs.Closed.{Closed, closed_push, closed_joined}
use Rattle.relabel.specs.Growing.{Growable, Growing, growing_room}
use Rattle.relabel.specs.Minimum.{Minimum}
use Rattle.relabel.specs.Differing.{differing-none}
use Rattle.relabel.specs.Writing.{Written}

-- what is marked is whole components of sector d: all of the queue is done with
pub record Whole (R : ℕ) (edges : List Edge) (d : ℕ) (cur queue : List ℕ) (e : ℕ) : Type 0 where
  pub flood : Flood R d cur queue e
  pub closed : Closed edges d cur queue e

-- what is joined to a marked region is marked then
pub whole-joined : {R : ℕ} {edges : List Edge} {d : ℕ} {cur queue : List ℕ} {e : ℕ} {col : List ℕ} → Ends R edges → Whole R edges d cur queue e → unmask d cur ≡ col
    → {u w : ℕ} → Joined edges col u w → Reached R cur u → Reached R cur w
whole-joined ends a same j r = closed_joined a.closed ends a.flood same (omega arith) j r

-- the labels of the colouring with the marks taken off
abbrev pub labels_under : List Edge → ℕ → List ℕ → List ℕ
labels_under edges d cur = labels edges (unmask d cur)

-- what the labelling of a component starts from: s is a region, and each region has a label
pub record Seedable (R : ℕ) (edges : List Edge) (start nb : List ℕ) (d s : ℕ) (cur ls queue : List ℕ) (e : ℕ) : Type 0 where
  pub net : Net R edges start nb
  pub whole : Whole R edges d cur queue e
  pub size : length ls ≡ R
  pub region : In R s

-- what it comes to: the component of s is marked, if s showed d; what is newly marked has its label, and every other region the one that it had
pub record Seeded (R : ℕ) (edges : List Edge) (d s : ℕ) (cur ls queue cur' ls' queue' : List ℕ) (e' n : ℕ) : Type 0 where
  pub whole : Whole R edges d cur' queue' e'
  pub size : length ls' ≡ R
  -- nothing but the marks is new in the colouring
  pub same : unmask d cur' ≡ unmask d cur
  pub still : (w : ℕ) → at cur w ≡ mark → at cur' w ≡ mark
  pub shut : at cur' s ≢ d
  -- the labels, and how many are new
  pub right : (w : ℕ) → Reached R cur' w → at cur w ≢ mark → at ls' w ≡ at (labels_under edges d cur) w
  pub kept : (w : ℕ) → In R w → (at cur' w ≡ mark → at cur w ≡ mark) → at ls' w ≡ at ls w
  pub number : n ≡ differing R ls ls'

module _ {R : ℕ} {edges : List Edge} {start nb : List ℕ} {d s : ℕ} {cur ls queue : List ℕ} {e : ℕ} (a : Seedable R edges start nb d s cur ls queue e) where
  -- where s does not show d nothing is new
  pub seeded_none : at cur s ≢ d → Seeded R edges d s cur ls queue cur ls queue e 0
  seeded_none n =
      record {
        whole = a.whole;
        size = a.size;
        same = refl;
        still = λ w m. m;
        shut = n;
        right = λ w r k. absurd (k r.marked);
        kept = λ w i k. refl;
        number = sym (differing-none R ls);
      }

  -- s is marked, and put into the queue
  module _ (o : at cur s ≡ d) where
    -- there is room in the queue
    pub seeding_room : e < length queue
    seeding_room = omega (arith, flood_room a.whole.flood a.region o, a.whole.flood.room)

    -- the search goes on from there
    pub seeding_grow : Growable R edges start nb d (recolour cur s mark) (set queue e s) (e + 1) e
    seeding_grow =
        record {
          net = a.net;
          flood = flood_push a.whole.flood a.region o;
          head = omega arith;
          closed = closed_push a.whole.closed e s (omega arith) a.whole.flood.low;
        }

    module _ {cur' queue' : List ℕ} {e' : ℕ} (g : Growing R edges start nb d (recolour cur s mark) (set queue e s) (e + 1) cur' queue' e' e') where
      -- the queue is longer, and not longer than the array that holds it
      pub seeding_part : (e < e') × (e' ≤ length queue')
      seeding_part = omega (arith, g.grown.more, growing_room g)

      -- its new part holds regions
      pub seeding_span : Span (length ls) queue' e e'
      seeding_span = rw a.size (record { order = omega (arith, g.grown.more); fits = omega (arith, growing_room g); inside = λ k lo hi. (g.grown.flood.queued k hi).inside })

      -- the mark of s is taken off as all others are
      put : unmask d (recolour cur s mark) ≡ unmask d cur
      put = unmask-put d cur refl s (open_sector d cur refl s o)

      -- nothing but the marks is new
      same : unmask d cur' ≡ unmask d cur
      same = g.grown.same ∙ put

      -- s was not marked
      fresh : at cur s ≢ mark
      fresh m = omega (arith, a.whole.flood.low)

      -- and is marked now
      here : Reached R cur' s
      here = record { inside = a.region; marked = g.grown.still s (at_set cur mark a.whole.flood.size a.region) }

      -- all of the queue is done with
      whole : Whole R edges d cur' queue' e'
      whole = record { flood = g.grown.flood; closed = g.closed }

      -- what is joined to a region that was marked was marked
      joined-before : {u w : ℕ} → Joined edges (unmask d cur) u w → Reached R cur u → Reached R cur w
      joined-before j r = whole-joined a.net.ends a.whole refl j r

      -- what is joined to one that is marked now is marked now
      joined-after : {u w : ℕ} → Joined edges (unmask d cur) u w → Reached R cur' u → Reached R cur' w
      joined-after j r = whole-joined a.net.ends whole same j r

      -- what is newly marked is joined to s
      new-joined : {w : ℕ} → Reached R cur' w → at cur w ≢ mark → Joined edges (unmask d cur) s w
      new-joined {w} r n =
          let p = g.grown.origin w r in
          let j = rw put at p.joined in
          ⊎_elim (λ q. rw q at j) (λ k. absurd (n (joined-before j k).marked)) (reached_cases cur a.whole.flood.size a.region p.reached)

      -- it stands in the new part of the queue
      new_queued : {w : ℕ} → Reached R cur' w → at cur w ≢ mark → Queued queue' e e' w
      new_queued {w} r n = let p = g.grown.flood.place w r in go p (dec_lt p.place e)
        where
          go : (p : Queued queue' 0 e' w) → Dec (p.place < e) → Queued queue' e e' w
          go p (yes l) =
              let q = g.grown.kept p.place (omega arith) ∙ get_or-set_other queue e p.place s 0 (omega arith) in
              absurd (n (rw (← p.is, q) (a.whole.flood.queued p.place l).marked))
          go p (no l) = record { place = p.place; low = omega arith; high = p.high; is = p.is }

      -- and nothing else does
      queued_new : {w : ℕ} → Queued queue' e e' w → at cur w ≢ mark
      queued_new {w} p = rw (← p.is) (go (ℕ_discrete p.place e))
        where
          go : Dec (p.place ≡ e) → at cur (get_or queue' p.place 0) ≢ mark
          go (yes q) = rw (q, g.grown.kept e (omega arith), get_or-set_same queue e s 0 seeding_room) fresh
          go (no n) = λ m. g.grown.new p.place (omega (arith, p.low)) p.high (mark_keep cur s _ m)

      -- what stands there is marked
      queued_reached : {w : ℕ} → Queued queue' e e' w → Reached R cur' w
      queued_reached p = rw (← p.is) (g.grown.flood.queued p.place p.high)

      -- the colouring has a sector for each region
      sized : {u : ℕ} → In R u → In (length (unmask d cur)) u
      sized i = rw (length-unmask d cur, a.whole.flood.size) i

      -- its labels are right
      right : Labelled edges (unmask d cur) (labels_under edges d cur)
      right = labels_right edges (unmask d cur) (rw (length-unmask d cur, a.whole.flood.size) a.net.ends)

      -- s is joined to its label
      own : Joined edges (unmask d cur) s (at (labels_under edges d cur) s)
      own = right.joined s (sized a.region)

      -- its label is a region
      own_in : In R (at (labels_under edges d cur) s)
      own_in = joined_in a.net.ends own a.region

      -- what is joined to s has its label
      alike : {w : ℕ} → In R w → Joined edges (unmask d cur) s w → at (labels_under edges d cur) s ≡ at (labels_under edges d cur) w
      alike i j = (label_joined right (sized a.region) (sized i)).1 j

      -- its label was not marked
      fresh_own : at cur (at (labels_under edges d cur) s) ≢ mark
      fresh_own m = fresh (joined-before (joined_sym own) (record { inside = own_in; marked = m })).marked

      -- the smallest of the new part of the queue is the label of s
      label_is : {m : ℕ} → Minimum queue' e e' m → m ≡ at (labels_under edges d cur) s
      label_is {m} l =
          let p = new_queued (joined-after own here) fresh_own in
          omega (
            arith,
            l.least p.place p.low p.high,
            p.is,
            right.least s m (sized a.region) (new-joined (queued_reached l.stands) (queued_new l.stands)),
          )

      -- the component of s is marked and labelled
      pub seeded_some : {m : ℕ} {ls' : List ℕ} {n : ℕ} → Minimum queue' e e' m → Written (length ls) queue' e e' m ls ls' n → Seeded R edges d s cur ls queue cur' ls' queue' e' n
      seeded_some {m} {ls'} {n} l x =
          let w : Written R queue' e e' m ls ls' n = rw a.size at x in
          record {
            whole = whole;
            size = w.size;
            same = same;
            still = λ u m. g.grown.still u (mark_keep cur s u m);
            shut = λ q. omega (arith, here.marked, a.whole.flood.low);
            right = λ u r n. w.given u (new_queued r n) ∙ label_is l ∙ alike r.inside (new-joined r n);
            kept = λ u i k. w.kept u i (λ p. queued_new p (k (queued_reached p).marked));
            number = w.number;
          }
