-- The components of sector d that share a face with region v are found, one by one: from each neighbour of v that shows d a search marks its component,
-- and it stops as soon as no neighbour of v shows d any longer.
-- Assumes nothing.
use Rattle.std.specs.Prelude.{ℕ, ◌+◌, ◌≤◌, ◌<◌, ◌≡◌, refl, List, ◌≢◌, ◌↔◌, Bool, false, length, get_or, set}
use Rattle.std.proofs.Common.{arith, sym, ap, ◌∙◌, ⊎_elim, length-set}
use Rattle.std.proofs.Math.Bool.{true}
use Rattle.std.proofs.lemmas.Bool.{false≢true}
use mathlib.Mathlib.Data.Bool.Basic.{eq-false_of_not-eq-true}
use Rattle.lists.specs.Sums.{In, at, up_to, count}
use Rattle.lists.specs.Tests.{test-same}
use Rattle.lists.specs.Counts.{also, also_cases, also-own, also_old, count_same, count_none, count-also, count-le}
use Rattle.lists.specs.Parts.{passed_turn, passed_join, passed_map}
use Rattle.meaning.specs.Plan.{Edge}
use Rattle.meaning.specs.Joined.{Neighbours, Joined, labels}
use Rattle.meaning.specs.Moves.{recolour}
use Rattle.meaning.specs.Paths.{joined_in, neighbours_far}
use Rattle.meaning.proofs.Labels.{label_joined}
use Rattle.meaning.specs.Faces.{shares, beside, shares-true, shares_make}
use Rattle.neighbours.specs.Net.{net_in}
use Rattle.search.specs.Marks.{mark, unmask, open_sector, sector-marked, unmask-put, mark_shut}
use Rattle.search.specs.Flood.{ready_same, Reached, reached_keep, reached_here, reached_cases, Flood, flood_none, flood_room, flood_push}
use Rattle.search.specs.Grown.{grown_shut}
use Rattle.search.specs.Expanding.{Expandable, Expanded}
use Rattle.search.specs.Closed.{Closed, closed_none, closed_turn, closed_push, closed_joined}
use Rattle.search.specs.Scan.{Span, Scan, net_span}
use Rattle.search.specs.Counting.{Counting, counting_labels}

-- a marked region has label l
pub record Found (R : ℕ) (cur ls : List ℕ) (l : ℕ) : Type 0 where
  pub w : ℕ
  pub reached : Reached R cur w
  pub label : at ls w ≡ l

-- where a search stands: n components are found, the first h of the queue are done with, and i is the next place of v's row that shows d
pub record Searching (R : ℕ) (edges : List Edge) (start nb col room : List ℕ) (v d : ℕ) (cur queue : List ℕ) (n h e i : ℕ) : Type 0 where
  pub given : Counting R edges start nb col room v d
  pub flood : Flood R d cur queue e
  -- nothing but the marks and what is in the queue is new
  pub same : unmask d cur ≡ col
  pub kept : length queue ≡ length room
  -- the labels of the components that are found, and how many they are
  pub found : ℕ → Bool
  pub number : n ≡ count (up_to R) found
  -- each is the label of a marked region, and its component shares a face with v
  pub seen : (l : ℕ) → found l ≡ true → Found R cur (labels edges col) l
  pub shared : (l : ℕ) → found l ≡ true → shares edges col (labels edges col) v d l ≡ true
  -- no marked region has another
  pub known : (w : ℕ) → Reached R cur w → found (at (labels edges col) w) ≡ true
  -- no neighbour of the first h of the queue shows d, and none of v up to place i
  pub head : h ≤ e
  pub closed : Closed edges d cur queue h
  pub scan : Scan nb cur d (at start v) (get_or start v 0) i

module _ {R : ℕ} {edges : List Edge} {start nb col room : List ℕ} {v d : ℕ} where
  -- nothing is found yet
  pub searching_start : {i : ℕ} → Counting R edges start nb col room v d → Scan nb col d (at start v) (get_or start v 0) i → Searching R edges start nb col room v d col room 0 0 0 i
  searching_start c s =
      record {
        given = c;
        flood = flood_none c.ready c.sector;
        same = ready_same d c.ready;
        kept = refl;
        found = λ l. false;
        number = sym (count_none R (λ l. false) (λ l i. refl));
        seen = λ l f. absurd (false≢true f);
        shared = λ l f. absurd (false≢true f);
        known = λ w r. absurd (omega (arith, r.marked, c.ready.plain w r.inside));
        head = omega arith;
        closed = closed_none;
        scan = s;
      }

  module _ {cur queue : List ℕ} {n h e i : ℕ} (s : Searching R edges start nb col room v d cur queue n h e i) where
    -- no more components than regions
    pub searching_few : n ≤ R
    searching_few = omega (arith, s.number, count-le R s.found)

    -- what is left of v's row holds regions
    pub searching_span : {m j : ℕ} → m ≡ R → i ≤ j → j ≤ get_or start v 0 → Span m nb j (get_or start v 0)
    searching_span q lo hi = rw q (net_span s.given.net s.given.region (omega (arith, s.scan.passed.low)) hi)

    -- two regions have one label exactly when they are joined
    alike : {u w : ℕ} → In R u → In R w → (at (labels edges col) u ≡ at (labels edges col) w) ↔ Joined edges col u w
    alike i j = let q = s.given.ready.size in label_joined (counting_labels s.given) (rw (← q) at i) (rw (← q) at j)

    -- the next of the queue is marked
    pub searching_next : h < e → Expandable R edges start nb d cur queue e (get_or queue h 0)
    searching_next b = record { net = s.given.net; flood = s.flood; reached = s.flood.queued h b }

    -- and is done with
    pub searching_pop : {cur' queue' : List ℕ} {e' i' : ℕ} → h < e → Expanded R edges d cur queue e (get_or queue h 0) cur' queue' e' → Scan nb cur' d i (get_or start v 0) i'
        → Searching R edges start nb col room v d cur' queue' n (h + 1) e' i'
    searching_pop b x z =
        let g = x.grown in
        record {
          given = s.given;
          flood = g.flood;
          same = g.same ∙ s.same;
          kept = g.size ∙ s.kept;
          found = s.found;
          number = s.number;
          seen = λ l f. let q = s.seen l f in record { w = q.w; reached = record { inside = q.reached.inside; marked = g.still q.w q.reached.marked }; label = q.label };
          shared = s.shared;
          known = λ w r. let o = g.origin w r in rw (← (alike o.reached.inside r.inside).1 (rw s.same at o.joined)) (s.known o.y o.reached);
          head = omega (arith, g.more);
          closed = closed_turn s.closed b x;
          scan = record { passed = passed_join (passed_map (grown_shut g) s.scan.passed) z.passed; next = z.next };
        }

    -- the next neighbour of v that shows d is a region
    pub searching_in : i < get_or start v 0 → In R (get_or nb i 0)
    searching_in hi = net_in s.given.net v i s.given.region s.scan.passed.low hi

    -- not all regions are marked
    pub searching_room : i < get_or start v 0 → e < R
    searching_room hi = flood_room s.flood (searching_in hi) (s.scan.next hi)

    -- where all of the queue is done with, the next neighbour of v that shows d is of a component that is not found yet
    pub searching_new : {i' : ℕ} → e ≤ h → i < get_or start v 0 → Scan nb (recolour cur (get_or nb i 0) mark) d (i + 1) (get_or start v 0) i'
        → Searching R edges start nb col room v d (recolour cur (get_or nb i 0) mark) (set queue e (get_or nb i 0)) (n + 1) h (e + 1) i'
    searching_new b hi z =
        record {
          given = s.given;
          flood = flood_push s.flood hx shown;
          same = unmask-put d cur s.same x sector;
          kept = length-set queue e x ∙ s.kept;
          found = also l s.found;
          number = omega (arith, s.number, count-also R l s.found hl fresh);
          seen = λ k f. ⊎_elim (λ q. record { w = x; reached = here; label = sym q }) (λ g. let q = s.seen k g in record { w = q.w; reached = reached_keep x q.reached; label = q.label }) (also_cases l s.found k f);
          shared = λ k f. ⊎_elim (λ q. shares_make edges (record { w = x; neighbours = face; sector = sector; label = sym q })) (s.shared k) (also_cases l s.found k f);
          known = λ w r. ⊎_elim (λ q. also-own l s.found _ (ap (at (labels edges col)) q)) (λ m. also_old l s.found _ (s.known w m)) (reached_cases cur s.flood.size hx r);
          head = omega (arith, s.head);
          closed = closed_push s.closed e x s.head s.flood.low;
          scan = record { passed = passed_join (passed_turn (passed_map (λ y. mark_shut d cur x y s.flood.low) s.scan.passed) hi shut) z.passed; next = z.next };
        }
      where
        x : ℕ
        x = get_or nb i 0

        l : ℕ
        l = at (labels edges col) x

        hx : In R x
        hx = searching_in hi

        hl : In R l
        hl = joined_in s.given.net.ends ((counting_labels s.given).joined x (rw s.given.ready.size hx)) hx

        face : Neighbours edges v x
        face = s.given.net.beside v i s.given.region s.scan.passed.low hi

        shown : at cur x ≡ d
        shown = s.scan.next hi

        sector : at col x ≡ d
        sector = open_sector d cur s.same x shown

        here : Reached R (recolour cur x mark) x
        here = reached_here cur s.flood.size hx

        shut : at (recolour cur x mark) x ≢ d
        shut q = omega (arith, here.marked, s.flood.low)

        fresh : s.found l ≡ false
        fresh =
            eq-false_of_not-eq-true
            (λ f.
            let q = s.seen l f in
            let j = (alike q.reached.inside hx).0 q.label in
            omega (arith, (closed_joined s.closed s.given.net.ends s.flood s.same b j q.reached).marked, shown, s.flood.low))

    -- where no neighbour of v shows d, every component that shares a face with v is found
    pub searching_end : get_or start v 0 ≤ i → n ≡ beside edges col v d
    unfolding beside
    searching_end b = rw s.given.ready.size (s.number ∙ count_same R s.found (shares edges col (labels edges col) v d) (λ l _. test-same _ _ (s.shared l) (all l)))
      where
        all : (l : ℕ) → shares edges col (labels edges col) v d l ≡ true → s.found l ≡ true
        all l t =
            let q = shares-true edges t in
            let p = s.given.net.all v q.w s.given.region q.neighbours in
            let shut : at cur q.w ≢ d = rw (← p.is) (s.scan.passed.each p.index p.low (omega (arith, p.high))) in
            let i = neighbours_far edges v q.w s.given.net.ends q.neighbours in
            rw (← q.label) (s.known q.w (record { inside = i; marked = sector-marked d cur s.same q.w q.sector shut }))
