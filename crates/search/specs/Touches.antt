-- The components of sector d that share a face with region v are counted by their labels: the label of each neighbour of v is marked, if it shows d.
-- Assumes nothing.
use Rattle.std.specs.Prelude.{ℕ, ◌+◌, ◌≤◌, ◌<◌, min, ◌≡◌, refl, List, ◌≢◌, ◌⊎◌, eqb, length, get_or, set}
use Rattle.std.proofs.Common.{arith, sym, ◌∙◌, inl, inr, ⊎_elim, length-set}
use Rattle.std.proofs.Math.Bool.{true, false}
use Rattle.std.proofs.lemmas.Bool.{false≢true}
use borrow.Author.Tests.{eqb-true, eq-eqb}
use Rattle.lists.specs.Sums.{In, at, bit, up_to, count}
use Rattle.lists.specs.Tests.{test-same}
use Rattle.lists.specs.Counts.{count_same, count_none, count_more}
use Rattle.lists.specs.Parts.{Passed, passed_start, passed_turn, passed_map}
use Rattle.meaning.specs.Plan.{Edge}
use Rattle.meaning.specs.Joined.{Joined, instead, labels}
use Rattle.meaning.proofs.Labels.{Labelled, labels_right}
use Rattle.meaning.specs.Moves.{recolour}
use Rattle.meaning.proofs.MoveLaws.{recolour-own}
use Rattle.meaning.specs.Paths.{joined_in, joined-sector, neighbours_far}
use Rattle.meaning.specs.Faces.{shares, beside, Shares, shares-true, shares_make}
use Rattle.neighbours.specs.Net.{Net, net_in}
use Rattle.search.specs.Marks.{mark, unmask, open_sector, sector-marked, unmask-put, mark_shut, by_test}
use Rattle.search.specs.Flood.{ready_same, Reached, reached_here, reached_cases, marked, Flood, flood_none, flood_top, flood_past, flood_push}
use Rattle.search.specs.Counting.{Counting, counting_row}
use Rattle.search.specs.Ranging.{Rangeable, Ranged}

-- the neighbours of v up to place j are gone through: what is marked is the labels of those of sector d
pub record Touching (R : ℕ) (edges : List Edge) (start nb ls col room : List ℕ) (v d : ℕ) (cur queue : List ℕ) (e j : ℕ) : Type 0 where
  pub given : Counting R edges start nb col room v d
  pub labelled : ls ≡ labels edges col
  pub flood : Flood R d cur queue e
  -- nothing but the marks and what is in the queue is new
  pub same : unmask d cur ≡ col
  pub kept : length queue ≡ length room
  -- each marked region is the label of such a neighbour, and no such neighbour's label shows d
  pub shared : (l : ℕ) → Reached R cur l → Shares edges col ls v d l
  pub passed : Passed (λ x. at cur (at ls x) ≢ d) nb (at start v) (get_or start v 0) j

module _ {R : ℕ} {edges : List Edge} {start nb ls : List ℕ} (col : List ℕ) (net : Net R edges start nb) (size : length col ≡ R) (labelled : ls ≡ labels edges col) where
  -- the labels are right
  right : Labelled edges col ls
  right = rw labelled (labels_right edges col (rw size net.ends))

  -- each region has one
  pub label_size : length ls ≡ R
  label_size = right.size ∙ size

  -- to which it is joined
  pub label_to : {w : ℕ} → In R w → Joined edges col w (at ls w)
  label_to {w} i = right.joined w (rw size i)

  -- and which is a region
  pub label_in : {w : ℕ} → In R w → In R (at ls w)
  label_in i = joined_in net.ends (label_to i) i

  -- so that none is above the number of regions
  pub label_le : {w : ℕ} → In R w → at ls w ≤ length col
  label_le i = omega (arith, label_in i, size)

  -- the labels beside a region may be gone through
  pub label_range : {v : ℕ} → In R v → Rangeable R edges start nb col ls v
  label_range i = record { net = net; sectors = size; labels = label_size; region = i }

  -- where they are one or none, so are the components that share a face with it
  pub beside_few : {v d top low high : ℕ} → Ranged edges col ls v d top low high → high ≤ low → min high 1 ≡ beside edges col v d
  unfolding beside
  beside_few {v} {d} {top} {low} {high} r few = rw (size, ← labelled) (go r.reaches)
    where
      none : (l : ℕ) → (Shares edges col ls v d l → ⊥) → shares edges col ls v d l ≡ false
      none l n = test-same _ _ (λ t. absurd (n (shares-true edges t))) (λ f. absurd (false≢true f))

      go : (high ≡ 0) ⊎ Shares edges col ls v d high → min high 1 ≡ count (up_to R) (shares edges col ls v d)
      go (inl e) = rw e (sym (count_none R _ (λ l i. none l (λ s. omega (arith, r.between l s, i.low)))))
      go (inr s) =
          let i : In R high = rw s.label at (label_in (neighbours_far edges v s.w net.ends s.neighbours)) in
          let one = count_more R high (shares edges col ls v d) (λ _. false) i (shares_make edges s) refl (λ l j n. none l (λ q. n (omega (arith, r.between l q, r.between high s)))) in
          omega (arith, i.low, one, count_none R (λ _. false) (λ _ _. refl))

module _ {R : ℕ} {edges : List Edge} {start nb ls col room : List ℕ} {v d : ℕ} where
  -- none of them yet
  pub touching_start : Counting R edges start nb col room v d → ls ≡ labels edges col → Touching R edges start nb ls col room v d col room 0 (at start v)
  touching_start c q =
      record {
        given = c;
        labelled = q;
        flood = flood_none c.ready c.sector;
        same = ready_same d c.ready;
        kept = refl;
        shared = λ l r. absurd (omega (arith, r.marked, c.ready.plain l r.inside));
        passed = passed_start (counting_row c).rise;
      }

  module _ {cur queue : List ℕ} {e j : ℕ} (t : Touching R edges start nb ls col room v d cur queue e j) where
    -- there is room in the queue
    pub touching_room : e < length queue
    touching_room = omega (arith, flood_top t.flood, t.flood.room)

    -- each region has a label
    pub touching_size : length ls ≡ R
    touching_size = label_size col t.given.net t.given.ready.size t.labelled

    -- to which it is joined
    to_label : {w : ℕ} → In R w → Joined edges col w (at ls w)
    to_label i = label_to col t.given.net t.given.ready.size t.labelled i

    -- the next neighbour is a region
    pub touching_in : j < get_or start v 0 → In R (get_or nb j 0)
    touching_in h = net_in t.given.net v j t.given.region t.passed.low h

    -- and so is its label
    pub touching_label : j < get_or start v 0 → In R (at ls (get_or nb j 0))
    touching_label h = label_in col t.given.net t.given.ready.size t.labelled (touching_in h)

    -- it is gone through, without a branch
    pub touching_turn : {m b : ℕ} → j < get_or start v 0 → m ≡ instead d mark (at cur (at ls (get_or nb j 0))) → b ≡ bit (eqb (at cur (at ls (get_or nb j 0))) d)
        → Touching R edges start nb ls col room v d (recolour cur (at ls (get_or nb j 0)) m) (set queue e (at ls (get_or nb j 0))) (e + b) (j + 1)
    touching_turn h em eb = by_test After (at cur z) d em eb hit miss
      where
        x : ℕ
        x = get_or nb j 0

        z : ℕ
        z = at ls x

        After : ℕ → ℕ → Type 0
        After m b = Touching R edges start nb ls col room v d (recolour cur z m) (set queue e z) (e + b) (j + 1)

        hz : In R z
        hz = touching_label h

        hit : at cur z ≡ d → After mark 1
        hit o =
            let f = t.flood in
            let sector = open_sector d cur t.same z o in
            let face = t.given.net.beside v j t.given.region t.passed.low h in
            let share : Shares edges col ls v d z = record { w = x; neighbours = face; sector = joined-sector (to_label (touching_in h)) ∙ sector; label = refl } in
            record {
              given = t.given;
              labelled = t.labelled;
              flood = flood_push f hz o;
              same = unmask-put d cur t.same z sector;
              kept = length-set queue e z ∙ t.kept;
              shared = λ l r. ⊎_elim (λ q. rw q share) (λ m. t.shared l m) (reached_cases cur f.size hz r);
              passed = passed_turn (passed_map (λ y. mark_shut d cur z (at ls y) f.low) t.passed) h (λ q. omega (arith, (reached_here cur f.size hz).marked, f.low));
            }

        miss : at cur z ≢ d → After (at cur z) 0
        miss n =
            let w : e + 0 ≡ e = omega arith in
            rw (recolour-own cur z, w)
            (record {
              given = t.given;
              labelled = t.labelled;
              flood = flood_past t.flood z;
              same = t.same;
              kept = length-set queue e z ∙ t.kept;
              shared = t.shared;
              passed = passed_turn t.passed h n;
            })

    -- all of them: as many labels are marked as components share a face with v
    pub touching_end : get_or start v 0 ≤ j → e ≡ beside edges col v d
    unfolding beside marked
    touching_end h =
        rw (t.given.ready.size, ← t.labelled)
        (t.flood.full ∙ count_same R (marked cur) (shares edges col ls v d) (λ l i. test-same _ _ (one l i) (two l)))
      where
        one : (l : ℕ) → In R l → marked cur l ≡ true → shares edges col ls v d l ≡ true
        one l i m = shares_make edges (t.shared l (record { inside = i; marked = eqb-true (at cur l) mark m }))

        two : (l : ℕ) → shares edges col ls v d l ≡ true → marked cur l ≡ true
        two l k =
            let q = shares-true edges k in
            let p = t.given.net.all v q.w t.given.region q.neighbours in
            let i = neighbours_far edges v q.w t.given.net.ends q.neighbours in
            let sector : at col l ≡ d = rw q.label at (sym (joined-sector (to_label i))) ∙ q.sector in
            let shut : at cur l ≢ d = rw (p.is, q.label) at (t.passed.each p.index p.low (omega (arith, p.high))) in
            eq-eqb (at cur l) mark (sector-marked d cur t.same l sector shut)
