-- The rows are filled from their ends to their starts, an edge at a time, from the last edge to the first.
-- Assumes nothing.
use Rattle.std.specs.Prelude.{ℕ, zero, suc, ◌+◌, ◌-◌, ◌*◌, ◌/◌, ◌≤◌, ◌<◌, ◌≡◌, refl, List, [], ◌∷◌, ◌≢◌, eqb, length, get_or, set, drop}
use Rattle.std.proofs.Common.{not-suc-le-zero, sub-one, arith, sym, ap, ◌∙◌, subst, eq-eqb, ne_eqb, length-set, drop-set-lt, get_or-take, get_or-drop, get_or-set_same}
use Rattle.std.proofs.Math.Decide.{ℕ_discrete, dec_lt}
use Rattle.std.proofs.Math.Seq.{slice, slice_empty, slice-cons, take-set-lt}
use Rattle.std.proofs.lemmas.List.{take-set-le}
use Rattle.lists.specs.Sums.{In, at, bit}
use Rattle.lists.specs.SumLaws.{sum_same}
use Rattle.lists.specs.Places.{at_set, at_set_other}
use Rattle.meaning.specs.Plan.{edge_length, edges_of}
use Rattle.meaning.specs.Paths.{Ends}
use Rattle.neighbours.specs.Table.{when, sides, near, areas, Table}
use Rattle.neighbours.specs.Degree.{degree, length-when, length-sides, row_end, row_end_step, row_end_rise, row_end_bound}
use Rattle.neighbours.specs.Edges.{edges_from, edge_before, length-edges, edges_from_end, Taken, taken_none, taken_more, taken_edge, taken_ends, taken_fits}
use Rattle.neighbours.specs.Counts.{Counted}

-- ---- a part of a list, and a store

-- a store before the part leaves it
store_before : (f t p : ℕ) (l : List ℕ) (y : ℕ) → p < f → f ≤ t → slice f t (set l p y) ≡ slice f t l
store_before f t p l y h k = ap (drop f) (take-set-lt t l p y (omega arith)) ∙ drop-set-lt f _ p y h

-- a store past its end leaves it
store_past : (f t p : ℕ) (l : List ℕ) (y : ℕ) → t ≤ p → slice f t (set l p y) ≡ slice f t l
store_past f t p l y h = ap (drop f) (take-set-le t l p y h)

-- a store just before it makes it one longer
store_front : (f t : ℕ) (l : List ℕ) (y : ℕ) → 1 ≤ f → f ≤ t → t ≤ length l → slice (f - 1) t (set l (f - 1) y) ≡ y ∷ slice f t l
store_front zero t l y h k b = absurd (not-suc-le-zero h)
store_front (suc f) t l y h k b =
    rw sub-one
    (slice-cons f t (set l f y) 0 k (rw (length-set l f y) b)
    ∙ rw (get_or-set_same l f y 0 (omega arith), store_before (suc f) t f l y (omega arith) k))

-- what stands at its indices
slice-get_or : (f t k : ℕ) (l part : List ℕ) → slice f t l ≡ part → f + k < t → get_or l (f + k) 0 ≡ get_or part k 0
slice-get_or f t k l part e h = sym (get_or-drop f _ k 0 ∙ get_or-take t l (f + k) 0 h) ∙ ap (λ (p : List ℕ). get_or p k 0) e

-- ---- rows

-- what stands in the row of v: it starts at index `at start v`, and rowEnd f says where it ends
abbrev row : (ℕ → ℕ) → List ℕ → List ℕ → ℕ → List ℕ
row f start mem v = slice (at start v) (row_end f v) mem

-- x in front of the row of w
abbrev push : ℕ → ℕ → (ℕ → List ℕ) → ℕ → List ℕ
push w x L v = when (eqb w v) x (L v)

-- the rows of 1..n, of f v cells for v, are filled from their ends: that of v with L v in nb, and with M v in ar
pub record Rows (n m : ℕ) (f : ℕ → ℕ) (L M : ℕ → List ℕ) (start nb ar : List ℕ) : Type 0 where
  -- each row has a start
  pub size : length start ≡ n
  -- there are m cells
  pub cells : length nb ≡ m
  pub same : length ar ≡ m
  -- which are enough for all rows
  pub wide : row_end f n ≤ m
  -- the row of v starts as far before its end as L v is long
  pub room : (v : ℕ) → In n v → at start v + length (L v) ≡ row_end f v
  -- L v stands in nb
  pub cell : (v : ℕ) → In n v → row f start nb v ≡ L v
  -- and M v in ar
  pub area : (v : ℕ) → In n v → row f start ar v ≡ M v

-- the row of w can start a cell earlier
pub record Free (start nb ar : List ℕ) (w : ℕ) : Type 0 where
  -- it has a start
  pub region : In (length start) w
  -- with a cell before it
  pub some : 1 ≤ at start w
  -- of nb and of ar
  pub fits : at start w ≤ length nb
  pub same : length ar ≡ length nb

-- the row of w starts a cell earlier, with x in nb and s in ar
pub record Placed (start nb ar : List ℕ) (w x s : ℕ) (start' nb' ar' : List ℕ) : Type 0 where
  -- the new start
  pub starts : start' ≡ set start (w - 1) (at start w - 1)
  -- and what is stored there
  pub cells : nb' ≡ set nb (at start w - 1) x
  pub areas : ar' ≡ set ar (at start w - 1) s

module _ {n m : ℕ} {f : ℕ → ℕ} {L M : ℕ → List ℕ} {start nb ar : List ℕ} (r : Rows n m f L M start nb ar) {w : ℕ} (x : ℕ) (i : In n w)
    (fits : (v : ℕ) → length (push w x L v) ≤ f v) where
  -- the row of w has a cell to spare
  spare : length (L w) < f w
  spare = rw (eq-eqb w w refl) at (fits w)

  -- so it can start a cell earlier
  rows_free : Free start nb ar w
  rows_free =
      record {
        region = rw r.size i;
        some = omega (arith, r.room w i, spare, row_end_step f w i.low);
        fits = omega (arith, r.room w i, row_end_rise f w n i.high);
        same = r.same ∙ sym r.cells;
      }

  -- a store to that cell leaves the other rows
  others : (mem : List ℕ) (y v : ℕ) → In n v → v ≢ w → row f start (set mem (at start w - 1) y) v ≡ row f start mem v
  others mem y v j d = go (dec_lt v w)
    where
      short : length (L v) ≤ f v
      short = rw (ne_eqb w v (λ z. d (sym z))) at (fits v)

      go : Dec (v < w) → row f start (set mem (at start w - 1) y) v ≡ row f start mem v
      go (yes h) =
          store_past (at start v) (row_end f v) (at start w - 1) mem y
          (omega (arith, r.room w i, spare, row_end_step f w i.low, row_end_rise f v (w - 1) (omega arith)))
      go (no h) =
          store_before (at start v) (row_end f v) (at start w - 1) mem y
          (omega (arith, r.room w i, r.room v j, rows_free.some, short, row_end_step f v j.low, row_end_rise f w (v - 1) (omega arith)))
          (omega (arith, r.room v j))

  module _ {start' : List ℕ} (e : start' ≡ set start (w - 1) (at start w - 1)) where
    -- the new start of the row of w
    at_same : at start' w ≡ at start w - 1
    at_same = rw e (at_set start (at start w - 1) r.size i)

    -- and of any other
    at_other : (v : ℕ) → In n v → v ≢ w → at start' v ≡ at start v
    at_other v j d = rw e (at_set_other start (at start w - 1) r.size i j d)

    -- each row starts as far before its end as it is long
    room : (v : ℕ) → In n v → at start' v + length (push w x L v) ≡ row_end f v
    room v j = go (ℕ_discrete v w)
      where
        go : Dec (v ≡ w) → at start' v + length (push w x L v) ≡ row_end f v
        go (yes h) = rw (h, at_same, eq-eqb w w refl) (omega (arith, r.room w i, rows_free.some))
        go (no d) = rw (at_other v j d, ne_eqb w v (λ z. d (sym z))) (r.room v j)

    -- what is stored stands in front of the row of w
    store : (N : ℕ → List ℕ) (mem : List ℕ) (y : ℕ) → row_end f n ≤ length mem → ((v : ℕ) → In n v → row f start mem v ≡ N v) → (v : ℕ) → In n v
        → row f start' (set mem (at start w - 1) y) v ≡ push w y N v
    store N mem y b c v j = go (ℕ_discrete v w)
      where
        go : Dec (v ≡ w) → row f start' (set mem (at start w - 1) y) v ≡ push w y N v
        go (yes h) =
            rw (h, at_same, eq-eqb w w refl)
            (store_front (at start w) (row_end f w) mem y rows_free.some (omega (arith, r.room w i)) (omega (arith, row_end_rise f w n i.high))
            ∙ ap (λ (l : List ℕ). y ∷ l) (c w i))
        go (no d) = rw (at_other v j d, ne_eqb w v (λ z. d (sym z))) (others mem y v j d ∙ c v j)

  -- once the row of w starts a cell earlier, x and s stand in front of it
  rows-placed : {s : ℕ} {start' nb' ar' : List ℕ} → Placed start nb ar w x s start' nb' ar' → Rows n m f (push w x L) (push w s M) start' nb' ar'
  rows-placed {s} p =
      record {
        size = rw p.starts (length-set start (w - 1) (at start w - 1) ∙ r.size);
        cells = rw p.cells (length-set nb (at start w - 1) x ∙ r.cells);
        same = rw p.areas (length-set ar (at start w - 1) s ∙ r.same);
        wide = r.wide;
        room = room p.starts;
        cell = rw p.cells (store p.starts L nb x (omega arith) r.cell);
        area = rw p.areas (store p.starts M ar s (omega arith) r.area);
      }

-- ---- edges

-- the edges from index k on stand in the rows of their ends
pub record Filled (n m : ℕ) (xs : List ℕ) (k : ℕ) (start nb ar : List ℕ) : Type 0 where
  -- they are taken
  pub taken : Taken n xs k
  -- the row of v has a cell for each edge at v, and they stand at its end
  pub rows : Rows n m (degree (edges_of xs)) (near (edges_from xs k)) (areas (edges_from xs k)) start nb ar

-- at first, where start has the sums of the counts, each row starts where it ends
pub filled_none : {n : ℕ} {xs counts start nb ar : List ℕ} → Counted n xs 0 counts → length start ≡ length counts
    → ((v : ℕ) → In (length counts) v → at start v ≡ row_end (at counts) v) → 2 * (length xs / edge_length) ≤ length nb → length ar ≡ length nb
    → Filled (length start) (length nb) xs (length xs / edge_length) start nb ar
unfolding sides
filled_none {n} {xs} {counts} {start} {nb} {ar} c e sums wide same =
    rw size record { taken = taken_none xs c.taken.ends; rows = rw (edges_from_end xs) rows }
  where
    size : length start ≡ n
    size = e ∙ c.size

    starts : (v : ℕ) → In n v → at start v ≡ row_end (degree (edges_of xs)) v
    starts v h = sums v (rw c.size h) ∙ sum_same v (at counts) (degree (edges_of xs)) (λ u j. c.count u (omega arith))

    rows : Rows n (length nb) (degree (edges_of xs)) (near []) (areas []) start nb ar
    rows =
        record {
          size = size;
          cells = refl;
          same = same;
          wide = omega (arith, row_end_bound n (edges_of xs) c.taken.ends, length-edges xs);
          room = λ v h. omega (arith, starts v h);
          cell = λ v h. rw (starts v h) (slice_empty (row_end (degree (edges_of xs)) v) nb);
          area = λ v h. rw (starts v h) (slice_empty (row_end (degree (edges_of xs)) v) ar);
        }

module _ {n m : ℕ} {xs : List ℕ} {k : ℕ} {start nb ar : List ℕ} (r : Filled n m xs k start nb ar) (low : 0 < k) where
  -- the ends of the edge before them
  ends : In n (edge_before xs k).a × In n (edge_before xs k).b
  ends = taken_ends r.taken low

  -- the rows with a in front of that of b
  b_row : ℕ → List ℕ
  b_row = push (edge_before xs k).b (edge_before xs k).a (near (edges_from xs k))

  -- are longer by the ends b
  b_length : (v : ℕ) → length (b_row v) ≡ bit (eqb (edge_before xs k).b v) + degree (edges_from xs k) v
  unfolding b_row
  b_length v =
      omega (arith, length-when (eqb (edge_before xs k).b v) (edge_before xs k).a (near (edges_from xs k) v), length-sides (λ w area. w) (edges_from xs k) v)

  -- for which there are cells
  b_fits : (v : ℕ) → length (b_row v) ≤ degree (edges_of xs) v
  b_fits v = omega (arith, taken_fits r.taken low v, b_length v)

  -- and so there are with b in front of that of a
  a_fits : (v : ℕ) → length (push (edge_before xs k).a (edge_before xs k).b b_row v) ≤ degree (edges_of xs) v
  a_fits v = omega (arith, taken_fits r.taken low v, b_length v, length-when (eqb (edge_before xs k).a v) (edge_before xs k).b (b_row v))

  -- the row of b can start a cell earlier
  pub filled_asks_b : Free start nb ar (edge_before xs k).b
  unfolding b_row
  filled_asks_b = rows_free r.rows (edge_before xs k).a ends.1 b_fits

  module _ {start₁ nb₁ ar₁ : List ℕ} (p : Placed start nb ar (edge_before xs k).b (edge_before xs k).a (edge_before xs k).area start₁ nb₁ ar₁) where
    -- the rows then
    b_rows : Rows n m (degree (edges_of xs)) b_row (push (edge_before xs k).b (edge_before xs k).area (areas (edges_from xs k))) start₁ nb₁ ar₁
    unfolding b_row
    b_rows = rows-placed r.rows (edge_before xs k).a ends.1 b_fits p

    -- and next that of a can
    pub filled_asks_a : Free start₁ nb₁ ar₁ (edge_before xs k).a
    filled_asks_a = rows_free b_rows (edge_before xs k).b ends.0 a_fits

    -- and then the edge stands in the rows of both its ends
    pub filled_more : {start₂ nb₂ ar₂ : List ℕ} → Placed start₁ nb₁ ar₁ (edge_before xs k).a (edge_before xs k).b (edge_before xs k).area start₂ nb₂ ar₂
        → Filled n m xs (k - 1) start₂ nb₂ ar₂
    unfolding b_row sides
    filled_more q =
        record {
          taken = taken_more r.taken low;
          rows = rw (taken_edge r.taken low) (rows-placed b_rows (edge_before xs k).b ends.0 a_fits q);
        }

-- in the end the rows are a table
pub filled_table : {n m : ℕ} {xs start nb ar : List ℕ} → Filled n m xs 0 start nb ar → 1 ≤ n → Ends (n - 1) (edges_of xs) → Table (n - 1) (edges_of xs) start nb ar
filled_table {n} {m} {xs} {start} {nb} {ar} filled one i =
    record {
      size = omega arith;
      ends = i;
      next = λ v h. omega (arith, r.room v (omega arith), next v h);
      fits = λ v h. omega (arith, next v h, row_end_rise f v n (omega arith));
      same = r.same ∙ sym r.cells;
      cell = λ v k h b. slice-get_or (at start v) (row_end f v) k nb (near (edges_of xs) v) (r.cell v (omega arith)) (omega (arith, r.room v (omega arith)));
      area = λ v k h b. slice-get_or (at start v) (row_end f v) k ar (areas (edges_of xs) v) (r.area v (omega arith)) (omega (arith, r.room v (omega arith)));
    }
  where
    f : ℕ → ℕ
    f = degree (edges_of xs)

    r : Rows n m f (near (edges_of xs)) (areas (edges_of xs)) start nb ar
    r = filled.rows

    next : (v : ℕ) → In (n - 1) v → get_or start v 0 ≡ row_end f v
    next v h =
        let e : v + 1 - 1 ≡ v = omega arith in
        subst (λ (j : ℕ). get_or start j 0 ≡ row_end f j) e
        (omega (arith, r.room (v + 1) (omega arith), row_end_step f (v + 1) (omega arith), length-sides (λ w area. w) (edges_of xs) (v + 1)))
