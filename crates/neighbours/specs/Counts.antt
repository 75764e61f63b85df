-- The edges at each region are counted, and each count is then added to all before it.
-- Assumes nothing.
use Rattle.std.specs.Prelude.{ℕ, ◌+◌, ◌-◌, ◌/◌, ◌≤◌, ◌<◌, ◌≡◌, refl, List, eqb, length, get_or, set, replicate}
use Rattle.std.proofs.Common.{le_refl, add-one, arith, sym, ap, ◌∙◌, below_none, below_more, eq-eqb, ne_eqb, length-set, get_or-set_same, get_or-set_other}
use Rattle.std.proofs.Math.Decide.{ℕ_discrete}
use Rattle.std.proofs.lemmas.List.{length-replicate, get_or-replicate}
use Rattle.lists.specs.Sums.{In, at, bit}
use Rattle.lists.specs.SumLaws.{sum-last, sum_same}
use Rattle.lists.specs.Places.{at_set, at_set_other}
use Rattle.meaning.specs.Plan.{edge_length, edges_of}
use Rattle.meaning.specs.Paths.{Ends}
use Rattle.neighbours.specs.Degree.{degree, degree_bound, row_end, row_end_rise, row_end_bound}
use Rattle.neighbours.specs.Edges.{edges_from, edge_before, length-edges, edges_from_end, Taken, taken_none, taken_more, taken_ends, taken-degree, taken_fits}

-- ---- counts

-- one more at v
abbrev pub one_more : List ℕ → ℕ → List ℕ
one_more counts v = set counts (v - 1) (at counts v + 1)

module _ {n : ℕ} (counts : List ℕ) {w : ℕ} (size : length counts ≡ n) (i : In n w) where
  -- there are as many counts as before
  length-one_more : length (one_more counts w) ≡ n
  length-one_more = length-set counts (w - 1) (at counts w + 1) ∙ size

  -- and that of w is one more
  at-one_more : (v : ℕ) → In n v → at (one_more counts w) v ≡ bit (eqb w v) + at counts v
  at-one_more v h = go (ℕ_discrete v w)
    where
      go : Dec (v ≡ w) → at (one_more counts w) v ≡ bit (eqb w v) + at counts v
      go (yes e) = rw (e, at_set counts (at counts w + 1) size i, eq-eqb w w refl) (omega arith)
      go (no d) = rw (at_set_other counts (at counts w + 1) size i h d, ne_eqb w v (λ z. d (sym z))) (omega arith)

-- the edges from index k on are counted at their ends
pub record Counted (n : ℕ) (xs : List ℕ) (k : ℕ) (counts : List ℕ) : Type 0 where
  -- they are taken
  pub taken : Taken n xs k
  -- a count for each of 1..n
  pub size : length counts ≡ n
  -- how many of these edges are at v
  pub count : (v : ℕ) → In n v → at counts v ≡ degree (edges_from xs k) v

-- at first every count is 0
pub counted_none : {n : ℕ} {xs counts : List ℕ} → Ends n (edges_of xs) → counts ≡ replicate n 0 → Counted n xs (length xs / edge_length) counts
unfolding degree
counted_none {n} {xs} i e =
    record {
      taken = taken_none xs i;
      size = rw e (length-replicate n 0);
      count = λ v h. rw (e, edges_from_end xs) (get_or-replicate n (v - 1) 0 0 (omega arith));
    }

module _ {n : ℕ} {xs : List ℕ} {k : ℕ} {counts : List ℕ} (c : Counted n xs k counts) (low : 0 < k) where
  -- the ends of the edge before them
  ends : In n (edge_before xs k).a × In n (edge_before xs k).b
  ends = taken_ends c.taken low

  -- no count comes above the length of the flat list
  small : (v : ℕ) → bit (eqb (edge_before xs k).a v) + degree (edges_from xs k) v ≤ length xs
  small v = omega (arith, taken_fits c.taken low v, degree_bound (edges_of xs) v, length-edges xs)

  -- its end a may be counted
  pub counted_asks_a : In (length counts) (edge_before xs k).a × (at counts (edge_before xs k).a ≤ length xs)
  counted_asks_a = omega (arith, ends, small (edge_before xs k).a, c.count (edge_before xs k).a ends.0)

  module _ {counts₁ : List ℕ} (p : counts₁ ≡ one_more counts (edge_before xs k).a) where
    -- then there are as many counts
    size : length counts₁ ≡ n
    size = rw p (length-one_more counts c.size ends.0)

    -- which have the edge at a only
    half : (v : ℕ) → In n v → at counts₁ v ≡ bit (eqb (edge_before xs k).a v) + degree (edges_from xs k) v
    half v h = rw (p, ← c.count v h) (at-one_more counts c.size ends.0 v h)

    -- and next its end b may
    pub counted_asks_b : In (length counts₁) (edge_before xs k).b × (at counts₁ (edge_before xs k).b ≤ length xs)
    counted_asks_b = omega (arith, size, ends, small (edge_before xs k).b, half (edge_before xs k).b ends.1)

    -- and then the edge is counted
    pub counted_more : {counts₂ : List ℕ} → counts₂ ≡ one_more counts₁ (edge_before xs k).b → Counted n xs (k - 1) counts₂
    counted_more q =
        record {
          taken = taken_more c.taken low;
          size = rw q (length-one_more counts₁ size ends.1);
          count = λ v h. omega (arith, taken-degree c.taken low v, half v h, ap (λ (l : List ℕ). at l v) q, at-one_more counts₁ size ends.1 v h);
        }

-- ---- sums of counts

-- in place of the first k counts stand their sums, of which the last is t
pub record Summed (counts : List ℕ) (t k : ℕ) (sums : List ℕ) : Type 0 where
  -- there are as many
  pub size : length sums ≡ length counts
  -- t is the sum of the first k
  pub total : t ≡ row_end (at counts) k
  -- sums stand in the first k places
  pub done : (j : ℕ) → j < k → get_or sums j 0 ≡ row_end (at counts) (j + 1)
  -- and counts in the others
  pub left : (j : ℕ) → k ≤ j → get_or sums j 0 ≡ at counts (j + 1)

-- at first all are counts
pub summed_none : (counts : List ℕ) → Summed counts 0 0 counts
summed_none counts =
    record {
      size = refl;
      total = refl;
      done = below_none (λ j. get_or counts j 0 ≡ row_end (at counts) (j + 1));
      left = λ j h. let e : j ≡ j + 1 - 1 = omega arith in ap (λ (i : ℕ). get_or counts i 0) e;
    }

module _ {counts : List ℕ} {t k : ℕ} {sums : List ℕ} (s : Summed counts t k sums) where
  -- the next sum
  next : t + get_or sums k 0 ≡ row_end (at counts) (k + 1)
  next = rw (s.total, s.left k (le_refl k), add-one k) (sym (sum-last k (at counts)))

  -- is at most the last
  pub summed_bound : k < length counts → t + get_or sums k 0 ≤ row_end (at counts) (length counts)
  summed_bound h = omega (arith, next, row_end_rise (at counts) (k + 1) (length counts) (omega arith))

  -- and takes its place
  pub summed_more : k < length counts → Summed counts (t + get_or sums k 0) (k + 1) (set sums k (t + get_or sums k 0))
  summed_more h =
      record {
        size = length-set sums k (t + get_or sums k 0) ∙ s.size;
        total = next;
        done = below_more (λ j. get_or (set sums k (t + get_or sums k 0)) j 0 ≡ row_end (at counts) (j + 1)) k
            (λ j b. get_or-set_other sums k j (t + get_or sums k 0) 0 (omega arith) ∙ s.done j b)
            (get_or-set_same sums k (t + get_or sums k 0) 0 (omega arith) ∙ next);
        left = λ j b. get_or-set_other sums k j (t + get_or sums k 0) 0 (omega arith) ∙ s.left j (omega arith);
      }

  -- in the end all are sums
  pub summed_all : length counts ≤ k → (v : ℕ) → In (length counts) v → at sums v ≡ row_end (at counts) v
  summed_all h v i = let e : v - 1 + 1 ≡ v = omega arith in s.done (v - 1) (omega arith) ∙ ap (row_end (at counts)) e

-- the counts of all edges add up to no more than the length of the flat list
pub counted_sum : {n : ℕ} {xs counts : List ℕ} → Counted n xs 0 counts → row_end (at counts) (length counts) ≤ length xs
counted_sum {n} {xs} {counts} c =
    rw (c.size, sum_same n (at counts) (degree (edges_of xs)) c.count) (omega (arith, row_end_bound n (edges_of xs) c.taken.ends, length-edges xs))
