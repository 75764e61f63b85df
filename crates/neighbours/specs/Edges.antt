-- The edges of a flat list, taken from the last to the first.
-- Assumes nothing.
use Prim.Native.Nat.{ℕ, zero, suc, ◌+◌, ◌-◌, ◌/◌, ◌≤◌, ◌<◌}
use Rattle.std.proofs.Common.{not-suc-le-zero, le_refl, le_of_eq, arith, drop_of_length-le}
use Rattle.std.proofs.Math.Numerals.{sub-one}
use Rattle.std.specs.Prelude.{◌≡◌, List, [], ◌∷◌, drop}
use Rattle.std.proofs.Math.ListN.{length}
use Rattle.lists.specs.Sums.{In}
use Rattle.lists.specs.SumLaws.{every_turn}
use Rattle.lists.specs.ListLaws.{length-list_of, drop-list_of}
use Rattle.meaning.specs.Plan.{Edge, edge_length, edge_at, edges_of}
use Rattle.meaning.specs.Paths.{Ends}
use Rattle.neighbours.specs.Degree.{ends_at, degree, degree_edge, degree-drop}

-- the edges from index k on
abbrev pub edges_from : List ℕ → ℕ → List Edge
edges_from xs k = drop k (edges_of xs)

-- the edge before them
abbrev pub edge_before : List ℕ → ℕ → Edge
edge_before xs k = edge_at xs (k - 1)

-- how many edges there are
pub length-edges : (xs : List ℕ) → length (edges_of xs) ≡ length xs / edge_length
unfolding edges_of
length-edges xs = length-list_of (length xs / edge_length) (edge_at xs)

-- from that index on there is none
pub edges_from_end : (xs : List ℕ) → edges_from xs (length xs / edge_length) ≡ []
edges_from_end xs = drop_of_length-le (edges_of xs) (le_of_eq (length-edges xs))

-- ends among 1..n - 1 are among 1..n
pub ends_more : (n : ℕ) (edges : List Edge) → Ends (n - 1) edges → Ends n edges
ends_more n edges i = every_turn (λ e h. omega arith) edges i

-- the ends of the edges from index k on are ends of edges
ends_drop : (n k : ℕ) (edges : List Edge) → Ends n edges → Ends n (drop k edges)
ends_drop n zero edges i = i
ends_drop n (suc k) [] i = tt
ends_drop n (suc k) (e ∷ es) i = ends_drop n k es i.1

-- the edges from index k on are taken
pub record Taken (n : ℕ) (xs : List ℕ) (k : ℕ) : Type 0 where
  -- all edges have their ends among 1..n
  pub ends : Ends n (edges_of xs)
  -- k is the index of an edge, or that past the last
  pub high : k ≤ length xs / edge_length

-- at first none is
pub taken_none : {n : ℕ} (xs : List ℕ) → Ends n (edges_of xs) → Taken n xs (length xs / edge_length)
taken_none xs i = record { ends = i; high = le_refl (length xs / edge_length) }

module _ {n : ℕ} {xs : List ℕ} {k : ℕ} (t : Taken n xs k) (low : 0 < k) where
  -- then the edge before them is
  pub taken_more : Taken n xs (k - 1)
  taken_more = record { ends = t.ends; high = omega arith }

  -- which comes in front
  pub taken_edge : edges_from xs (k - 1) ≡ edge_before xs k ∷ edges_from xs k
  unfolding edges_of
  taken_edge = front k low t.high
    where
      front : (k : ℕ) → 0 < k → k ≤ length xs / edge_length → edges_from xs (k - 1) ≡ edge_before xs k ∷ edges_from xs k
      front zero low high = absurd (not-suc-le-zero low)
      front (suc k) low high = rw sub-one (drop-list_of (length xs / edge_length) (edge_at xs) k high)

  -- has its ends among 1..n
  pub taken_ends : In n (edge_before xs k).a × In n (edge_before xs k).b
  taken_ends = (rw taken_edge at (ends_drop n (k - 1) (edges_of xs) t.ends)).0

  -- counts at both of them
  pub taken-degree : (v : ℕ) → degree (edges_from xs (k - 1)) v ≡ ends_at v (edge_before xs k) + degree (edges_from xs k) v
  taken-degree v = rw taken_edge (degree_edge (edge_before xs k) (edges_from xs k) v)

  -- and is one of all
  pub taken_fits : (v : ℕ) → ends_at v (edge_before xs k) + degree (edges_from xs k) v ≤ degree (edges_of xs) v
  taken_fits v = rw (← taken-degree v) (degree-drop (k - 1) (edges_of xs) v)
