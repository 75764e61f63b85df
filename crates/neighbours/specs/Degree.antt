-- How many edges are at each region, and where its row ends if the rows of 1, 2, .. stand one after the other.
-- Assumes nothing.
use Rattle.std.specs.Prelude.{ℕ, zero, suc, ◌+◌, ◌-◌, ◌*◌, ◌≤◌, ◌≡◌, refl, List, [], ◌∷◌, Bool, true, false, eqb, length, drop}
use Rattle.std.proofs.Common.{not-suc-le-zero, le_refl, sub-one, arith, sym, ap, ◌∙◌, eq-eqb, ne_eqb}
use Rattle.std.proofs.Math.Decide.{ℕ_discrete}
use Rattle.lists.specs.Sums.{In, bit, up_to, sum}
use Rattle.lists.specs.SumLaws.{few_bound, every_all, every_turn, sum-swap, sum-add, sum_one, sum-last}
use Rattle.lists.specs.Tests.{bit_le}
use Rattle.meaning.specs.Plan.{Edge}
use Rattle.meaning.specs.Paths.{Ends}
use Rattle.neighbours.specs.Table.{when, sides, near, areas}

-- how many of the ends of an edge are v
abbrev pub ends_at : ℕ → Edge → ℕ
ends_at v e = bit (eqb e.a v) + bit (eqb e.b v)

-- how many edges are at v
unfoldable pub degree : List Edge → ℕ → ℕ
degree edges v = sum edges (ends_at v)

-- x in front is one more
pub length-when : (t : Bool) (x : ℕ) (l : List ℕ) → length (when t x l) ≡ bit t + length l
length-when true x l = omega arith
length-when false x l = omega arith

-- whatever is made of the edges at v, it is made of all of them
pub length-sides : (f : ℕ → ℕ → ℕ) (edges : List Edge) (v : ℕ) → length (sides f edges v) ≡ degree edges v
unfolding sides degree
length-sides f [] v = refl
length-sides f (e ∷ es) v =
    omega (
      arith,
      length-when (eqb e.a v) (f e.b e.area) (when (eqb e.b v) (f e.a e.area) (sides f es v)),
      length-when (eqb e.b v) (f e.a e.area) (sides f es v),
      length-sides f es v,
    )

-- v has as many areas as neighbours
pub same_length : (edges : List Edge) (v : ℕ) → length (areas edges v) ≡ length (near edges v)
same_length edges v = length-sides (λ w area. area) edges v ∙ sym (length-sides (λ w area. w) edges v)

-- one edge more
pub degree_edge : (e : Edge) (es : List Edge) (v : ℕ) → degree (e ∷ es) v ≡ ends_at v e + degree es v
unfolding degree
degree_edge e es v = refl

-- no more edges are at v from index k on than in all
pub degree-drop : (k : ℕ) (edges : List Edge) (v : ℕ) → degree (drop k edges) v ≤ degree edges v
degree-drop zero edges v = le_refl (degree edges v)
degree-drop (suc k) [] v = le_refl (degree [] v)
degree-drop (suc k) (e ∷ es) v = omega (arith, degree_edge e es v, degree-drop k es v)

-- each edge is at v twice at most
pub degree_bound : (edges : List Edge) (v : ℕ) → degree edges v ≤ length edges * 2
unfolding degree
degree_bound edges v =
    few_bound (length edges) 2 edges (ends_at v) (le_refl (length edges))
    (every_all (λ e. ends_at v e ≤ 2) (λ e. omega (arith, bit_le (eqb e.a v), bit_le (eqb e.b v))) edges)

-- where the row of v ends, if that of each u has f u cells
abbrev pub row_end : (ℕ → ℕ) → ℕ → ℕ
row_end f v = sum (up_to v) f

-- the row of v starts where the one before it ends
pub row_end_step : (f : ℕ → ℕ) (v : ℕ) → 1 ≤ v → row_end f v ≡ row_end f (v - 1) + f v
row_end_step f zero h = absurd (not-suc-le-zero h)
row_end_step f (suc v) h = rw sub-one (sum-last v f)

-- a later row ends no earlier
pub row_end_rise : (f : ℕ → ℕ) (u v : ℕ) → u ≤ v → row_end f u ≤ row_end f v
row_end_rise f u zero h = let e : u ≡ 0 = omega arith in omega (arith, ap (row_end f) e)
row_end_rise f u (suc v) h = go (ℕ_discrete u (suc v)) (row_end_rise f u v)
  where
    go : Dec (u ≡ suc v) → (u ≤ v → row_end f u ≤ row_end f v) → row_end f u ≤ row_end f (suc v)
    go (yes e) r = omega (arith, ap (row_end f) e)
    go (no d) r = omega (arith, r (omega arith), sum-last v f)

-- one of 1..n is so once
once : {n a : ℕ} → In n a → sum (up_to n) (λ v. bit (eqb a v)) ≡ 1
once {n} {a} i = sum_one n a (λ v. bit (eqb a v)) i (λ v j d. ap bit (ne_eqb a v (λ z. d (sym z)))) ∙ ap bit (eq-eqb a a refl)

-- each edge takes two cells
pub row_end_bound : (n : ℕ) (edges : List Edge) → Ends n edges → row_end (degree edges) n ≤ length edges * 2
unfolding degree
row_end_bound n edges i =
    rw (sum-swap (up_to n) edges ends_at)
    (few_bound (length edges) 2 edges (λ e. sum (up_to n) (λ v. ends_at v e)) (le_refl (length edges)) (every_turn two edges i))
  where
    two : (e : Edge) → In n e.a × In n e.b → sum (up_to n) (λ v. ends_at v e) ≤ 2
    two e h = omega (arith, sum-add (up_to n) (λ v. bit (eqb e.a v)) (λ v. bit (eqb e.b v)), once h.0, once h.1)
