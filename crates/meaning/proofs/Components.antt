-- Laws of the components and the workload of each sector: their sum, their place in the lists, and those of an empty sector.
-- Assumes nothing.
use Prim.Native.Nat.{ℕ, ◌+◌, ◌-◌, ◌*◌}
use Rattle.std.proofs.Common.{arith, sym, ◌∙◌, eq-eqb, ne_eqb}
use Rattle.std.specs.Prelude.{◌≡◌, refl, List, ◌≢◌, true, false, not, ◌&&◌, length}
use Rattle.std.proofs.Math.Path.{ap}
use Rattle.std.proofs.Math.Bool.{Bool}
use Rattle.std.proofs.Math.Dec.{eqb}
use Rattle.lists.specs.Sums.{In, at, bit, sum}
use Rattle.lists.specs.SumLaws.{sum-map, sum-swap, sum_same, sum_one, sum-none, length_table, at_table}
use Rattle.terms.specs.Distance.{gap, stands, distance}
use Rattle.meaning.specs.Plan.{Constraint, Plan, Coloured, regions, sectors}
use Rattle.meaning.specs.Joined.{labels, leads}
use Rattle.meaning.specs.Kinds.{ncc, ncc_all, load, whole, counts, loads, off_balance, deviation, connected, bounded}

-- a test beside one that passes counts for what it counts
and_same : (t : Bool) (x : ℕ) → bit (t && eqb x x) ≡ bit t
and_same true x = ap bit (eq-eqb x x refl)
and_same false x = refl

-- a test beside one that fails counts 0
and-other : (t : Bool) (x y : ℕ) → x ≢ y → bit (t && eqb x y) ≡ 0
and-other true x y ne = ap bit (ne_eqb x y ne)
and-other false x y ne = refl

module _ (P : Plan) (col : List ℕ) where
  -- NCC is the sum of NCC(c)
  pub ncc-sum : Coloured P col → sum (counts P col) (λ n. n) ≡ ncc_all P col
  unfolding ncc ncc_all counts
  ncc-sum k =
      sum-map (ncc P col) (sectors P) (λ n. n)
      ∙ sum-swap (sectors P) (regions P) (λ c u. bit (lead u && eqb (at col u) c))
      ∙ sum_same P.R _ _ one
    where
      lead : ℕ → Bool
      lead = leads (labels P.edges col)

      one : (u : ℕ) → In P.R u → sum (sectors P) (λ c. bit (lead u && eqb (at col u) c)) ≡ bit (lead u)
      one u i =
          sum_one P.S (at col u) _ (k.sector u i) (λ c _ ne. and-other (lead u) (at col u) c (λ z. ne (sym z)))
          ∙ and_same (lead u) (at col u)

  -- there is a count for each sector, empty or not
  pub counts-length : length (counts P col) ≡ P.S
  unfolding counts
  counts-length = length_table P.S (ncc P col)

  -- that of sector c is NCC(c)
  pub counts-at : (c : ℕ) → In P.S c → at (counts P col) c ≡ ncc P col c
  unfolding counts
  counts-at = at_table P.S (ncc P col)

  -- there is a workload for each sector, empty or not
  pub loads-length : length (loads P col) ≡ P.S
  unfolding loads
  loads-length = length_table P.S (load P col)

  -- that of sector c is X(c)
  pub loads-at : (c : ℕ) → In P.S c → at (loads P col) c ≡ load P col c
  unfolding loads
  loads-at = at_table P.S (load P col)

  -- kind 1 sums over all sectors, empty or not
  pub connected-all : (k : Constraint) → connected P col k ≡ bit (not (stands k.relation (ncc_all P col) k.limit)) + sum (sectors P) (λ c. ncc P col c - 1)
  unfolding connected counts
  connected-all k =
      ap (λ (n : ℕ). bit (not (stands k.relation (ncc_all P col) k.limit)) + n) (sum-map (ncc P col) (sectors P) (λ n. n - 1))

  -- and so does kind 3
  pub deviation-all : deviation P col ≡ sum (sectors P) (λ c. gap (P.S * load P col c) (whole P))
  unfolding deviation loads
  deviation-all = sum-map (load P col) (sectors P) (off_balance P)

  -- and kind 4
  pub bounded-all : (k : Constraint) → bounded P col k ≡ sum (sectors P) (λ c. distance k.relation (load P col c) k.limit)
  unfolding bounded loads
  bounded-all k = sum-map (load P col) (sectors P) (λ x. distance k.relation x k.limit)

-- no region has sector c
abbrev pub Empty : Plan → List ℕ → ℕ → Type 0
Empty P col c = (u : ℕ) → In P.R u → at col u ≢ c

-- what an empty sector counts for
pub record EmptyCounts (P : Plan) (col : List ℕ) (c : ℕ) : Type 0 where
  pub components : at (counts P col) c ≡ 0
  pub workload : at (loads P col) c ≡ 0
  pub balance : off_balance P (at (loads P col) c) ≡ whole P

module _ (P : Plan) (col : List ℕ) (c : ℕ) (none : Empty P col c) where
  -- an empty sector has no component
  pub empty_ncc : ncc P col c ≡ 0
  unfolding ncc
  empty_ncc = sum_same P.R _ (λ u. 0) (λ u i. and-other (leads (labels P.edges col) u) (at col u) c (none u i)) ∙ sum-none (regions P)

  -- an empty sector has no workload
  pub empty_load : load P col c ≡ 0
  unfolding load
  empty_load = sum_same P.R _ (λ u. 0) (λ u i. rw (ne_eqb (at col u) c (none u i))) ∙ sum-none (regions P)

  -- an empty sector counts 0 components and workload 0, and is as far from the average as the whole workload
  pub empty_counts : In P.S c → EmptyCounts P col c
  empty_counts i =
      let x : at (loads P col) c ≡ 0 = loads-at P col c i ∙ empty_load in
      record { components = counts-at P col c i ∙ empty_ncc; workload = x; balance = rw x (omega arith) }
