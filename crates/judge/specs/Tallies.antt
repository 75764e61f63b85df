-- Tallies: how a loop over the regions makes them, and that those of the labels and of the workloads are NCC(c) and X(c).
-- Assumes nothing.
use Rattle.std.specs.Prelude.{ℕ, suc, ◌+◌, ◌-◌, ◌*◌, ◌≤◌, ◌<◌, ◌≡◌, refl, List, Bool, true, false, ◌&&◌, eqb, length, get_or, set, replicate}
use Rattle.std.proofs.Common.{le_refl, mul-le-mul_right, add-mul, add-one, arith, ◌∙◌, eq-eqb, ne_eqb, length-set}
use Rattle.std.proofs.Math.Decide.{ℕ_discrete}
use Rattle.std.proofs.Math.Path.{sym, ap}
use Rattle.std.proofs.Math.Bool.{cond}
use Rattle.std.proofs.lemmas.List.{length-replicate}
use Rattle.std.proofs.Math.ListN.{get_or-replicate}
use Rattle.lists.specs.Sums.{In, at, up_to, bit, sum}
use Rattle.lists.specs.SumLaws.{sum_ext, sum-last, few_bound, every_all, length_from, length_table, at_table}
use Rattle.lists.specs.Tests.{cond-le}
use Rattle.lists.specs.Places.{at_set, at_set_other, at_next, table_is}
use Rattle.lists.specs.ListLaws.{map_ext}
use Rattle.meaning.specs.Plan.{Plan, Limits, Coloured, most_regions}
use Rattle.meaning.specs.Joined.{labels, leads}
use Rattle.meaning.specs.Kinds.{ncc, load, counts, loads}
use Rattle.judge.specs.Figures.{tally}

-- x added to the sum of sector c
abbrev pub added : List ℕ → ℕ → ℕ → List ℕ
added sums c x = set sums (c - 1) (at sums c + x)

-- a sum of sector d after x was added to that of sector c
at_added : (sums : List ℕ) (c x d : ℕ) → In (length sums) c → In (length sums) d → at (added sums c x) d ≡ at sums d + cond (eqb c d) x 0
at_added sums c x d i j = go (ℕ_discrete c d)
  where
    go : Dec (c ≡ d) → at (added sums c x) d ≡ at sums d + cond (eqb c d) x 0
    go (yes e) = rw (eq-eqb c d e, ← e) (at_set sums (at sums c + x) refl i)
    go (no ne) = rw (ne_eqb c d ne) (at_set_other sums (at sums c + x) refl i j (λ z. ne (sym z)) ∙ omega arith)

module _ (S : ℕ) (col : List ℕ) (f : ℕ → ℕ) where
  -- there is a sum for each sector
  tally-length : (n : ℕ) → length (tally S col f n) ≡ S
  unfolding tally
  tally-length n = length_table S _

  -- the sum of sector c
  tally-at : (n c : ℕ) → In S c → at (tally S col f n) c ≡ sum (up_to n) (λ u. cond (eqb (at col u) c) (f u) 0)
  unfolding tally
  tally-at n = at_table S _

  -- of no region, the sums are 0
  tally_start : replicate S 0 ≡ tally S col f 0
  unfolding tally
  tally_start = table_is S (λ c. 0) (replicate S 0) (length-replicate S 0) (λ c i. get_or-replicate S (c - 1) 0 0 (omega arith))

  -- one region more: what it has is added to the sum of its sector
  tally-suc : (i : ℕ) → In S (at col (suc i)) → added (tally S col f i) (at col (suc i)) (f (suc i)) ≡ tally S col f (suc i)
  unfolding tally
  tally-suc i h =
      table_is S _ _ (length-set (tally S col f i) (at col (suc i) - 1) _ ∙ tally-length i)
      (λ c j.
      at_added (tally S col f i) (at col (suc i)) (f (suc i)) c (rw (tally-length i) h) (rw (tally-length i) j)
      ∙ ap (λ n. n + cond (eqb (at col (suc i)) c) (f (suc i)) 0) (tally-at i c j)
      ∙ sym (sum-last i (λ u. cond (eqb (at col u) c) (f u) 0)))

  -- no sum is above B for each region, where no region has more than B
  tally_bound : (B : ℕ) → ((u : ℕ) → f u ≤ B) → (n c : ℕ) → In S c → at (tally S col f n) c ≤ n * B
  tally_bound B h n c i =
      rw (tally-at n c i)
      (few_bound n B (up_to n) _ (rw (length_from 1 n) (le_refl n))
      (every_all _ (λ u. cond-le (eqb (at col u) c) (h u) (omega arith)) (up_to n)))

-- a colouring of few regions by the sectors 1..S, and a number for each region
pub record Tallying (S : ℕ) (numbers col : List ℕ) : Type 0 where
  pub few : length col ≤ most_regions
  pub size : length numbers ≡ length col
  pub sector : (u : ℕ) → In (length col) u → In S (at col u)

-- a coloured plan has them
pub plan_tallying : (P : Plan) {numbers col : List ℕ} → Limits P → Coloured P col → length numbers ≡ P.R → Tallying P.S numbers col
plan_tallying P l k e = record { few = rw k.size l.R.high; size = e ∙ sym k.size; sector = rw k.size k.sector }

-- ---- a loop over the regions

-- the sums are the tally of the regions before index i
pub record Tallied (S : ℕ) (numbers col : List ℕ) (f : ℕ → ℕ) (i : ℕ) (sums : List ℕ) : Type 0 where
  pub ready : Tallying S numbers col
  pub place : i ≤ length col
  pub tallied : sums ≡ tally S col f i

module _ {n S : ℕ} (size : n ≡ S) {numbers col : List ℕ} {f : ℕ → ℕ} {sums : List ℕ} where
  -- sums of 0 are the tally of no region
  pub tallied_start : sums ≡ replicate S 0 → Tallying S numbers col → Tallied n numbers col f 0 sums
  tallied_start e t = rw size (record { ready = t; place = omega arith; tallied = e ∙ tally_start S col f })

  module _ {i : ℕ} (t : Tallied n numbers col f i sums) where
    -- there is a sum for each sector
    pub tallied_length : length sums ≡ S
    tallied_length = ap length t.tallied ∙ tally-length n col f i ∙ size

    -- past the last region the sums are the tally of all
    pub tallied_end : length col ≤ i → sums ≡ tally S col f (length col)
    tallied_end h = let e : i ≡ length col = omega (arith, t.place) in rw (← e, ← size) t.tallied

module _ {S : ℕ} {numbers col : List ℕ} {f : ℕ → ℕ} {i : ℕ} {sums : List ℕ} (t : Tallied S numbers col f i sums) (h : i < length col) where
  -- the sector of the next region
  sector : In S (get_or col i 0)
  sector = rw at_next at (t.ready.sector (i + 1) (record { low = omega arith; high = omega arith }))

  -- it has a sum
  pub tallied_sector : In (length sums) (get_or col i 0)
  tallied_sector = rw (t.tallied, tally-length S col f i) sector

  module _ {x : ℕ} (e : x ≡ f (i + 1)) where
    -- what the next region has, added to the sum of its sector: the tally of the regions before the next index
    pub tallied_turn : Tallied S numbers col f (i + 1) (added sums (get_or col i 0) x)
    tallied_turn =
        record {
          ready = t.ready;
          place = omega arith;
          tallied = rw (t.tallied, e, ← at_next col i, add-one i) (tally-suc S col f i (rw (← at_next col i, add-one i) at sector));
        }

    -- that sum has room for it, where no region has more than B
    pub tallied_room : (B : ℕ) → ((u : ℕ) → f u ≤ B) → at sums (get_or col i 0) + x ≤ most_regions * B
    tallied_room B b =
        let few : i + 1 ≤ most_regions = omega (arith, t.ready.few) in
        omega (
          arith,
          ap (λ l. at l (get_or col i 0)) t.tallied,
          tally_bound S col f B b i (get_or col i 0) sector,
          b (i + 1),
          mul-le-mul_right B few,
          add-mul i 1 B,
        )

-- ---- what the tallies are in a plan

-- a test beside another counts for what it counts where the other passes
and-bit : (s t : Bool) → cond t (bit s) 0 ≡ bit (s && t)
and-bit true true = refl
and-bit true false = refl
and-bit false true = refl
and-bit false false = refl

module _ (P : Plan) (col : List ℕ) (k : Coloured P col) where
  -- the tally of the regions that lead is NCC(1), .., NCC(S)
  pub counts_by : tally P.S col (λ u. bit (leads (labels P.edges col) u)) (length col) ≡ counts P col
  unfolding tally counts ncc
  counts_by =
      rw k.size
      (map_ext (up_to P.S) _ _
      (every_all _
      (λ c. sum_ext (up_to P.R) _ _ (every_all _ (λ u. and-bit (leads (labels P.edges col) u) (eqb (at col u) c)) (up_to P.R)))
      (up_to P.S)))

  -- the tally of the workloads is X(1), .., X(S)
  pub loads_by : tally P.S col (at P.workloads) (length col) ≡ loads P col
  unfolding tally loads load
  loads_by = rw k.size
