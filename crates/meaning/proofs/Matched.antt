-- Two colourings whose sectors correspond, where the second may leave out sectors that have no region: what is summed over all sectors.
-- Assumes nothing.
use Rattle.std.specs.Prelude.{ℕ, ◌+◌, ◌-◌, ◌≡◌, refl, List, map, Bool, true, false, cond, not}
use Rattle.std.proofs.Common.{sym, ap, ◌∙◌}
use Rattle.lists.specs.Sums.{In, bit, sum}
use Rattle.lists.specs.SumLaws.{sum-map}
use Rattle.lists.specs.Onto.{Onto, sum_onto}
use Rattle.terms.specs.Distance.{stands}
use Rattle.meaning.specs.Plan.{Constraint, Plan, sectors, with_sectors}
use Rattle.meaning.specs.Kinds.{ncc, ncc_all, load, counts, loads, connected}
use Rattle.meaning.proofs.Components.{Empty, empty_ncc, empty_load}
use Rattle.meaning.proofs.Together.{Together, SameRegions, ncc-all-together, ncc-together, load-same-regions}

-- sector c of the first colouring is sector p c of the second, which has S of them; those that fail the test have no region
pub record Matched (P : Plan) (S : ℕ) (some : ℕ → Bool) (p : ℕ → ℕ) (col col' : List ℕ) : Type 0 where
  pub together : Together col col'
  pub onto : Onto P.S S some p
  pub regions : (c : ℕ) → In P.S c → some c ≡ true → SameRegions P.R col c col' (p c)
  pub empty : (c : ℕ) → In P.S c → some c ≡ false → Empty P col c

module _ {P : Plan} {S : ℕ} {some : ℕ → Bool} {p : ℕ → ℕ} {col col' : List ℕ} (m : Matched P S some p col col') where
  -- f is 0 at 0, or no sector is left out
  abbrev Blind : (ℕ → ℕ) → Type 0
  Blind f = (c : ℕ) → In P.S c → some c ≡ false → f 0 ≡ 0

  -- a sum over all sectors is the same, where what is summed is f of a number that goes by a sector's regions, and is 0 without any
  over-sectors : (X : List ℕ → ℕ → ℕ) → ((c d : ℕ) → SameRegions P.R col c col' d → X col c ≡ X col' d) → ((c : ℕ) → Empty P col c → X col c ≡ 0)
      → (f : ℕ → ℕ) → Blind f → sum (map (X col') (sectors (with_sectors P S))) f ≡ sum (map (X col) (sectors P)) f
  over-sectors X same none f z =
      sum-map (X col') (sectors (with_sectors P S)) f
      ∙ sum_onto m.onto (λ c. f (X col c)) (λ d. f (X col' d)) (λ c i. one c i (some c) refl)
      ∙ sym (sum-map (X col) (sectors P) f)
    where
      one : (c : ℕ) → In P.S c → (t : Bool) → some c ≡ t → f (X col c) ≡ cond t (f (X col' (p c))) 0
      one c i true e = ap f (same c (p c) (m.regions c i e))
      one c i false e = ap f (none c (m.empty c i e)) ∙ z c i e

  -- such a number is a sector's component count
  over-counts : (f : ℕ → ℕ) → Blind f → sum (counts (with_sectors P S) col') f ≡ sum (counts P col) f
  unfolding counts ncc
  over-counts = over-sectors (ncc P) (λ c d. ncc-together m.together P) (empty_ncc P col)

  -- and its workload sum
  pub over-loads : (f : ℕ → ℕ) → Blind f → sum (loads (with_sectors P S) col') f ≡ sum (loads P col) f
  unfolding loads load
  over-loads = over-sectors (load P) (λ c d. load-same-regions P) (empty_load P col)

  -- so the violation of kind 1 is the same
  pub connected_matched : (k : Constraint) → connected (with_sectors P S) col' k ≡ connected P col k
  unfolding connected ncc_all
  connected_matched k =
      rw (over-counts (λ n. n - 1) (λ c i e. refl))
      (ap (λ (n : ℕ). bit (not (stands k.relation n k.limit)) + sum (counts P col) (λ n. n - 1)) (sym (ncc-all-together m.together P)))
