-- A scan for the first item that is not right: `Scan n right k` says that of n items the first k are.
-- Assumes nothing.
use Prim.Native.Nat.{ℕ, suc, ◌+◌, ◌-◌, ◌≤◌, ◌<◌}
use native.Mathlib.Numerals.{add-one}
use native.Mathlib.Omega.{arith}
use mathlib.Core.Path.{◌≡◌, sym, ◌∙◌, ap}
use mathlib.Core.Bool.{Bool, true, false, not}
use borrow.Author.Tests.{not-true, not-false}
use Rattle.scans.specs.Items.{off_from, first_off}

-- the items from k on give the place that all of them give
pub record Scan (n : ℕ) (right : ℕ → Bool) (k : ℕ) : Type 0 where
  pub within : k ≤ n
  pub rest : off_from k (n - k) right ≡ first_off n right

module _ (n : ℕ) (right : ℕ → Bool) where
  pub scan_start : Scan n right 0
  scan_start = record { within = omega arith; rest = ap (λ (m : ℕ). off_from 0 m right) (omega arith) }

  off_next : (k m : ℕ) → right k ≡ true → off_from k (suc m) right ≡ off_from (suc k) m right
  unfolding off_from
  off_next k m h = rw h

  off_here : (k m : ℕ) → right k ≡ false → off_from k (suc m) right ≡ suc k
  unfolding off_from
  off_here k m h = rw h

  off_none : (k m : ℕ) → m ≡ 0 → off_from k m right ≡ 0
  unfolding off_from
  off_none k m h = rw h

  -- item k and those after it
  rest_from : (k : ℕ) → k < n → off_from k (suc (n - (k + 1))) right ≡ off_from k (n - k) right
  rest_from k l = ap (λ (m : ℕ). off_from k m right) (omega arith)

  -- the test of item k passes
  pub scan_next : (k : ℕ) (passes : Bool) → passes ≡ right k → not passes ≡ false → k < n → Scan n right k → Scan n right (k + 1)
  scan_next k passes e h l s =
      record {
        within = omega arith;
        rest =
            ap (λ (j : ℕ). off_from j (n - (k + 1)) right) (add-one k)
            ∙ sym (off_next k (n - (k + 1)) (sym e ∙ not-false passes h))
            ∙ rest_from k l
            ∙ s.rest;
      }

  -- the test of item k fails: it is the first
  pub scan_here : (k : ℕ) (passes : Bool) → passes ≡ right k → not passes ≡ true → k < n → Scan n right k → k + 1 ≡ first_off n right
  scan_here k passes e h l s =
      add-one k ∙ sym (off_here k (n - (k + 1)) (sym e ∙ not-true passes h)) ∙ rest_from k l ∙ s.rest

  -- no item is left
  pub scan_end : (k : ℕ) → n ≤ k → Scan n right k → 0 ≡ first_off n right
  scan_end k l s = sym (off_none k (n - k) (omega arith)) ∙ s.rest
