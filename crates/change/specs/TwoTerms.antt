-- Sums over a list of which two numbers change.
-- Assumes nothing.
use Rattle.std.specs.Prelude.{ℕ, ◌+◌, ◌-◌, ◌*◌, ◌≤◌, ◌<◌, ◌^◌, ◌≡◌, ◌≢◌, List, length, set}
use Rattle.std.proofs.Common.{add-mul, arith}
use Rattle.lists.specs.Sums.{In, at, sum}
use Rattle.lists.specs.Places.{sum-set_2}
use Rattle.lists.specs.Few.{Few, few_sum}
use Rattle.change.specs.declared.Pair.{Pair}
use Rattle.change.specs.Shift.{each, shift}
use Rattle.change.specs.Small.{AtMost, Fits}

-- whatever is summed, the sum over l' and the two terms before make the sum over l and the two terms after
pub record Shifts (l l' : List ℕ) (before after : Pair) : Type 0 where
  pub sums : (f : ℕ → ℕ) → sum l' f + (f before.old + f before.new) ≡ sum l f + (f after.old + f after.new)

-- so it is where the numbers of two sectors are set anew
pub shifts_set : {n a b : ℕ} (l : List ℕ) {l' : List ℕ} {x y : ℕ} → length l ≡ n → In n a → In n b → b ≢ a → l' ≡ set (set l (a - 1) x) (b - 1) y
    → Shifts l l' (record { old = at l a; new = at l b }) (record { old = x; new = y })
shifts_set l {l'} {x} {y} size i j ne e = record { sums = λ f. rw e (sum-set_2 f l x y size i j ne) }

module _ {l l' : List ℕ} {before after : Pair} (s : Shifts l l' before after) (f : ℕ → ℕ) where
  -- the sum over l with its two terms changed is the sum over l'
  pub shifts_sum : shift (sum l f) (each f before) (each f after) ≡ sum l' f
  shifts_sum = omega (arith, s.sums f)

  -- it does not fall below 0, and of few numbers, none of them large, it does not get too large
  pub shifts_fit : {N B C : ℕ} → Few N B l → AtMost B after → ((x : ℕ) → x ≤ B → f x ≤ C) → (N + 2) * C < 2 ^ 64 → Fits (sum l f) (each f before) (each f after)
  shifts_fit {N} {B} {C} w a h room =
      record {
        low = omega (arith, s.sums f);
        high = omega (arith, few_sum w C f h, h after.old a.old, h after.new a.new, add-mul N 2 C);
      }
