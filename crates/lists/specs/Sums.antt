-- Sums and counts over a list, those of it that pass a test, and the numbers 1..n.
-- Assumes nothing.
use Rattle.std.specs.Prelude.{ℕ, zero, suc, ◌+◌, ◌-◌, ◌≤◌, List, [], ◌∷◌, map, Bool, true, false, cond, get_or}

-- u is one of 1..n
pub record In (n u : ℕ) : Type 0 where
  pub low : 1 ≤ u
  pub high : u ≤ n

-- what a list says of number u: that of 1 stands first
abbrev pub at : List ℕ → ℕ → ℕ
at xs u = get_or xs (u - 1) 0

-- k, k + 1, .., n of them
abbrev pub from : ℕ → ℕ → List ℕ
from k zero = []
from k (suc n) = k ∷ from (suc k) n

-- 1, 2, .., n
abbrev pub up_to : ℕ → List ℕ
up_to n = from 1 n

-- f 0, f 1, .., n of them
abbrev pub list_of : {A : Type 0} → ℕ → (ℕ → A) → List A
list_of n f = map f (from 0 n)

-- 1 for a test that passes, 0 for one that fails
abbrev pub bit : Bool → ℕ
bit true = 1
bit false = 0

module _ {A : Type 0} where
  -- the sum of f over a list
  abbrev pub sum : List A → (A → ℕ) → ℕ
  sum [] f = 0
  sum (x ∷ xs) f = f x + sum xs f

  -- how many of a list pass a test
  abbrev pub count : List A → (A → Bool) → ℕ
  count xs p = sum xs (λ x. bit (p x))

  -- those of a list that pass a test, in its order
  unfoldable pub passing : (A → Bool) → List A → List A
  passing test [] = []
  passing test (x ∷ xs) = cond (test x) (x ∷ passing test xs) (passing test xs)

  -- each of a list has P
  abbrev pub Every : (A → Type 0) → List A → Type 0
  Every P [] = Unit {0}
  Every P (x ∷ xs) = P x × Every P xs
