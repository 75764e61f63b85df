-- Few numbers, none of them large: what their sums come to.
-- Assumes nothing.
use Rattle.std.specs.Prelude.{ℕ, zero, suc, ◌*◌, ◌≤◌, ◌<◌, ◌≡◌, List, [], ◌∷◌, map, length, get_or}
use Rattle.std.proofs.Common.{le_of_suc-le-suc, not-suc-le-zero, arith}
use Rattle.lists.specs.Sums.{up_to, sum, Every}
use Rattle.lists.specs.SumLaws.{few_bound, get_or_bound, every_all, every_map, every_turn, length_table}

-- at most N numbers, none above B
pub record Few (N B : ℕ) (xs : List ℕ) : Type 0 where
  pub few : length xs ≤ N
  pub each : Every (λ x. x ≤ B) xs

-- what each has, the one at index i has
each_at : (P : ℕ → Type 0) (xs : List ℕ) (i d : ℕ) → Every P xs → i < length xs → P (get_or xs i d)
each_at P [] i d e h = absurd (not-suc-le-zero h)
each_at P (x ∷ xs) zero d e h = e.0
each_at P (x ∷ xs) (suc i) d e h = each_at P xs i d e.1 (le_of_suc-le-suc h)

module _ {N B : ℕ} {xs : List ℕ} (w : Few N B xs) where
  -- each of them is at most B; past the last it reads 0
  pub few_at : (i : ℕ) → get_or xs i 0 ≤ B
  few_at i = get_or_bound xs i w.each

  -- so is each by its place
  pub few_item : {x i : ℕ} → i < length xs → x ≡ get_or xs i x → x ≤ B
  few_item {x} {i} h e = let b : get_or xs i x ≤ B = each_at (λ y. y ≤ B) xs i x w.each h in omega arith

  -- a sum over them is at most N times C, where no term is above C
  pub few_sum : (C : ℕ) (f : ℕ → ℕ) → ((x : ℕ) → x ≤ B → f x ≤ C) → sum xs f ≤ N * C
  few_sum C f h = few_bound N C xs f w.few (every_turn h xs w.each)

-- a table of n numbers, none above B, with n at most N
pub few_table : {N B : ℕ} (n : ℕ) (f : ℕ → ℕ) → n ≤ N → ((u : ℕ) → f u ≤ B) → Few N B (map f (up_to n))
few_table n f l h = record { few = rw (length_table n f) l; each = every_map _ f (up_to n) (every_all _ h (up_to n)) }
