-- Laws of a list that a function of 0, 1, 2, .. gives, and of one that is stored in parts.
-- Assumes nothing.
use Rattle.std.specs.Prelude.{ℕ, zero, suc, ◌+◌, ◌<◌, ◌≡◌, refl, List, [], ◌∷◌, ◌++◌, map, length, get_or, set, drop}
use Rattle.std.proofs.Common.{le_of_suc-le-suc, not-suc-le-zero, zero-add, add-zero, add-suc, suc-add, arith, sym, ap, ◌∙◌, get_or-drop}
use Rattle.std.proofs.lemmas.List.{length-map}
use Rattle.std.proofs.lemmas.List.Edits.{sets}
use Rattle.lists.specs.Sums.{In, from, up_to, list_of, Every}
use Rattle.lists.specs.SumLaws.{length_from, from_every, every_from, every_up_to, every_map}

drop-from : (k n j : ℕ) → j < n → drop j (from k n) ≡ (k + j) ∷ drop (suc j) (from k n)
drop-from k zero j h = absurd (not-suc-le-zero h)
drop-from k (suc n) zero h = rw (add-zero k)
drop-from k (suc n) (suc j) h = drop-from (suc k) n j (le_of_suc-le-suc h) ∙ rw (suc-add k j, add-suc k j)

-- functions that agree along a list map it alike
pub map_ext : {A B : Type 0} (xs : List A) (f g : A → B) → Every (λ x. f x ≡ g x) xs → map f xs ≡ map g xs
map_ext [] f g e = refl
map_ext (x ∷ xs) f g e = rw (e.0, map_ext xs f g e.1)

-- functions that agree on 1..n make the same table
pub table_same : (n : ℕ) (f g : ℕ → ℕ) → ((u : ℕ) → In n u → f u ≡ g u) → map f (up_to n) ≡ map g (up_to n)
table_same n f g h = map_ext (up_to n) f g (every_up_to (λ u. f u ≡ g u) n h)

-- from index k on: k, and what follows it
pub drop-places : (n k : ℕ) → k < n → drop k (from 0 n) ≡ k ∷ drop (suc k) (from 0 n)
drop-places n k h = drop-from 0 n k h ∙ rw (zero-add k)

-- from index k of 1, 2, .., n on: k + 1, and what follows it
pub drop-up_to : (n k : ℕ) → k < n → drop k (up_to n) ≡ (k + 1) ∷ drop (suc k) (up_to n)
drop-up_to n k h = let e : 1 + k ≡ k + 1 = omega arith in drop-from 1 n k h ∙ rw e

module _ {A : Type 0} where
  -- a list stored in two parts, one after the other
  pub sets_append : (l : List A) (n : ℕ) (xs ys : List A) → sets l n (xs ++ ys) ≡ sets (sets l n xs) (n + length xs) ys
  sets_append l n [] ys = rw (add-zero n)
  sets_append l n (x ∷ xs) ys = sets_append (set l n x) (suc n) xs ys ∙ rw (suc-add n (length xs), add-suc n (length xs))

  drop-map : (f : ℕ → A) (j : ℕ) (xs : List ℕ) → drop j (map f xs) ≡ map f (drop j xs)
  drop-map f zero xs = refl
  drop-map f (suc j) [] = refl
  drop-map f (suc j) (x ∷ xs) = drop-map f j xs

  pub length-list_of : (n : ℕ) (f : ℕ → A) → length (list_of n f) ≡ n
  length-list_of n f = length-map (from 0 n) f ∙ length_from 0 n

  -- from index j on: the element there, and what follows it
  pub drop-list_of : (n : ℕ) (f : ℕ → A) (j : ℕ) → j < n → drop j (list_of n f) ≡ f j ∷ drop (suc j) (list_of n f)
  drop-list_of n f j h =
      drop-map f j (from 0 n)
      ∙ ap (map f) (drop-from 0 n j h)
      ∙ ap (λ (i : ℕ). f i ∷ map f (drop (suc j) (from 0 n))) (zero-add j)
      ∙ ap (λ (l : List A). f j ∷ l) (sym (drop-map f (suc j) (from 0 n)))

  pub every_list_of : (P : A → Type 0) (n : ℕ) (f : ℕ → A) → ((k : ℕ) → k < n → P (f k)) → Every P (list_of n f)
  every_list_of P n f h = every_map P f (from 0 n) (every_from (λ k. P (f k)) 0 n (λ u lo hi. h u (omega arith)))

  -- what every element of a mapped list has, the function gives at every element of the list
  map_every : {B : Type 0} (P : A → Type 0) (g : B → A) (xs : List B) → Every P (map g xs) → Every (λ x. P (g x)) xs
  map_every P g [] e = tt
  map_every P g (x ∷ xs) e = (e.0, map_every P g xs e.1)

  -- what every element has, the function gives at each k below n
  pub list_of_every : (P : A → Type 0) (n : ℕ) (f : ℕ → A) → Every P (list_of n f) → (k : ℕ) → k < n → P (f k)
  list_of_every P n f e k h = rw zero-add at (from_every (λ j. P (f j)) 0 n (map_every P f (from 0 n) e) k h)

  -- the element at index k is f k
  pub get_or-list_of : (n : ℕ) (f : ℕ → A) (d : A) (k : ℕ) → k < n → get_or (list_of n f) k d ≡ f k
  get_or-list_of n f d k h =
      sym (rw add-zero at (get_or-drop k (list_of n f) 0 d)) ∙ ap (λ l. get_or l 0 d) (drop-list_of n f k h)
