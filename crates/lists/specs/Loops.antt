-- Sums and lists that a loop makes, one element a turn.
-- Assumes nothing.
use Rattle.std.specs.Prelude.{ℕ, suc, ◌+◌, ◌≤◌, ◌≡◌, List, ◌∷◌, map, length, set, drop}
use Rattle.std.proofs.Common.{zero-add, add-one, arith, sym, ap, ◌∙◌, append-nil, drop_of_length-le}
use Rattle.std.proofs.lemmas.List.{length-map}
use Rattle.std.proofs.Math.Seq.{drop-length}
use Rattle.std.proofs.lemmas.List.Edits.{sets, sets-eq}
use Rattle.lists.specs.Sums.{sum}

-- ---- sums

-- t is the sum of f over the elements before index i: with the sum over the rest it is the sum over all
pub record Summed {A : Type 0} (xs : List A) (f : A → ℕ) (i t : ℕ) : Type 0 where
  pub rest : t + sum (drop i xs) f ≡ sum xs f

module _ {A : Type 0} {xs : List A} {f : A → ℕ} where
  -- before the first element the sum is 0
  pub summed_start : Summed xs f 0 0
  summed_start = record { rest = omega arith }

  module _ {i t r : ℕ} {x : A} (s : Summed xs f i t) (next : drop i xs ≡ x ∷ drop (suc i) xs) (e : r ≡ f x) where
    -- the next term takes the sum to no more than the sum over all
    pub summed_room : t + r ≤ sum xs f
    summed_room = omega (arith, ap (λ ys. sum ys f) next, s.rest)

    -- the next term added: the sum of the elements before the next index
    pub summed_turn : Summed xs f (i + 1) (t + r)
    summed_turn = record { rest = rw (add-one i) (omega (arith, ap (λ ys. sum ys f) next, s.rest)) }

  -- past the last element it is the sum over all
  pub summed_end : {i t : ℕ} → Summed xs f i t → length xs ≤ i → t ≡ sum xs f
  summed_end s h = omega (arith, s.rest, ap (λ ys. sum ys f) (drop_of_length-le xs h))

-- ---- lists

-- as many values as a list has, stored from its start, are the list
sets_all : (vs out : List ℕ) → length vs ≡ length out → sets out 0 vs ≡ vs
sets_all vs out l = sets-eq vs out 0 (omega arith) ∙ rw (zero-add, l, drop-length, append-nil vs)

-- out has g of the elements before index i: with g of the rest stored from there on it has g of all
pub record Mapped {A : Type 0} (g : A → ℕ) (xs : List A) (i : ℕ) (out : List ℕ) : Type 0 where
  pub rest : sets out i (map g (drop i xs)) ≡ map g xs

module _ {A : Type 0} {g : A → ℕ} {xs : List A} {out : List ℕ} where
  -- before the first element it holds anything
  pub mapped_start : length out ≡ length xs → Mapped g xs 0 out
  mapped_start l = record { rest = sets_all (map g xs) out (length-map xs g ∙ sym l) }

  -- g of the next element stored at its index
  pub mapped_turn : {i v : ℕ} {x : A} → Mapped g xs i out → drop i xs ≡ x ∷ drop (suc i) xs → v ≡ g x → Mapped g xs (i + 1) (set out i v)
  mapped_turn {i} m next e = record { rest = rw (add-one i, e) (rw next at m.rest) }

  -- past the last element it has g of all
  pub mapped_end : {i : ℕ} → Mapped g xs i out → length xs ≤ i → out ≡ map g xs
  mapped_end {i} m h = rw (drop_of_length-le xs h) at m.rest
