-- The library's tests on bytes, and those that the block rules name.
use Rattle.std.specs.Prelude.{ℕ, ◌≡◌, refl, List, [], ◌∷◌, Bool, ◌&&◌, eqb, length, replicate}
use Rattle.std.specs.List.{list_all}
use Rattle.std.proofs.Common.{ap}
use lib.Pointwise.{pointwise}
use Rattle.packing.specs.Part.{part}
use Rattle.packing.specs.Numbers.{le}
use Rattle.blocks.specs.Block.{letters_length, kind_at, zero_at, number_at, used_at, header_length, header}
use Rattle.blocks.specs.BlockLaws.{header_headed}
use Rattle.blocks.specs.Same.{same}

-- two slices are equal where their elements are
pub pointwise_same : (xs ys : List ℕ) → pointwise eqb xs ys ≡ same xs ys
pointwise_same [] [] = refl
pointwise_same [] (y ∷ ys) = refl
pointwise_same (x ∷ xs) [] = refl
pointwise_same (x ∷ xs) (y ∷ ys) = ap (λ (b : Bool). eqb x y && b) (pointwise_same xs ys)

-- all elements are zeros
pub all_same : (xs : List ℕ) (n : ℕ) → length xs ≡ n → list_all (λ x. eqb x 0) xs ≡ same xs (replicate n 0)
all_same xs n e = rw (← e) (go xs)
  where
    go : (xs : List ℕ) → list_all (λ x. eqb x 0) xs ≡ same xs (replicate (length xs) 0)
    go [] = refl
    go (x ∷ xs) = ap (λ (b : Bool). eqb x 0 && b) (go xs)

-- the parts of a header
module _ (letters : List ℕ) (kind number used : ℕ) (four : length letters ≡ letters_length) where
  pub headed_front : part 0 kind_at (header letters kind number used) ≡ letters
  headed_front = (header_headed letters kind number used four).front

  pub headed_kind : part kind_at zero_at (header letters kind number used) ≡ kind ∷ []
  headed_kind = (header_headed letters kind number used four).fifth

  pub headed_due : part number_at used_at (header letters kind number used) ≡ le 2 number
  headed_due = (header_headed letters kind number used four).numbered

  pub headed_count : part used_at header_length (header letters kind number used) ≡ le 2 used
  headed_count = (header_headed letters kind number used four).counted
