-- An array of zeros, and the front of a list that was lent and came back.
-- Assumes nothing.
use Rattle.std.specs.Prelude.{ℕ, ◌≤◌, ◌≡◌, List, ◌++◌, length, take, drop, replicate}
use Rattle.std.proofs.Common.{ap, ◌∙◌, length-take-le, take_at}
use Rattle.std.proofs.lemmas.List.{length-replicate}
use Rattle.std.proofs.Math.Seq.{length_front}

-- an array of N zeros
abbrev pub zeros : ℕ → List ℕ
zeros N = replicate N 0

-- it has N numbers
length-zeros : (N : ℕ) → length (zeros N) ≡ N
length-zeros N = length-replicate {A = ℕ} N 0

-- and room for as many as are asked for
pub zeros_room : (N : ℕ) {n : ℕ} → n ≤ N → n ≤ length (zeros N)
zeros_room N h = rw (length-zeros N) h

-- where the front of a list was lent and came back as f
module _ (n : ℕ) (xs : List ℕ) (h : n ≤ length xs) (f : List ℕ) (k : length f ≡ length (take n xs)) where
  -- it has room for the front still
  pub back_room : n ≤ length (f ++ drop n xs)
  back_room = rw (length_front xs f n k) h

  -- its front is f
  pub take_back : take n (f ++ drop n xs) ≡ f
  take_back = take_at f (drop n xs) n (k ∙ length-take-le n xs h)

  -- and as long as was asked for
  pub back_length : length (take n (f ++ drop n xs)) ≡ n
  back_length = ap length take_back ∙ k ∙ length-take-le n xs h
