-- The index at which `position` finds the first item that is not right is one less than its place.
-- Assumes nothing.
use Rattle.std.specs.Prelude.{ℕ, suc, ◌+◌, ◌<◌, ◌≡◌, Bool, true, false, cond, not, Option, Some, List, [], ◌∷◌, length, get_or, position}
use Rattle.std.specs.List.{position_from, range_with_len}
use Rattle.std.proofs.Common.{arith, refl, ap, ◌∙◌, add-one, add-zero, zero-add}
use Rattle.std.proofs.lemmas.Iterator.Adapters.{position_from-zero}
use Rattle.std.proofs.lemmas.List.FromFn.{length-range_with_len, get_or-range_with_len}
use Rattle.scans.specs.Items.{off_from, first_off, place_of}

twice : (b : Bool) → b ≡ not (not b)
twice true = refl
twice false = refl

place_from : (right wrong : ℕ → Bool) (k : ℕ) (xs : List ℕ) → ((j : ℕ) → j < length xs → right (k + j) ≡ not (wrong (get_or xs j 0))) → place_of (position_from wrong k xs) ≡ off_from k (length xs) right
unfolding off_from
place_from right wrong k [] h = refl
place_from right wrong k (x ∷ xs) h = go (wrong x) (simp add-zero at (h 0 (omega arith))) (place_from right wrong (k + 1) xs (λ j l. rw (suc_over k j) (h (suc j) (omega arith))))
  where
    suc_over : (k j : ℕ) → k + 1 + j ≡ k + suc j
    suc_over k j = omega arith

    go : (b : Bool) → right k ≡ not b → place_of (position_from wrong (k + 1) xs) ≡ off_from (k + 1) (length xs) right → place_of (cond b (Some k) (position_from wrong (k + 1) xs)) ≡ cond (right k) (off_from (suc k) (length xs) right) (suc k)
    go true e rest = rw (e, add-one)
    go false e rest = rw (e, ← add-one k) rest

-- in a list of numbers
pub place_of_number : (right : ℕ → Bool) (xs : List ℕ) → {r : Option ℕ} → r ≡ position (λ x. not (right x)) xs → place_of r ≡ first_off (length xs) (λ k. right (get_or xs k 0))
place_of_number right xs q =
    ap place_of (q ∙ position_from-zero (λ x. not (right x)) xs)
    ∙ place_from (λ k. right (get_or xs k 0)) (λ x. not (right x)) 0 xs (λ j l. rw zero-add (twice (right (get_or xs j 0))))

-- in a range
pub place_in_range : (right : ℕ → Bool) (n : ℕ) → {r : Option ℕ} → r ≡ position (λ k. not (right k)) (range_with_len 0 n) → place_of r ≡ first_off n right
place_in_range right n q =
    ap place_of (q ∙ position_from-zero (λ k. not (right k)) (range_with_len 0 n))
    ∙ place_from right (λ k. not (right k)) 0 (range_with_len 0 n) (λ j l. rw (get_or-range_with_len 0 n j 0 (rw length-range_with_len at l)) (twice (right (0 + j))))
    ∙ ap (λ (m : ℕ). first_off m right) (length-range_with_len 0 n)
