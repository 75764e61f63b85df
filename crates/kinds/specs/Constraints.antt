-- The constraints of a flat list, one by one, and few of them within their limits.
-- Assumes nothing.
use Rattle.std.specs.Prelude.{ℕ, suc, ◌+◌, ◌-◌, ◌*◌, ◌/◌, ◌≤◌, ◌<◌, ◌≡◌, List, [], ◌∷◌, length, get_or, take, drop}
use Rattle.std.proofs.Common.{add-zero, arith, sym, ap, ◌∙◌, length-take-le, length-drop, get_or-take, get_or-drop, ext_get_or}
use Rattle.lists.specs.Sums.{Every}
use Rattle.lists.specs.ListLaws.{length-list_of, drop-list_of, list_of_every, get_or-list_of}
use Rattle.meaning.specs.Plan.{Constraint, constraint_length, constraint_at, constraints_of, most_constraints, ConstraintLimits}

-- the flat list holds few constraints, each within its limits
pub record Paying (constraints : List ℕ) : Type 0 where
  pub few : length (constraints_of constraints) ≤ most_constraints
  pub constraint : Every ConstraintLimits (constraints_of constraints)

-- how many there are
pub length_constraints : (xs : List ℕ) → length (constraints_of xs) ≡ length xs / constraint_length
unfolding constraints_of
length_constraints xs = length-list_of (length xs / constraint_length) (constraint_at xs)

module _ (xs : List ℕ) {k : ℕ} (below : k < length xs / constraint_length) where
  -- what each has, the one at index k has
  pub constraint_every : (P : Constraint → Type 0) → Every P (constraints_of xs) → P (constraint_at xs k)
  unfolding constraints_of
  constraint_every P e = list_of_every P (length xs / constraint_length) (constraint_at xs) e k below

  -- the one at index k
  pub constraint_at_lem : (d : Constraint) → get_or (constraints_of xs) k d ≡ constraint_at xs k
  unfolding constraints_of
  constraint_at_lem d = get_or-list_of (length xs / constraint_length) (constraint_at xs) d k below

  -- from index k on: that one, and those after it
  pub constraint_next : drop k (constraints_of xs) ≡ constraint_at xs k ∷ drop (suc k) (constraints_of xs)
  unfolding constraints_of
  constraint_next = drop-list_of (length xs / constraint_length) (constraint_at xs) k below

-- where the numbers of two lists agree from two indices on, the constraints there are the same
pub constraint_same : (xs ys : List ℕ) (m n : ℕ) → ((j : ℕ) → j < constraint_length → get_or xs (constraint_length * m + j) 0 ≡ get_or ys (constraint_length * n + j) 0)
    → constraint_at xs m ≡ constraint_at ys n
constraint_same xs ys m n same =
    rw (simp add-zero at (same 0 (omega arith)), same 1 (omega arith), same 2 (omega arith), same 3 (omega arith))

-- the first m stand in the front of the flat list
pub constraints_take : (m : ℕ) (xs : List ℕ) → constraint_length * m ≤ length xs → constraints_of (take (constraint_length * m) xs) ≡ take m (constraints_of xs)
constraints_take m xs h =
    ext_get_or (constraint_at xs 0) _ _ (size ∙ sym (length-take-le m (constraints_of xs) (omega (arith, length_constraints xs)))) each
  where
    front : List ℕ
    front = take (constraint_length * m) xs

    size : length (constraints_of front) ≡ m
    size = omega (arith, length_constraints front, length-take-le (constraint_length * m) xs h)

    each : (i : ℕ) → i < length (constraints_of front) → get_or (constraints_of front) i (constraint_at xs 0) ≡ get_or (take m (constraints_of xs)) i (constraint_at xs 0)
    each i l =
        constraint_at_lem front (omega (arith, length_constraints front)) _
        ∙ constraint_same front xs i i (λ j b. get_or-take (constraint_length * m) xs _ 0 (omega (arith, size)))
        ∙ sym (get_or-take m (constraints_of xs) i _ (omega (arith, size)) ∙ constraint_at_lem xs (omega (arith, size)) _)

-- those past the first m stand past their numbers in the flat list
pub constraints_drop : (m : ℕ) (xs : List ℕ) → constraints_of (drop (constraint_length * m) xs) ≡ drop m (constraints_of xs)
constraints_drop m xs = ext_get_or (constraint_at xs 0) _ _ (size ∙ sym (length-drop m (constraints_of xs))) each
  where
    past : List ℕ
    past = drop (constraint_length * m) xs

    size : length (constraints_of past) ≡ length (constraints_of xs) - m
    size = omega (arith, length_constraints past, length_constraints xs, length-drop (constraint_length * m) xs)

    each : (i : ℕ) → i < length (constraints_of past) → get_or (constraints_of past) i (constraint_at xs 0) ≡ get_or (drop m (constraints_of xs)) i (constraint_at xs 0)
    each i l =
        let e : (j : ℕ) → constraint_length * m + (constraint_length * i + j) ≡ constraint_length * (m + i) + j = λ j. omega arith in
        constraint_at_lem past (omega (arith, length_constraints past)) _
        ∙ constraint_same past xs i (m + i) (λ j b. get_or-drop (constraint_length * m) xs (constraint_length * i + j) 0 ∙ ap (λ n. get_or xs n 0) (e j))
        ∙ sym (get_or-drop m (constraints_of xs) i _ ∙ constraint_at_lem xs (omega (arith, size, length_constraints xs)) _)

-- too few numbers hold none
pub constraints_none : (xs : List ℕ) → length xs < constraint_length → constraints_of xs ≡ []
unfolding constraints_of
constraints_none xs h = let e : length xs / constraint_length ≡ 0 = omega arith in rw e

-- else the first four are the first
pub constraints_first : (xs : List ℕ) → constraint_length ≤ length xs → constraints_of xs ≡ constraint_at xs 0 ∷ constraints_of (drop constraint_length xs)
constraints_first xs h = constraint_next xs {k = 0} (omega arith) ∙ ap (λ ks. constraint_at xs 0 ∷ ks) (sym (constraints_drop 1 xs))
