-- Laws of a list of numbers, by number from 1: one of them set anew, and two lists that agree.
-- Assumes nothing.
use Rattle.std.specs.Prelude.{ℕ, zero, suc, ◌+◌, ◌-◌, ◌<◌, ◌≡◌, refl, List, [], ◌∷◌, map, ◌≢◌, length, get_or, set}
use Rattle.std.proofs.Common.{le_of_suc-le-suc, not-suc-le-zero, arith, sym, ap, ◌∙◌, subst, length-set, get_or-set_same, get_or-set_other, ext_get_or}
use Rattle.std.proofs.Math.Decide.{ℕ_discrete}
use Rattle.lists.specs.Sums.{In, at, up_to, sum}
use Rattle.lists.specs.SumLaws.{sum-map, length_table, at_table}

module _ {n : ℕ} (l : List ℕ) (x : ℕ) {u : ℕ} (size : length l ≡ n) (i : In n u) where
  -- what is set is there
  pub at_set : at (set l (u - 1) x) u ≡ x
  at_set = get_or-set_same l (u - 1) x 0 (omega arith)

  -- every other stays
  pub at_set_other : {w : ℕ} → In n w → w ≢ u → at (set l (u - 1) x) w ≡ at l w
  at_set_other {w} j ne = get_or-set_other l (u - 1) (w - 1) x 0 (omega arith)

-- two lists that agree at every number are equal
pub ext_at : {n : ℕ} (k l : List ℕ) → length k ≡ n → length l ≡ n → ((u : ℕ) → In n u → at k u ≡ at l u) → k ≡ l
ext_at {n} k l a b same = ext_get_or 0 k l (a ∙ sym b) go
  where
    go : (i : ℕ) → i < length k → get_or k i 0 ≡ get_or l i 0
    go i h = subst (λ (m : ℕ). get_or k m 0 ≡ get_or l m 0) (omega arith) (same (suc i) (omega arith))

-- a table of which two numbers change
pub table_change : {n a b : ℕ} (f g : ℕ → ℕ) → In n a → In n b → ((u : ℕ) → In n u → u ≢ a → u ≢ b → f u ≡ g u)
    → map f (up_to n) ≡ set (set (map g (up_to n)) (a - 1) (f a)) (b - 1) (f b)
table_change {n} {a} {b} f g i j same =
    ext_at _ _ (length_table n f) (length-set once (b - 1) (f b) ∙ size) (λ u k. at_table n f u k ∙ sym (second u k (ℕ_discrete u b)))
  where
    old : List ℕ
    old = map g (up_to n)

    once : List ℕ
    once = set old (a - 1) (f a)

    size : length once ≡ n
    size = length-set old (a - 1) (f a) ∙ length_table n g

    first : (u : ℕ) → In n u → u ≢ b → Dec (u ≡ a) → at once u ≡ f u
    first u k nb (yes e) = rw e (at_set old (f a) (length_table n g) i)
    first u k nb (no na) = at_set_other old (f a) (length_table n g) i k na ∙ at_table n g u k ∙ sym (same u k na nb)

    second : (u : ℕ) → In n u → Dec (u ≡ b) → at (set once (b - 1) (f b)) u ≡ f u
    second u k (yes e) = rw e (at_set once (f b) size j)
    second u k (no nb) = at_set_other once (f b) size j k nb ∙ first u k nb (ℕ_discrete u a)

-- the number of i + 1 stands at index i
pub at_next : (xs : List ℕ) (i : ℕ) → at xs (i + 1) ≡ get_or xs i 0
at_next xs i = let e : i + 1 - 1 ≡ i = omega arith in ap (λ k. get_or xs k 0) e

-- a list of n numbers that has f c for each c of 1..n is the table of f
pub table_is : (n : ℕ) (f : ℕ → ℕ) (xs : List ℕ) → length xs ≡ n → ((c : ℕ) → In n c → at xs c ≡ f c) → xs ≡ map f (up_to n)
table_is n f xs l e = ext_at xs (map f (up_to n)) l (length_table n f) (λ c i. e c i ∙ sym (at_table n f c i))

-- a sum over a list of n numbers is a sum over 1..n
pub sum-at : (n : ℕ) (xs : List ℕ) (f : ℕ → ℕ) → length xs ≡ n → sum xs f ≡ sum (up_to n) (λ u. f (at xs u))
sum-at n xs f l = ap (λ ys. sum ys f) (table_is n (at xs) xs l (λ c i. refl)) ∙ sum-map (at xs) (up_to n) f

-- what the stored number has, and the number before, a cell has after a store
pub by_set : (P : ℕ → Type 0) (xs : List ℕ) (i j x : ℕ) → P x → P (get_or xs j 0) → P (get_or (set xs i x) j 0)
by_set P [] i j x p q = q
by_set P (y ∷ ys) zero zero x p q = p
by_set P (y ∷ ys) zero (suc j) x p q = q
by_set P (y ∷ ys) (suc i) zero x p q = q
by_set P (y ∷ ys) (suc i) (suc j) x p q = by_set P ys i j x p q

-- a number set anew in a list that is mapped
pub map-set : (f : ℕ → ℕ) (l : List ℕ) (i x : ℕ) → map f (set l i x) ≡ set (map f l) i (f x)
map-set f [] i x = refl
map-set f (y ∷ l) zero x = refl
map-set f (y ∷ l) (suc i) x = ap (λ k. f y ∷ k) (map-set f l i x)

-- ---- sums over a list of which a number is set anew

-- the new sum and the old term make the old sum and the new term
pub sum-set : (f : ℕ → ℕ) (l : List ℕ) (i x : ℕ) → i < length l → sum (set l i x) f + f (get_or l i 0) ≡ sum l f + f x
sum-set f [] i x h = absurd (not-suc-le-zero h)
sum-set f (y ∷ l) zero x h = omega arith
sum-set f (y ∷ l) (suc i) x h = omega (arith, sum-set f l i x (le_of_suc-le-suc h))

-- so too where two are
pub sum-set_2 : {n a b : ℕ} (f : ℕ → ℕ) (l : List ℕ) (x y : ℕ) → length l ≡ n → In n a → In n b → b ≢ a
    → sum (set (set l (a - 1) x) (b - 1) y) f + (f (at l a) + f (at l b)) ≡ sum l f + (f x + f y)
sum-set_2 {n} {a} {b} f l x y size i j ne =
    omega (
      arith,
      sum-set f l (a - 1) x (omega arith),
      sum-set f (set l (a - 1) x) (b - 1) y (rw (length-set l (a - 1) x) (omega arith)),
      ap f (at_set_other l x size i j ne),
    )
