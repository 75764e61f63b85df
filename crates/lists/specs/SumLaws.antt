-- Laws of sums over a list, of sums over 1..n, and of tables of n numbers.
-- Assumes nothing.
use Rattle.std.specs.Prelude.{ℕ, zero, suc, ◌+◌, ◌-◌, ◌*◌, ◌≤◌, ◌<◌, ◌≡◌, refl, List, [], ◌∷◌, ◌++◌, map, ◌≢◌, ◌↔◌, length, get_or}
use Rattle.std.proofs.Common.{le_of_suc-le-suc, not-suc-le-zero, suc-mul, mul-zero, le_trans, mul-le-mul_right, add-zero, add-suc, suc-add, arith, sym, ap, ◌∙◌}
use Rattle.std.proofs.Math.Decide.{ℕ_discrete}
use Rattle.std.proofs.lemmas.List.{length-map}
use Rattle.lists.specs.Sums.{In, at, from, up_to, sum, Every}

pub in_more : {n u : ℕ} → In n u → In (suc n) u
in_more i = record { low = i.low; high = omega (arith, i.high) }

pub in_last : (n : ℕ) → In (suc n) (suc n)
in_last n = record { low = omega arith; high = omega arith }

pub in_less : {n u : ℕ} → In (suc n) u → u ≢ suc n → In n u
in_less i ne = record { low = i.low; high = omega (arith, i.high) }

-- ---- over any list

module _ {A : Type 0} where
  pub sum_ext : (xs : List A) (f g : A → ℕ) → Every (λ x. f x ≡ g x) xs → sum xs f ≡ sum xs g
  sum_ext [] f g e = refl
  sum_ext (x ∷ xs) f g e = omega (arith, e.0, sum_ext xs f g e.1)

  pub sum-add : (xs : List A) (f g : A → ℕ) → sum xs (λ x. f x + g x) ≡ sum xs f + sum xs g
  sum-add [] f g = refl
  sum-add (x ∷ xs) f g = omega (arith, sum-add xs f g)

  pub sum-none : (xs : List A) → sum xs (λ x. 0) ≡ 0
  sum-none [] = refl
  sum-none (x ∷ xs) = omega (arith, sum-none xs)

  -- no term is above B
  sum_bound : (xs : List A) (f : A → ℕ) (B : ℕ) → Every (λ x. f x ≤ B) xs → sum xs f ≤ length xs * B
  sum_bound [] f B e = omega arith
  sum_bound (x ∷ xs) f B e = omega (arith, e.0, sum_bound xs f B e.1, suc-mul (length xs) B)

  -- at most N terms, none above B
  pub few_bound : (N B : ℕ) (xs : List A) (f : A → ℕ) → length xs ≤ N → Every (λ x. f x ≤ B) xs → sum xs f ≤ N * B
  few_bound N B xs f n e = le_trans (sum_bound xs f B e) (mul-le-mul_right B n)

  -- a sum is 0 exactly where each of its terms is
  zero-sum : (xs : List A) (f : A → ℕ) → sum xs f ≡ 0 → Every (λ x. f x ≡ 0) xs
  zero-sum [] f e = tt
  zero-sum (x ∷ xs) f e = (omega arith, zero-sum xs f (omega arith))

  pub sum-zero : (xs : List A) (f : A → ℕ) → Every (λ x. f x ≡ 0) xs → sum xs f ≡ 0
  sum-zero xs f e = sum_ext xs f (λ x. 0) e ∙ sum-none xs

  pub sum-append : (xs ys : List A) (f : A → ℕ) → sum (xs ++ ys) f ≡ sum xs f + sum ys f
  sum-append [] ys f = omega arith
  sum-append (x ∷ xs) ys f = omega (arith, sum-append xs ys f)

  pub sum-map : {B : Type 0} (g : B → A) (xs : List B) (f : A → ℕ) → sum (map g xs) f ≡ sum xs (λ x. f (g x))
  sum-map g [] f = refl
  sum-map g (x ∷ xs) f = ap (λ (n : ℕ). f (g x) + n) (sum-map g xs f)

  pub every_all : (P : A → Type 0) → ((x : A) → P x) → (xs : List A) → Every P xs
  every_all P h [] = tt
  every_all P h (x ∷ xs) = (h x, every_all P h xs)

  pub every_both : {P Q T : A → Type 0} → ((x : A) → P x → Q x → T x) → (xs : List A) → Every P xs → Every Q xs → Every T xs
  every_both h [] p q = tt
  every_both h (x ∷ xs) p q = (h x p.0 q.0, every_both h xs p.1 q.1)

  pub every_turn : {P Q : A → Type 0} → ((x : A) → P x → Q x) → (xs : List A) → Every P xs → Every Q xs
  every_turn h [] p = tt
  every_turn h (x ∷ xs) p = (h x p.0, every_turn h xs p.1)

  -- no term is above the sum
  pub each-at_most : (xs : List A) (f : A → ℕ) → Every (λ x. f x ≤ sum xs f) xs
  each-at_most [] f = tt
  each-at_most (x ∷ xs) f = (omega arith, every_turn (λ y h. omega arith) xs (each-at_most xs f))

  pub every_append : (P : A → Type 0) (xs ys : List A) → Every P xs → Every P ys → Every P (xs ++ ys)
  every_append P [] ys p q = q
  every_append P (x ∷ xs) ys p q = (p.0, every_append P xs ys p.1 q)

  pub every_map : {B : Type 0} (P : A → Type 0) (g : B → A) (xs : List B) → Every (λ x. P (g x)) xs → Every P (map g xs)
  every_map P g [] e = tt
  every_map P g (x ∷ xs) e = (e.0, every_map P g xs e.1)

  -- where each term is 0 exactly when Q holds of its place, the sum is 0 exactly when Q holds of all
  pub zero-each : (Q : A → Type 0) (xs : List A) (f : A → ℕ) → Every (λ x. f x ≡ 0 ↔ Q x) xs → sum xs f ≡ 0 ↔ Every Q xs
  zero-each Q xs f h =
      (λ e. every_both (λ x i z. i.0 z) xs h (zero-sum xs f e), λ q. sum-zero xs f (every_both (λ x i z. i.1 z) xs h q))

  -- sums whose terms are equal, in the list or not, are equal
  pub sum-all : (xs : List A) (f g : A → ℕ) → ((x : A) → f x ≡ g x) → sum xs f ≡ sum xs g
  sum-all xs f g h = sum_ext xs f g (every_all (λ x. f x ≡ g x) h xs)

  -- a sum, each of its terms taken n times
  pub mul-sum : (n : ℕ) (xs : List A) (f : A → ℕ) → n * sum xs f ≡ sum xs (λ x. n * f x)
  mul-sum n [] f = mul-zero n
  mul-sum n (x ∷ xs) f = omega (arith, mul-sum n xs f)

-- two sums, one inside the other, in either order
pub sum-swap : {A B : Type 0} (xs : List A) (ys : List B) (f : A → B → ℕ) → sum xs (λ x. sum ys (f x)) ≡ sum ys (λ y. sum xs (λ x. f x y))
sum-swap [] ys f = sym (sum-none ys)
sum-swap (x ∷ xs) ys f = ap (λ (n : ℕ). sum ys (f x) + n) (sum-swap xs ys f) ∙ sym (sum-add ys (f x) (λ y. sum xs (λ z. f z y)))

-- ---- over 1..n

pub length_from : (k n : ℕ) → length (from k n) ≡ n
length_from k zero = refl
length_from k (suc n) = ap suc (length_from (suc k) n)

pub get_or-from : (k n i : ℕ) → i < n → get_or (from k n) i 0 ≡ k + i
get_or-from k zero i h = absurd (not-suc-le-zero h)
get_or-from k (suc n) zero h = omega arith
get_or-from k (suc n) (suc i) h = get_or-from (suc k) n i (le_of_suc-le-suc h) ∙ omega arith

pub at-up_to : (n u : ℕ) → In n u → at (up_to n) u ≡ u
at-up_to n u h = get_or-from 1 n (u - 1) (omega arith) ∙ omega arith

-- what holds of each of k, k + 1, .. holds along the list
pub every_from : (P : ℕ → Type 0) (k n : ℕ) → ((u : ℕ) → k ≤ u → u < k + n → P u) → Every P (from k n)
every_from P k zero h = tt
every_from P k (suc n) h = (h k (omega arith) (omega arith), every_from P (suc k) n (λ u lo hi. h u (omega arith) (omega arith)))

pub every_up_to : (P : ℕ → Type 0) (n : ℕ) → ((u : ℕ) → In n u → P u) → Every P (up_to n)
every_up_to P n h = every_from P 1 n (λ u lo hi. h u (record { low = lo; high = omega arith }))

-- and the other way
pub from_every : (P : ℕ → Type 0) (k n : ℕ) → Every P (from k n) → (i : ℕ) → i < n → P (k + i)
from_every P k zero e i h = absurd (not-suc-le-zero h)
from_every P k (suc n) e zero h = rw (add-zero k) e.0
from_every P k (suc n) e (suc i) h = rw (add-suc k i, ← suc-add k i) (from_every P (suc k) n e.1 i (le_of_suc-le-suc h))

pub sum_same : (n : ℕ) (f g : ℕ → ℕ) → ((u : ℕ) → In n u → f u ≡ g u) → sum (up_to n) f ≡ sum (up_to n) g
sum_same n f g h = sum_ext (up_to n) f g (every_up_to (λ u. f u ≡ g u) n h)

from_last : (k n : ℕ) (f : ℕ → ℕ) → sum (from k (suc n)) f ≡ sum (from k n) f + f (k + n)
from_last k zero f = omega (arith, ap f (add-zero k))
from_last k (suc n) f = omega (arith, from_last (suc k) n f, ap f (add-suc k n ∙ sym (suc-add k n)))

-- the last term
pub sum-last : (n : ℕ) (f : ℕ → ℕ) → sum (up_to (suc n)) f ≡ sum (up_to n) f + f (suc n)
sum-last n f = from_last 1 n f ∙ omega (arith, ap f (let e : 1 + n ≡ suc n = omega arith in e))

-- one term changed: the new sum and the old term make the old sum and the new term
pub sum-change : (n m : ℕ) (f g : ℕ → ℕ) → In n m → ((u : ℕ) → In n u → u ≢ m → f u ≡ g u) → sum (up_to n) f + g m ≡ sum (up_to n) g + f m
sum-change zero m f g i h = absurd (omega (arith, i.low, i.high))
sum-change (suc n) m f g i h = go (ℕ_discrete m (suc n)) (λ k. sum-change n m f g k (λ u j ne. h u (in_more j) ne))
  where
    go : Dec (m ≡ suc n) → (In n m → sum (up_to n) f + g m ≡ sum (up_to n) g + f m) → sum (up_to (suc n)) f + g m ≡ sum (up_to (suc n)) g + f m
    go (yes e) r =
        omega (arith, sum-last n f, sum-last n g, ap f e, ap g e, sum_same n f g (λ u j. h u (in_more j) (λ z. omega (arith, j.high))))
    go (no ne) r = omega (arith, sum-last n f, sum-last n g, h (suc n) (in_last n) (λ z. ne (sym z)), r (in_less i ne))

-- all terms but one are 0
pub sum_one : (n m : ℕ) (f : ℕ → ℕ) → In n m → ((u : ℕ) → In n u → u ≢ m → f u ≡ 0) → sum (up_to n) f ≡ f m
sum_one n m f i h = omega (arith, sum-change n m f (λ u. 0) i h, sum-none (up_to n))

-- an entry of a list of numbers that are at most B, or 0 past its end
pub get_or_bound : {B : ℕ} (xs : List ℕ) (i : ℕ) → Every (λ x. x ≤ B) xs → get_or xs i 0 ≤ B
get_or_bound [] i e = omega arith
get_or_bound (x ∷ xs) zero e = e.0
get_or_bound (x ∷ xs) (suc i) e = get_or_bound xs i e.1

-- ---- tables: f 1, f 2, .., f n

pub length_table : (n : ℕ) (f : ℕ → ℕ) → length (map f (up_to n)) ≡ n
length_table n f = length-map (up_to n) f ∙ length_from 1 n

get_d_map : (f : ℕ → ℕ) (l : List ℕ) (i : ℕ) → i < length l → get_or (map f l) i 0 ≡ f (get_or l i 0)
get_d_map f [] i h = absurd (not-suc-le-zero h)
get_d_map f (x ∷ xs) zero h = refl
get_d_map f (x ∷ xs) (suc i) h = get_d_map f xs i (le_of_suc-le-suc h)

pub at_map : (f : ℕ → ℕ) (l : List ℕ) (u : ℕ) → In (length l) u → at (map f l) u ≡ f (at l u)
at_map f l u h = get_d_map f l (u - 1) (omega arith)

pub at_table : (n : ℕ) (f : ℕ → ℕ) (u : ℕ) → In n u → at (map f (up_to n)) u ≡ f u
at_table n f u h = at_map f (up_to n) u (rw (length_from 1 n) h) ∙ ap f (at-up_to n u h)
