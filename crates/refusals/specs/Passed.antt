-- What a table refuses, row by row, and what one that refuses nothing says of its rows.
-- Assumes nothing.
use Prim.Native.Nat.{ℕ, zero, suc, ◌+◌, ◌/◌, ◌%◌, ◌≤◌, ◌<◌}
use Rattle.std.proofs.Common.{zero-add, arith, ap, true≢false, eqb-true, leb→le, eqb→eq}
use Rattle.std.specs.Prelude.{◌≡◌, Bool, not, ◌&&◌, List, [], ◌∷◌, ◌++◌, eqb, leb, length}
use Rattle.std.proofs.Math.Path.{refl}
use Rattle.std.proofs.Math.Bool.{true, false, cond}
use Rattle.std.proofs.lemmas.Bool.{not-false}
use Rattle.std.proofs.Math.Dec.{T}
use Rattle.lists.specs.Sums.{In, from, Every}
use Rattle.lists.specs.SumLaws.{every_from, from_every}
use Rattle.terms.specs.Plan.{within}
use Rattle.scans.specs.Items.{off_from, first_off, records}
use Rattle.refusals.specs.declared.Refusal.{Refusal}
use Rattle.refusals.specs.Table.{Row, refused, none, refusal}
use Rattle.refusals.specs.Turn.{coded, coded_first, coded_rest}

-- no row is given
abbrev pub Passed : List Row → Type 0
Passed rows = Every (λ r. r.given ≡ false) rows

passed_first : (r : Row) (rs : List Row) (b : Bool) → r.given ≡ b → (r.code ≡ 0 → ⊥) → (refusal (r ∷ rs)).code ≡ 0 → (r.given ≡ false) × ((refusal rs).code ≡ 0)
unfolding refusal
passed_first r rs true e h z = absurd (h (rw e at z))
passed_first r rs false e h z = (e, rw e at z)

-- where the code is 0, no row is given
pub passed : (rows : List Row) → T (coded rows) → (refusal rows).code ≡ 0 → Passed rows
passed [] t z = tt
passed (r ∷ rs) t z =
    let p = passed_first r rs r.given refl (coded_first r rs t) z in
    (p.0, passed rs (coded_rest r rs t) p.1)

-- where no row is given, nothing is refused
pub passed_none : (rows : List Row) → Passed rows → refusal rows ≡ none
unfolding refusal
passed_none [] p = refl
passed_none (r ∷ rs) p = rw p.0 (passed_none rs p.1)

-- of a table that goes on, neither the first rows nor the last are given
pub passed_more : (rows more : List Row) → Passed (rows ++ more) → Passed rows × Passed more
passed_more [] more p = (tt, p)
passed_more (r ∷ rs) more p = let q = passed_more rs more p.1 in ((p.0, q.0), q.1)

-- ---- what a table refuses, row by row

module _ (r : Row) (rs : List Row) where
  -- a first row that is given settles it
  pub first_given : r.given ≡ true → refused r.code r.place ≡ refusal (r ∷ rs)
  unfolding refusal
  first_given e = rw e

  -- one that is not leaves it to the others
  pub first_passed : r.given ≡ false → refusal rs ≡ refusal (r ∷ rs)
  unfolding refusal
  first_passed e = rw e

front_first : (r : Row) (rs more : List Row) (b : Bool) → r.given ≡ b → (((refusal rs).code ≡ 0 → ⊥) → refusal rs ≡ refusal (rs ++ more)) → ((refusal (r ∷ rs)).code ≡ 0 → ⊥) → refusal (r ∷ rs) ≡ refusal (r ∷ rs ++ more)
unfolding refusal
front_first r rs more true e h n = rw e
front_first r rs more false e h n = rw e (h (rw e at n))

-- what the first rows refuse, all do
pub front-given : (rows more : List Row) → ((refusal rows).code ≡ 0 → ⊥) → refusal rows ≡ refusal (rows ++ more)
unfolding refusal
front-given [] more n = absurd (n refl)
front-given (r ∷ rs) more n = front_first r rs more r.given refl (front-given rs more) n

-- what no first row refuses is left to the others
pub front_passed : (rows more : List Row) → Passed rows → refusal more ≡ refusal (rows ++ more)
front_passed [] more p = refl
front_passed (r ∷ rs) more p = rw (← first_passed r (rs ++ more) p.0) (front_passed rs more p.1)

-- where what comes after the same first rows refuses the same, the tables do
pub rest_same : (rows xs ys : List Row) → refusal xs ≡ refusal ys → refusal (rows ++ xs) ≡ refusal (rows ++ ys)
unfolding refusal
rest_same [] xs ys e = e
rest_same (r ∷ rs) xs ys e = ap (cond r.given (refused r.code r.place)) (rest_same rs xs ys e)

-- what holds of none, and of what each row that is given refuses, holds of what the table does
pub refusal-each : (rows : List Row) (Q : Refusal → Type 0) → Q none → Every (λ r. r.given ≡ true → Q (refused r.code r.place)) rows → Q (refusal rows)
unfolding refusal
refusal-each [] Q q e = q
refusal-each (r ∷ rs) Q q e = go r.given refl (refusal-each rs Q q e.1)
  where
    go : (b : Bool) → r.given ≡ b → Q (refusal rs) → Q (cond b (refused r.code r.place) (refusal rs))
    go true t rest = e.0 t
    go false t rest = rest

-- ---- a test that passes

-- both parts of it pass
pub both : (a b : Bool) → T (a && b) → T a × T b
both true true t = (tt, tt)
both false b t = elim t [ ]
both true false t = elim t [ ]

-- all five parts of it pass
pub all_five : (a b c d e : Bool) → T (a && b && c && d && e) → T a × (T b × (T c × (T d × T e)))
all_five true true true true true t = (tt, (tt, (tt, (tt, tt))))
all_five false b c d e t = elim t [ ]
all_five true false c d e t = elim t [ ]
all_five true true false d e t = elim t [ ]
all_five true true true false e t = elim t [ ]
all_five true true true true false t = elim t [ ]

within-limits : (low x high : ℕ) → T (within low x high) → (low ≤ x) × (x ≤ high)
within-limits low x high t = let p = both (leb low x) (leb x high) t in (leb→le low x p.0, leb→le x high p.1)

-- the number is one of 1..n
pub in_limits : (n x : ℕ) → T (within 1 x n) → In n x
in_limits n x t = let p = within-limits 1 x n t in record { low = p.0; high = p.1 }

-- ---- a row on a whole that is not given

whole_right : (right : Bool) → not right ≡ false → T right
whole_right true e = tt
whole_right false e = absurd (true≢false e)

-- the number is one of 1..n
pub passed_in : (n x : ℕ) → not (within 1 x n) ≡ false → In n x
passed_in n x e = in_limits n x (whole_right (within 1 x n) e)

-- the numbers are equal
pub passed_equal : (x y : ℕ) → not (eqb x y) ≡ false → x ≡ y
passed_equal x y e = eqb→eq x y (whole_right (eqb x y) e)

-- the first number is at most the second
pub passed_most : (x y : ℕ) → not (leb x y) ≡ false → x ≤ y
passed_most x y e = leb→le x y (whole_right (leb x y) e)

-- the list is in whole records, low..high of them
pub passed_records : (width low high : ℕ) (xs : List ℕ) → not (records width low high xs) ≡ false → (length xs % width ≡ 0) × ((low ≤ length xs / width) × (length xs / width ≤ high))
passed_records width low high xs e =
    let p = both (eqb (length xs % width) 0) (within low (length xs / width) high) (whole_right (records width low high xs) e) in
    (eqb→eq _ _ p.0, within-limits low (length xs / width) high p.1)

-- ---- a row on each item

-- tests that agree have one first place where they fail
pub off_same : (k n : ℕ) (s t : ℕ → Bool) → ((j : ℕ) → s j ≡ t j) → off_from k n s ≡ off_from k n t
unfolding off_from
off_same k zero s t h = refl
off_same k (suc n) s t h = rw (h k, off_same (suc k) n s t h)

off_most : (right : ℕ → Bool) (k n : ℕ) → off_from k n right ≤ k + n
unfolding off_from
off_most right k zero = omega arith
off_most right k (suc n) = go (right k) (off_most right (suc k) n)
  where
    go : (b : Bool) → off_from (suc k) n right ≤ suc k + n → cond b (off_from (suc k) n right) (suc k) ≤ k + suc n
    go true h = omega arith
    go false h = omega arith

-- the first place where a test fails is that of an item
pub first_off_most : (n : ℕ) (right : ℕ → Bool) → first_off n right ≤ n
first_off_most n right = omega (arith, off_most right 0 n)

-- ---- a row on each item that is not given

module _ (right : ℕ → Bool) where
  off_first : (b : Bool) (k n : ℕ) → right k ≡ b → off_from k (suc n) right ≡ 0 → T (right k) × (off_from (suc k) n right ≡ 0)
  unfolding off_from
  off_first true k n e z = (rw e tt, rw e at z)
  off_first false k n e z = let h : suc k ≡ 0 = rw e at z in absurd (omega arith)

  off_none : (k n : ℕ) → off_from k n right ≡ 0 → Every (λ j. T (right j)) (from k n)
  off_none k zero z = tt
  off_none k (suc n) z = let p = off_first (right k) k n refl z in (p.0, off_none (suc k) n p.1)

  -- each item is right
  pub passed_each : (n : ℕ) → not (eqb (first_off n right) 0) ≡ false → (k : ℕ) → k < n → T (right k)
  passed_each n e k h =
      rw (← zero-add k) (from_every (λ j. T (right j)) 0 n (off_none 0 n (eqb-true (first_off n right) 0 (not-false _ e))) k h)

  off_right : (k n : ℕ) → Every (λ j. T (right j)) (from k n) → off_from k n right ≡ 0
  unfolding off_from
  off_right k zero e = refl
  off_right k (suc n) e = go (right k) e.0 (off_right (suc k) n e.1)
    where
      go : (b : Bool) → T b → off_from (suc k) n right ≡ 0 → cond b (off_from (suc k) n right) (suc k) ≡ 0
      go true t z = z
      go false t z = elim t [ ]

  -- where each item is right, the row is not given
  pub each_passed : (n : ℕ) → ((k : ℕ) → k < n → T (right k)) → not (eqb (first_off n right) 0) ≡ false
  each_passed n h = rw (off_right 0 n (every_from (λ j. T (right j)) 0 n (λ k lo hi. h k (omega arith))))
