-- Of a list that is not too long the array holds all numbers, and of one that is, too many.
-- Assumes nothing.
use Rattle.std.specs.Prelude.{ℕ, suc, ◌+◌, ◌*◌, ◌≤◌, ◌<◌, min, ◌≡◌, refl, Bool, true, false, cond, List, [], ◌∷◌, ltb, leb, length, get_or, set, drop}
use Rattle.std.proofs.Common.{zero-add, add-one, arith, sym, ap, ◌∙◌, lt-ltb, leb-true, leb-false, length-set, length-take, drop_of_length-le, drop-cons}
use Rattle.std.proofs.Math.Numerals.{towards_suc}
use Rattle.std.proofs.lemmas.List.Edits.{sets, sets-eq}
use Rattle.std.proofs.Math.Seq.{take-append_seam}
use Rattle.meaning.specs.Plan.{constraint_length}
use Rattle.records.specs.declared.Constraint.{Constraint}
use Rattle.records.specs.Numbers.{numbers_of}
use Rattle.records.specs.NumberLaws.{length-numbers}
use Rattle.records.specs.TooMany.{TooMany}
use Rattle.records.specs.Copied.{most_copied, no_numbers, put_record, put_from, array_of, front, blank}

-- ---- a record more

-- four stores put a record in its place
pub put_four : (numbers : List ℕ) (k : ℕ) (c : Constraint) → k < most_copied
    → set (set (set (set numbers (constraint_length * k) c.kind) (constraint_length * k + 1) c.relation) (constraint_length * k + 2) c.limit) (constraint_length * k + 3) c.weight ≡ put_record numbers k c
unfolding numbers_of put_record
put_four numbers k c h = rw (lt-ltb k most_copied h) (simp towards_suc refl)

-- what is left from record k on
drop_record : (cs : List Constraint) (k : ℕ) → k < length cs → drop k cs ≡ get_or cs k blank ∷ drop (k + 1) cs
drop_record cs k h = rw (add-one, drop-cons cs k blank h)

-- where record k is put, what is left gives the whole
pub put_next : (cs : List Constraint) (k : ℕ) (numbers all : List ℕ) → k < length cs → put_from k numbers (drop k cs) ≡ all → put_from (k + 1) (put_record numbers k (get_or cs k blank)) (drop (k + 1) cs) ≡ all
unfolding put_from
put_next cs k numbers all h e = sym (ap (put_from k numbers) (drop_record cs k h)) ∙ e

-- where no record is left, the array is the whole
pub put_end : (cs : List Constraint) (k : ℕ) (numbers all : List ℕ) → length cs ≤ k → put_from k numbers (drop k cs) ≡ all → numbers ≡ all
unfolding put_from
put_end cs k numbers all h e = sym (ap (put_from k numbers) (drop_of_length-le cs {i = k} h)) ∙ e

-- ---- all records

length_record : (numbers : List ℕ) (k : ℕ) (c : Constraint) → length (put_record numbers k c) ≡ length numbers
unfolding numbers_of put_record
length_record numbers k c = go (ltb k most_copied)
  where
    go : (b : Bool) → length (cond b (sets numbers (constraint_length * k) (c.kind ∷ c.relation ∷ c.limit ∷ c.weight ∷ [])) numbers) ≡ length numbers
    go true = simp length-set refl
    go false = refl

length_from : (cs : List Constraint) (k : ℕ) (numbers : List ℕ) → length (put_from k numbers cs) ≡ length numbers
unfolding put_from
length_from [] k numbers = refl
length_from (c ∷ cs) k numbers = length_from cs (k + 1) (put_record numbers k c) ∙ length_record numbers k c

-- records that have room are put down one after the other
from_sets : (cs : List Constraint) (k : ℕ) (numbers : List ℕ) → k + length cs ≤ most_copied → put_from k numbers cs ≡ sets numbers (constraint_length * k) (numbers_of cs)
unfolding numbers_of put_record put_from
from_sets [] k numbers h = refl
from_sets (c ∷ cs) k numbers h =
    let e : constraint_length * (k + 1) ≡ suc (suc (suc (suc (constraint_length * k)))) = omega arith in
    rw (from_sets cs (k + 1) (put_record numbers k c) (omega arith), e, lt-ltb k most_copied (omega arith))

-- a list that has room stands at the front of its array
front-all : (cs : List Constraint) → length cs ≤ most_copied → front (length cs) (array_of cs) ≡ numbers_of cs
front-all cs h =
    let n = length-numbers cs in
    let m : constraint_length * min (length cs) most_copied ≡ length (numbers_of cs) = omega (arith, n) in
    rw (m, from_sets cs 0 no_numbers (omega arith), sets-eq (numbers_of cs) no_numbers 0 (omega (arith, n)), zero-add (length (numbers_of cs)))
    (take-append_seam (numbers_of cs) (drop (length (numbers_of cs)) no_numbers))

-- ---- what is read of an array

-- what is the same for all lists of too many numbers is the same for the front of the array and for all numbers
pub front_same : {A : Type 0} (f : List ℕ → A) → ((xs ys : List ℕ) → TooMany xs → TooMany ys → f xs ≡ f ys) → (cs : List Constraint) → f (front (length cs) (array_of cs)) ≡ f (numbers_of cs)
front_same f same cs = go (leb (length cs) most_copied) refl
  where
    go : (b : Bool) → leb (length cs) most_copied ≡ b → f (front (length cs) (array_of cs)) ≡ f (numbers_of cs)
    go true e = ap f (front-all cs (leb-true (length cs) most_copied e))
    go false e =
        let h : most_copied < length cs = leb-false (length cs) most_copied e in
        let n = length-numbers cs in
        let a : length (array_of cs) ≡ constraint_length * most_copied = length_from cs 0 no_numbers in
        same _ (numbers_of cs) (simp (length-take, a) (omega (arith, h))) (omega (arith, n, h))
