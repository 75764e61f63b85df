-- The numbers of a list of records: four a record, and the records themselves as the constraints of a plan.
-- Assumes nothing.
use Rattle.std.specs.Prelude.{ℕ, suc, ◌+◌, ◌*◌, ◌/◌, ◌≡◌, refl, List, [], ◌∷◌, map, length, get_or, drop}
use Rattle.std.proofs.Common.{add-zero, arith, sym, ap, ◌∙◌, get_or-drop, drop-drop}
use Rattle.lists.specs.Sums.{from}
use Rattle.meaning.specs.Plan as plan
use Rattle.meaning.specs.Plan.{constraint_length, constraint_at, constraints_of}
use Rattle.records.specs.declared.Constraint.{Constraint}
use Rattle.records.specs.Numbers.{numbers_of}

-- there are four numbers a record
pub length-numbers : (cs : List Constraint) → length (numbers_of cs) ≡ constraint_length * length cs
unfolding numbers_of
length-numbers [] = refl
length-numbers (c ∷ cs) = let h = length-numbers cs in omega (arith, h)

-- the constraint that a record stands for
abbrev pub constraint_of : Constraint → plan.Constraint
constraint_of c = record { kind = c.kind; relation = c.relation; limit = c.limit; weight = c.weight }

-- the constraints from k on are the records whose numbers are left
constraints_from : (cs : List Constraint) (k : ℕ) (xs : List ℕ) → drop (constraint_length * k) xs ≡ numbers_of cs → map (constraint_at xs) (from k (length cs)) ≡ map constraint_of cs
unfolding numbers_of
constraints_from [] k xs e = refl
constraints_from (c ∷ cs) k xs e =
    let at : (i : ℕ) → get_or xs (constraint_length * k + i) 0 ≡ get_or (numbers_of (c ∷ cs)) i 0 = λ i. sym (get_or-drop (constraint_length * k) xs i 0) ∙ ap (λ (l : List ℕ). get_or l i 0) e in
    let n : constraint_length * suc k ≡ constraint_length * k + 4 = omega arith in
    rw (rw add-zero at (at 0), at 1, at 2, at 3, constraints_from cs (suc k) xs (rw (n, ← drop-drop, e)))

-- the constraints of the plan are the records, in order
pub constraints_are : (cs : List Constraint) → constraints_of (numbers_of cs) ≡ map constraint_of cs
unfolding constraints_of
constraints_are cs =
    let n = length-numbers cs in
    let m : length (numbers_of cs) / constraint_length ≡ length cs = omega (arith, n) in
    rw m (constraints_from cs 0 (numbers_of cs) refl)
