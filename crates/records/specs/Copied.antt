-- The numbers of a list of records in an array: of a list that is too long, as many as are too many.
-- Assumes nothing.
use Rattle.std.specs.Prelude.{ℕ, ◌+◌, ◌*◌, min, cond, List, [], ◌∷◌, ltb, replicate, take}
use Rattle.std.proofs.lemmas.List.Edits.{sets}
use Rattle.meaning.specs.Plan.{constraint_length, most_constraints}
use Rattle.records.specs.declared.Constraint.{Constraint}
use Rattle.records.specs.Numbers.{numbers_of}

-- one record more than a list may have
abbrev pub most_copied : ℕ
most_copied = most_constraints + 1

-- an array with no record in it yet
abbrev pub no_numbers : List ℕ
no_numbers = replicate (constraint_length * most_copied) 0

-- the array with the numbers of record k, from 0, in their place; a record past the last place is left out
unfoldable pub put_record : List ℕ → ℕ → Constraint → List ℕ
put_record numbers k c = cond (ltb k most_copied) (sets numbers (constraint_length * k) (numbers_of (c ∷ []))) numbers

-- the array with the numbers of some records, the first of them record k
unfoldable pub put_from : ℕ → List ℕ → List Constraint → List ℕ
put_from k numbers [] = numbers
put_from k numbers (c ∷ cs) = put_from (k + 1) (put_record numbers k c) cs

-- the array of a list of records
abbrev pub array_of : List Constraint → List ℕ
array_of cs = put_from 0 no_numbers cs

-- the numbers of the first `count` records of an array, or of all that it has
abbrev pub front : ℕ → List ℕ → List ℕ
front count numbers = take (constraint_length * min count most_copied) numbers

-- a record of zeros
abbrev pub blank : Constraint
blank = record { kind = 0; relation = 0; limit = 0; weight = 0 }
