-- Document 01, "The plan": constraints as a list of records, and the list of four numbers a constraint that it stands for.
-- Assumes nothing.
use Rattle.std.specs.Prelude.{ℕ, List, [], ◌∷◌}
use Rattle.records.specs.declared.Constraint.{Constraint}

-- the numbers of the records: kind, relation, limit and weight of each, in the order of the list
unfoldable pub numbers_of : List Constraint → List ℕ
numbers_of [] = []
numbers_of (c ∷ cs) = c.kind ∷ c.relation ∷ c.limit ∷ c.weight ∷ numbers_of cs
