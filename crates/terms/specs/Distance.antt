-- Document 01, "Meaning of the four kinds": the relations by their codes, 1 is <=, 2 <, 3 =, 4 not equal, 5 >, 6 >=, and the distance.
-- A difference `a - b` is 0 where b is larger, so that document 01's max(a - b, 0) is `a - b`.
-- Assumes nothing.
use Rattle.std.specs.Prelude.{ℕ, ◌+◌, ◌-◌, Bool, cond, not, eqb, leb, ltb}

-- |a - b|
abbrev pub gap : ℕ → ℕ → ℕ
gap a b = a - b + (b - a)

-- x stands in the relation to t
unfoldable pub stands : ℕ → ℕ → ℕ → Bool
stands relation x t =
    cond (eqb relation 1) (leb x t)
    (cond (eqb relation 2) (ltb x t)
    (cond (eqb relation 3) (eqb x t)
    (cond (eqb relation 4) (not (eqb x t))
    (cond (eqb relation 5) (ltb t x)
    (leb t x)))))

-- d(relation, x, t)
unfoldable pub distance : ℕ → ℕ → ℕ → ℕ
distance relation x t =
    cond (eqb relation 1) (x - t)
    (cond (eqb relation 2) (x + 1 - t)
    (cond (eqb relation 3) (gap x t)
    (cond (eqb relation 4) (cond (eqb x t) 1 0)
    (cond (eqb relation 5) (t + 1 - x)
    (t - x)))))
