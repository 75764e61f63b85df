-- Document 01, "The plan": a number makes a region, a sector or a relation, or makes none.
-- Assumes nothing.
use Rattle.std.specs.Prelude.{ℕ, Bool, cond, ◌&&◌, eqb, leb, Option, Some, None}
use Rattle.terms.specs.declared.Region.{Region}
use Rattle.terms.specs.declared.Sector.{Sector}
use Rattle.terms.specs.declared.Relation.{Relation}
use Rattle.terms.specs.declared.Relation.TheVariants.{AtMost, Below, Equal, NotEqual, Above, AtLeast}

-- x is one of low..high
abbrev pub within : ℕ → ℕ → ℕ → Bool
within low x high = leb low x && leb x high

-- regions are numbered 1..R
abbrev pub region_of : ℕ → ℕ → Option Region
region_of R n = cond (within 1 n R) (Some (record { 0 = n })) None

-- sectors are numbered 1..S
abbrev pub sector_of : ℕ → ℕ → Option Sector
sector_of S n = cond (within 1 n S) (Some (record { 0 = n })) None

-- relations have the codes 1..6
abbrev pub code_of : Relation → ℕ
code_of AtMost = 1
code_of Below = 2
code_of Equal = 3
code_of NotEqual = 4
code_of Above = 5
code_of AtLeast = 6

-- and no other number makes one
abbrev pub relation_of : ℕ → Option Relation
relation_of n =
    cond (eqb n 1) (Some AtMost)
    (cond (eqb n 2) (Some Below)
    (cond (eqb n 3) (Some Equal)
    (cond (eqb n 4) (Some NotEqual)
    (cond (eqb n 5) (Some Above)
    (cond (eqb n 6) (Some AtLeast) None)))))
