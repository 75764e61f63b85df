-- Document 01, "Moves and rows": what three numbers ask for.
-- Assumes nothing.
use Rattle.std.specs.Prelude.{ℕ, Bool, cond, List, [], ◌∷◌, eqb, leb, Option, Some, None}
use Rattle.terms.specs.Plan.{within, region_of, sector_of}
use Rattle.terms.specs.declared.Region.{Region}
use Rattle.terms.specs.declared.Sector.{Sector}
use Rattle.terms.specs.declared.Wrong.{Wrong}
use Rattle.terms.specs.declared.Wrong.TheVariants.{NoKind, NoRegion, NoSecond}
use Rattle.terms.specs.declared.Move.{Move}
use Rattle.terms.specs.declared.Move.TheVariants.{Recolour, Exchange, Ask, Refused}

-- the statuses of refused moves
abbrev pub no_kind : ℕ
no_kind = 21

abbrev pub no_region : ℕ
no_region = 22

abbrev pub no_second : ℕ
no_second = 23

-- the status of what is wrong with a move
abbrev pub wrong_status : Wrong → ℕ
wrong_status NoKind = no_kind
wrong_status NoRegion = no_region
wrong_status NoSecond = no_second

-- kinds 1 and 2: the second number is a sector, or the move has status 23
unfoldable pub recolouring : Bool → Region → Option Sector → Move
recolouring make a (Some c) = Recolour make a c
recolouring make a None = Refused no_second

-- kinds 3 and 4: the second number is a region, or the move has status 23
unfoldable pub exchange : Bool → Region → Option Region → Move
exchange make a (Some b) = Exchange make a b
exchange make a None = Refused no_second

-- kind 5: the second number is 0, or the move has status 23
unfoldable pub question : Region → ℕ → Move
question a b = cond (eqb b 0) (Ask a) (Refused no_second)

-- a move of kind 1 to 5 whose first number is a region, or has status 22
unfoldable pub of_region : ℕ → ℕ → ℕ → Option Region → ℕ → Move
of_region R S kind (Some a) b =
    cond (leb kind 2) (recolouring (eqb kind 2) a (sector_of S b))
    (cond (leb kind 4) (exchange (eqb kind 4) a (region_of R b)) (question a b))
of_region R S kind None b = Refused no_region

-- three numbers of a list of moves, in a plan of R regions and S sectors: a move of kind 1 to 5, or with status 21
unfoldable pub move_of : ℕ → ℕ → ℕ → ℕ → ℕ → Move
move_of R S kind a b = cond (within 1 kind 5) (of_region R S kind (region_of R a) b) (Refused no_kind)

-- the status of each case: 0 where the move is accepted
abbrev pub status : Move → ℕ
status (Recolour make a c) = 0
status (Exchange make a b) = 0
status (Ask a) = 0
status (Refused s) = s

-- the numbers of each case that is accepted
abbrev pub numbers : Move → List ℕ
numbers (Recolour make a c) = cond make 2 1 ∷ a.0 ∷ c.0 ∷ []
numbers (Exchange make a b) = cond make 4 3 ∷ a.0 ∷ b.0 ∷ []
numbers (Ask a) = 5 ∷ a.0 ∷ 0 ∷ []
numbers (Refused s) = []
