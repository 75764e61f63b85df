-- Document 01, "The call and what it refuses", and document 02, C-11 and C-12: the refusals in the order in which they are checked.
-- Assumes nothing.
use Rattle.std.specs.Prelude.{ℕ, ◌+◌, ◌*◌, ◌/◌, Bool, cond, not, List, [], ◌∷◌, ◌++◌, eqb, leb, length}
use Rattle.lists.specs.Sums.{sum}
use Rattle.terms.specs.Plan.{within}
use Rattle.meaning.specs.Plan.{edge_length, visit_length, constraint_length, most_regions, most_sectors, most_workload, most_edges, most_area, most_flights, most_kind, most_constraints, most_moves}
use Rattle.meaning.specs.Moves.{move_length, row_length, verdict_length}
use Rattle.scans.specs.Items.{first_off, at_most, edge_right, count_right, flight_right, constraint_right, sector_right, records}
use Rattle.refusals.specs.declared.Refusal.{Refusal}

-- ---- how a table is read

abbrev pub refused : ℕ → ℕ → Refusal
refused code place = record { code = code; place = place }

abbrev pub none : Refusal
none = refused 0 0

-- a row of the table: its code, whether it is given, and the place that it names
pub record Row : Type 0 where
  pub code : ℕ
  pub given : Bool
  pub place : ℕ

-- a row on a number or on a whole list names no place
abbrev pub whole : ℕ → Bool → Row
whole code right = record { code = code; given = not right; place = 0 }

-- a row on each item of a list names the first that is not right
abbrev pub item : ℕ → ℕ → Row
item code place = record { code = code; given = not (eqb place 0); place = place }

abbrev pub each : ℕ → ℕ → (ℕ → Bool) → Row
each code n right = item code (first_off n right)

-- the first row that is given, or none
unfoldable pub refusal : List Row → Refusal
refusal [] = none
refusal (r ∷ rs) = cond r.given (refused r.code r.place) (refusal rs)

-- ---- the table

-- codes 1 to 8 and, after 3 and 5, codes 14 and 13, on a plan with constraints of the kinds 1 to `kinds`, and on its colouring
unfoldable pub plan_table : ℕ → ℕ → ℕ → List ℕ → List ℕ → List ℕ → List ℕ → List ℕ → List ℕ → List ℕ → List Row
plan_table kinds R S workloads outside edges counts visits constraints colouring =
    whole 1 (within 1 R most_regions)
    ∷ whole 2 (within 1 S most_sectors)
    ∷ whole 3 (eqb (length workloads) R)
    ∷ each 3 (length workloads) (at_most most_workload workloads)
    ∷ whole 14 (eqb (length outside) R)
    ∷ each 14 (length outside) (at_most most_area outside)
    ∷ whole 4 (records edge_length 0 most_edges edges)
    ∷ each 5 (length edges / edge_length) (edge_right R edges)
    ∷ whole 13 (leb (length counts) most_flights)
    ∷ each 13 (length counts) (count_right counts)
    ∷ whole 13 (eqb (length visits) (visit_length * sum counts (λ n. n)))
    ∷ each 13 (length counts) (flight_right R counts visits)
    ∷ whole 6 (records constraint_length 1 most_constraints constraints)
    ∷ each 7 (length constraints / constraint_length) (constraint_right kinds constraints)
    ∷ whole 8 (eqb (length colouring) R)
    ∷ each 8 (length colouring) (sector_right S colouring)
    ∷ []

-- codes 9 to 12, on the moves and the room that is lent
unfoldable pub room_table : ℕ → ℕ → List ℕ → List ℕ → ℕ → ℕ → ℕ → List Row
room_table R S constraints moves rows verdicts work =
    whole 9 (records move_length 0 most_moves moves)
    ∷ whole 10 (leb (row_length * (length moves / move_length)) rows)
    ∷ whole 11 (leb (verdict_length * (length constraints / constraint_length)) verdicts)
    ∷ whole 12 (leb (R + 2 * S + 1) work)
    ∷ []

-- what a call is given: of the memory that it only writes, the room
pub record Given : Type 0 where
  pub R : ℕ
  pub S : ℕ
  pub workloads : List ℕ
  pub outside : List ℕ
  pub edges : List ℕ
  pub counts : List ℕ
  pub visits : List ℕ
  pub constraints : List ℕ
  pub colouring : List ℕ
  pub moves : List ℕ
  pub rows : ℕ
  pub verdicts : ℕ
  pub work : ℕ

-- the same of a call's parameters, in their order
abbrev pub given : ℕ → ℕ → List ℕ → List ℕ → List ℕ → List ℕ → List ℕ → List ℕ → List ℕ → List ℕ → ℕ → ℕ → ℕ → Given
given R S workloads outside edges counts visits constraints colouring moves rows verdicts work =
    record { R = R; S = S; workloads = workloads; outside = outside; edges = edges; counts = counts; visits = visits; constraints = constraints; colouring = colouring; moves = moves; rows = rows; verdicts = verdicts; work = work }

-- codes 1 to 14
unfoldable pub call_table : Given → List Row
call_table g =
    plan_table most_kind g.R g.S g.workloads g.outside g.edges g.counts g.visits g.constraints g.colouring
    ++ room_table g.R g.S g.constraints g.moves g.rows g.verdicts g.work

-- what the call answers to bad input
unfoldable pub call_refusal : Given → Refusal
call_refusal g = refusal (call_table g)

-- what is refused of a plan with constraints of the kinds 1 to `kinds`, and of its colouring
unfoldable pub plan_refusal : ℕ → ℕ → ℕ → List ℕ → List ℕ → List ℕ → List ℕ → List ℕ → List ℕ → List ℕ → Refusal
plan_refusal kinds R S workloads outside edges counts visits constraints colouring =
    refusal (plan_table kinds R S workloads outside edges counts visits constraints colouring)
