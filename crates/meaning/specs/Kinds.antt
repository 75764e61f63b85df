-- Document 01, "Meaning of the four kinds", and document 02, C-11 and C-12: the numbers of a colouring, the violation of each kind, the total, and a region's violation.
-- A difference `a - b` is 0 where b is larger, so that document 01's max(a - b, 0) is `a - b`.
-- Assumes nothing.
use Rattle.std.specs.Prelude.{ℕ, ◌+◌, ◌-◌, ◌*◌, List, map, Bool, cond, not, ◌&&◌, ◌||◌, eqb}
use Rattle.lists.specs.Sums.{at, bit, sum, count}
use Rattle.terms.specs.Distance.{gap, stands, distance}
use Rattle.meaning.specs.Plan.{Edge, Visit, Constraint, Plan, regions, sectors}
use Rattle.meaning.specs.Joined.{labels, leads}
use Rattle.meaning.specs.Stretches.{stretches, dwell_of, visits}

-- NCC(c): the components of sector c
unfoldable pub ncc : Plan → List ℕ → ℕ → ℕ
ncc P col c = count (regions P) (λ u. leads (labels P.edges col) u && eqb (at col u) c)

-- NCC: all components
unfoldable pub ncc_all : Plan → List ℕ → ℕ
ncc_all P col = count (regions P) (leads (labels P.edges col))

-- X(c): the workload of sector c
unfoldable pub load : Plan → List ℕ → ℕ → ℕ
load P col c = sum (regions P) (λ u. cond (eqb (at col u) c) (at P.workloads u) 0)

-- W: the whole workload
unfoldable pub whole : Plan → ℕ
whole P = sum (regions P) (at P.workloads)

-- an edge's ends differ in sector
abbrev pub crosses : List ℕ → Edge → Bool
crosses col e = not (eqb (at col e.a) (at col e.b))

-- the summed area of the edges that pass a test
abbrev pub area_of : List Edge → (Edge → Bool) → ℕ
area_of edges p = sum edges (λ e. cond (p e) e.area 0)

-- the summed area of all faces to the outside
unfoldable pub outside_area : Plan → ℕ
outside_area P = sum (regions P) (at P.outside)

-- T: the summed area of the edges whose two ends differ in sector, and of all faces to the outside
unfoldable pub border : Plan → List ℕ → ℕ
border P col = area_of P.edges (crosses col) + outside_area P

-- NCC(1), .., NCC(S)
unfoldable pub counts : Plan → List ℕ → List ℕ
counts P col = map (ncc P col) (sectors P)

-- X(1), .., X(S)
unfoldable pub loads : Plan → List ℕ → List ℕ
loads P col = map (load P col) (sectors P)

-- how far a workload x is from the average: |S * x - W|
abbrev pub off_balance : Plan → ℕ → ℕ
off_balance P x = gap (P.S * x) (whole P)

-- D
unfoldable pub deviation : Plan → List ℕ → ℕ
deviation P col = sum (loads P col) (off_balance P)

-- kind 1, connected
unfoldable pub connected : Plan → List ℕ → Constraint → ℕ
connected P col k = bit (not (stands k.relation (ncc_all P col) k.limit)) + sum (counts P col) (λ n. n - 1)

-- kind 4, bounded
unfoldable pub bounded : Plan → List ℕ → Constraint → ℕ
bounded P col k = sum (loads P col) (λ x. distance k.relation x k.limit)

-- the sum of f over all stretches of all flights
abbrev pub over_stretches : Plan → List ℕ → (List Visit → ℕ) → ℕ
over_stretches P col f = sum P.flights (λ flight. sum (stretches col flight) f)

-- how far the summed dwell of a stretch is from standing in the constraint's relation to its limit
abbrev pub off_dwell : Constraint → List Visit → ℕ
off_dwell k s = distance k.relation (dwell_of s) k.limit

-- kind 5, dwell time
unfoldable pub dwelling : Plan → List ℕ → Constraint → ℕ
dwelling P col k = over_stretches P col (off_dwell k)

-- what is due to each of the five kinds
unfoldable pub by_kind : ℕ → ℕ → ℕ → ℕ → ℕ → ℕ → ℕ
by_kind kind connected border balanced bounded dwelling =
    cond (eqb kind 1) connected
    (cond (eqb kind 2) border
    (cond (eqb kind 3) balanced
    (cond (eqb kind 4) bounded
    (cond (eqb kind 5) dwelling 0))))

-- the violation of a constraint
unfoldable pub violation : Plan → List ℕ → Constraint → ℕ
violation P col k =
    by_kind k.kind (connected P col k) (border P col - k.limit) (deviation P col - k.limit) (bounded P col k) (dwelling P col k)

-- a constraint holds exactly when its violation is 0
unfoldable pub holds : Plan → List ℕ → Constraint → Bool
holds P col k = eqb (violation P col k) 0

-- the total: weight times violation, summed
unfoldable pub total : Plan → List ℕ → ℕ
total P col = sum P.constraints (λ k. k.weight * violation P col k)

-- an edge leads from region v to one that passes the test
unfoldable pub leads_to : (ℕ → Bool) → ℕ → Edge → Bool
leads_to test v e = (eqb e.a v && test e.b) || (eqb e.b v && test e.a)

-- the area of v's edges that lead to another sector, and of its face to the outside
unfoldable pub border_of : Plan → List ℕ → ℕ → ℕ
border_of P col v = area_of P.edges (leads_to (λ w. not (eqb (at col w) (at col v))) v) + at P.outside v

-- how far the stretches that visit v are from the limit, each counted once
unfoldable pub dwelling_of : Plan → List ℕ → ℕ → Constraint → ℕ
dwelling_of P col v k = over_stretches P col (λ s. cond (visits v s) (off_dwell k s) 0)

-- what region v, in sector c, has by the kind of a constraint
unfoldable pub part_of : Plan → List ℕ → ℕ → ℕ → Constraint → ℕ
part_of P col v c k =
    by_kind k.kind (ncc P col c - 1) (border_of P col v) (off_balance P (load P col c)) (distance k.relation (load P col c) k.limit) (dwelling_of P col v k)

-- a region's violation
unfoldable pub region_violation : Plan → List ℕ → ℕ → ℕ
region_violation P col v = sum P.constraints (λ k. k.weight * part_of P col v (at col v) k)
