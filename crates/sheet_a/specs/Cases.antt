-- Document 01, "Sheet A and its numbers": the lines marked P, a line with deltas below 0, and lines for document 02's C-11 and C-12 that were worked out by hand, as one table and one theorem.
-- Assumes nothing.
use Rattle.std.specs.Prelude.{ℕ, ◌≡◌, refl, List, [], ◌∷◌, ◌++◌, map, ℤ, pos, neg_ℤ}
use Rattle.lists.specs.Sums.{up_to}
use Rattle.terms.specs.Distance.{stands, distance}
use Rattle.terms.specs.Moves.{recolouring, exchange, question, of_region, move_of}
use Rattle.meaning.specs.Plan.{Visit, Plan, edges_of, visits_of, flights_of, constraints_of, plan_of, no_outside}
use Rattle.meaning.specs.Joined.{take_in, take_every, labels}
use Rattle.meaning.specs.Stretches.{before, stretches, dwell_of, visits}
use Rattle.meaning.specs.Kinds.{ncc, ncc_all, load, whole, outside_area, border, counts, loads, deviation, connected, bounded, dwelling, by_kind, violation, holds, total, leads_to, border_of, dwelling_of, part_of, region_violation}
use Rattle.meaning.proofs.Outer.{faces, colours, is_in, surface}
use Rattle.meaning.specs.Moves.{moves_of, next, delta, differing, relabelled, row, cells, rows, verdict, verdicts_of, verdicts, work}
use Rattle.blocks.specs.Fletcher.{check, added}

-- ---- the plans, a flight, and a text

-- sheet A, with given outside areas, flights and further constraints: regions, sectors, workloads, outside areas, edges, visit counts, visits, constraints
sheet_a : List ℕ → List ℕ → List ℕ → List ℕ → Plan
sheet_a outside counts visits constraints =
    plan_of 5 2 (10 ∷ 20 ∷ 30 ∷ 25 ∷ 15 ∷ []) outside
    (1 ∷ 2 ∷ 4 ∷ 2 ∷ 3 ∷ 6 ∷ 3 ∷ 4 ∷ 2 ∷ 4 ∷ 5 ∷ 3 ∷ [])
    counts visits
    ((1 ∷ 3 ∷ 2 ∷ 100 ∷ 2 ∷ 1 ∷ 5 ∷ 1 ∷ 3 ∷ 1 ∷ 40 ∷ 2 ∷ 4 ∷ 1 ∷ 55 ∷ 3 ∷ []) ++ constraints)

-- sheet A as document 01 has it
plan_a : Plan
plan_a = sheet_a (no_outside 5) [] [] []

-- sheet A with two flights, and kind 5 with >= 90 and weight 2
plan_f : Plan
plan_f =
    sheet_a (no_outside 5) (5 ∷ 4 ∷ [])
    (1 ∷ 60 ∷ 2 ∷ 40 ∷ 4 ∷ 30 ∷ 5 ∷ 50 ∷ 1 ∷ 20 ∷ 3 ∷ 10 ∷ 2 ∷ 15 ∷ 3 ∷ 25 ∷ 4 ∷ 90 ∷ [])
    (5 ∷ 6 ∷ 90 ∷ 2 ∷ [])

-- sheet A with outside areas, 11 in all
plan_o : Plan
plan_o = sheet_a (7 ∷ 0 ∷ 1 ∷ 0 ∷ 3 ∷ []) [] [] []

colouring_a : List ℕ
colouring_a = 1 ∷ 1 ∷ 1 ∷ 2 ∷ 2 ∷ []

-- a second in each of the regions 1..12, and for their sectors the sequence of the report's section 4.3
flight12 : List Visit
flight12 = map (λ u. record { region = u; dwell = 1 }) (up_to 12)

colouring12 : List ℕ
colouring12 = 1 ∷ 1 ∷ 4 ∷ 4 ∷ 4 ∷ 4 ∷ 4 ∷ 4 ∷ 1 ∷ 1 ∷ 1 ∷ 2 ∷ []

-- one region of a given workload, 64 sectors, kind 4 with >= 1
lone : ℕ → Plan
lone workload = plan_of 1 64 (workload ∷ []) (no_outside 1) [] [] [] (4 ∷ 6 ∷ 1 ∷ 1 ∷ [])

-- "abcde" in ASCII
abcde : List ℕ
abcde = 97 ∷ 98 ∷ 99 ∷ 100 ∷ 101 ∷ []

-- ---- the table

-- what the definitions give, and what they must give
pub record Case : Type 0 where
  pub found : List ℤ
  pub due : List ℤ

abbrev numbers : List ℕ → List ℤ
numbers = map pos

-- a number below 0
abbrev minus : ℕ → ℤ
minus n = neg_ℤ (pos n)

infix 2 ◌is◌ ◌is_signed◌
abbrev ◌is_signed◌ : List ℤ → List ℤ → Case
found is_signed due = record { found = found; due = due }

-- where no number is below 0
abbrev ◌is◌ : List ℤ → List ℕ → Case
found is due = found is_signed numbers due

-- the rows of moves on sheet A's colouring, three numbers a move
rows_on : Plan → List ℕ → List ℤ
rows_on P moves = rows P colouring_a (moves_of P moves)

-- document 01's lines
of_sheet_a : List Case
of_sheet_a =
    (numbers (total plan_a colouring_a ∷ []) is (15 ∷ []))
    ∷ (numbers (labels plan_a.edges colouring_a) is (1 ∷ 1 ∷ 1 ∷ 4 ∷ 4 ∷ []))
    ∷ (numbers (border plan_a colouring_a ∷ deviation plan_a colouring_a ∷ []) is (2 ∷ 40 ∷ []))
    ∷ (rows_on plan_a (1 ∷ 2 ∷ 2 ∷ []) is (0 ∷ 307 ∷ 15 ∷ 0 ∷ []))
    ∷ (numbers (total plan_a (1 ∷ 2 ∷ 1 ∷ 2 ∷ 2 ∷ []) ∷ []) is (322 ∷ []))
    ∷ (rows_on plan_a (2 ∷ 3 ∷ 2 ∷ []) is (0 ∷ 111 ∷ 126 ∷ 3 ∷ []))
    ∷ (rows_on plan_a (4 ∷ 3 ∷ 4 ∷ []) is (0 ∷ 291 ∷ 306 ∷ 2 ∷ []))
    ∷ (rows_on plan_a (5 ∷ 3 ∷ 0 ∷ []) is (0 ∷ 57 ∷ 15 ∷ 0 ∷ []))
    ∷ (rows_on plan_a (5 ∷ 4 ∷ 0 ∷ []) is (0 ∷ 42 ∷ 15 ∷ 0 ∷ []))
    ∷ (rows_on plan_a (5 ∷ 5 ∷ 0 ∷ []) is (0 ∷ 40 ∷ 15 ∷ 0 ∷ []))
    ∷ (rows_on plan_a (1 ∷ 6 ∷ 1 ∷ []) is (22 ∷ 0 ∷ 15 ∷ 0 ∷ []))
    ∷ (rows_on plan_a (1 ∷ 5 ∷ 3 ∷ []) is (23 ∷ 0 ∷ 15 ∷ 0 ∷ []))
    ∷ (rows_on plan_a (9 ∷ 0 ∷ 0 ∷ []) is (21 ∷ 0 ∷ 15 ∷ 0 ∷ []))
    ∷ (numbers (verdicts (lone 0) (1 ∷ [])) is (0 ∷ 64 ∷ []))
    ∷ (numbers (verdicts (lone 1) (1 ∷ [])) is (0 ∷ 63 ∷ []))
    ∷ (numbers (verdicts plan_a colouring_a) is (1 ∷ 0 ∷ 1 ∷ 0 ∷ 1 ∷ 0 ∷ 0 ∷ 5 ∷ []))
    ∷ (numbers (check abcde) is (240 ∷ 200 ∷ []))
    ∷ (numbers (work plan_a colouring_a) is (1 ∷ 1 ∷ 1 ∷ 4 ∷ 4 ∷ 1 ∷ 1 ∷ 60 ∷ 40 ∷ 2 ∷ []))
    ∷ []

-- a line with deltas below 0: region 3 given to sector 2, as above, then its way back to sector 1 probed and made
-- with region 3 back in sector 1 the colouring, and so the labels and the total, are those of the start: either delta is 15 - 126, and the same 3 regions are relabelled
of_way_back : List Case
of_way_back =
    (rows_on plan_a (2 ∷ 3 ∷ 2 ∷ 1 ∷ 3 ∷ 1 ∷ 2 ∷ 3 ∷ 1 ∷ []) is_signed
    (pos 0 ∷ pos 111 ∷ pos 126 ∷ pos 3 ∷ pos 0 ∷ minus 111 ∷ pos 126 ∷ pos 0 ∷ pos 0 ∷ minus 111 ∷ pos 15 ∷ pos 3 ∷ []))
    ∷ []

-- C-11's lines: the report's own example, then planF, where the distance is what a stretch lacks of 90 seconds
-- on sheet A's colouring the stretches are of 60 + 40, 30 + 50 and 20 seconds, and of 10 + 15 + 25 and 90: they lack 0 + 10 + 70 and 40 + 0, and the total is 15 + 2 * 120
-- region 3, twice in the stretch of 50 seconds, has 57 + 2 * 40
-- with region 2 in sector 2 they are of 60, 40 + 30 + 50 and 20, and of 10, 15, 25 and 90: they lack 100 and 220, and the delta is 307 + 2 * (320 - 120)
-- with region 3 in sector 2 those of the second flight are of 10, 15 and 25 + 90: they lack 80 and 155, and the delta is 111 + 2 * (235 - 120)
of_flights : List Case
of_flights =
    (numbers (map dwell_of (stretches colouring12 flight12)) is (2 ∷ 6 ∷ 3 ∷ 1 ∷ []))
    ∷ (numbers (verdicts plan_f colouring_a) is (1 ∷ 0 ∷ 1 ∷ 0 ∷ 1 ∷ 0 ∷ 0 ∷ 5 ∷ 0 ∷ 120 ∷ []))
    ∷ (rows_on plan_f (5 ∷ 3 ∷ 0 ∷ []) is (0 ∷ 137 ∷ 255 ∷ 0 ∷ []))
    ∷ (rows_on plan_f (1 ∷ 2 ∷ 2 ∷ []) is (0 ∷ 707 ∷ 255 ∷ 0 ∷ []))
    ∷ (rows_on plan_f (2 ∷ 3 ∷ 2 ∷ []) is (0 ∷ 341 ∷ 596 ∷ 3 ∷ []))
    ∷ []

-- C-12's lines: planO, where T is 2 + 11, which is 8 above its limit of 5, and the total is 15 + 8
-- the border of region 1 is 0 + 7 and that of region 3 is 2 + 1: they have 55 + 7 and 57 + 1
-- with region 2 in sector 2 T is 12 + 11, 18 above the limit, where 12 alone is 7 above: the delta is 307 - 7 + (18 - 8)
-- with region 3 in sector 2 T is 6 + 11, 12 above the limit, where 6 alone is 1 above: the delta is 111 - 1 + (12 - 8)
-- by the report's equation (10) sector 1, which is regions 1, 2 and 3, has 7 + 0 + (1 + 2), and sector 2, which is 4 and 5, has 2 + 3
of_outside : List Case
of_outside =
    (numbers (verdicts plan_o colouring_a) is (1 ∷ 0 ∷ 0 ∷ 8 ∷ 1 ∷ 0 ∷ 0 ∷ 5 ∷ []))
    ∷ (rows_on plan_o (5 ∷ 1 ∷ 0 ∷ []) is (0 ∷ 62 ∷ 23 ∷ 0 ∷ []))
    ∷ (rows_on plan_o (5 ∷ 3 ∷ 0 ∷ []) is (0 ∷ 58 ∷ 23 ∷ 0 ∷ []))
    ∷ (rows_on plan_o (1 ∷ 2 ∷ 2 ∷ []) is (0 ∷ 310 ∷ 23 ∷ 0 ∷ []))
    ∷ (rows_on plan_o (2 ∷ 3 ∷ 2 ∷ []) is (0 ∷ 114 ∷ 137 ∷ 3 ∷ []))
    ∷ (numbers (work plan_o colouring_a) is (1 ∷ 1 ∷ 1 ∷ 4 ∷ 4 ∷ 1 ∷ 1 ∷ 60 ∷ 40 ∷ 13 ∷ []))
    ∷ (numbers (map (surface (faces plan_o) (colours colouring_a 0)) ((1 ∷ 2 ∷ 3 ∷ []) ∷ (4 ∷ 5 ∷ []) ∷ [])) is (10 ∷ 5 ∷ []))
    ∷ []

-- C-14's line: with no remainder taken, the sums of the same text are 97 + 98 + 99 + 100 + 101, which is 255 + 240, and 97 + 195 + 294 + 394 + 495, which is 5 * 255 + 200
of_check : List Case
of_check = (numbers ((added 0 0 abcde).0 ∷ (added 0 0 abcde).1 ∷ []) is (495 ∷ 1475 ∷ [])) ∷ []

-- all lines
pub cases : List Case
cases = of_sheet_a ++ of_way_back ++ of_flights ++ of_outside ++ of_check

-- every line of the table is as it must be
pub all_right : map (λ c. c.found) cases ≡ map (λ c. c.due) cases
unfolding sheet_a plan_a plan_f plan_o colouring_a flight12 colouring12 lone abcde rows_on of_sheet_a of_way_back of_flights of_outside of_check cases stands distance recolouring exchange question of_region move_of edges_of visits_of flights_of constraints_of take_in take_every labels before stretches visits ncc ncc_all load whole outside_area border counts loads deviation connected bounded dwelling by_kind violation holds total leads_to border_of dwelling_of part_of region_violation moves_of next delta differing relabelled row cells rows verdict verdicts_of work is_in surface
all_right = refl
