-- The numbers of a colouring that its violations are made of, and the violations, the total and the verdicts by them.
-- Assumes nothing.
use Rattle.std.specs.Prelude.{ℕ, ◌+◌, ◌-◌, ◌*◌, ◌/◌, List, [], ◌∷◌, map, cond, not, eqb, length, get_or}
use Rattle.lists.specs.Sums.{at, up_to, list_of, bit, sum}
use Rattle.terms.specs.Distance.{gap, stands, distance}
use Rattle.meaning.specs.Plan.{Constraint, Plan, constraint_length, constraint_at, constraints_of}
use Rattle.meaning.specs.Kinds.{ncc_all, border, counts, deviation, bounded, dwelling, by_kind}
use Rattle.meaning.specs.Prices.{limit_total, dwell_total}
use Rattle.judge.specs.declared.Figures.{Figures}

-- NCC, the sum of max(NCC(c) - 1, 0), T, D, and what the constraints of kind 4 and of kind 5 add to the total
unfoldable pub figures_of : Plan → List ℕ → Figures
figures_of P col =
    record {
      components = ncc_all P col;
      excess = sum (counts P col) (λ n. n - 1);
      border = border P col;
      deviation = deviation P col;
      bounded = limit_total P col;
      dwell = dwell_total P col;
    }

-- the figures by the whole workload, the components and the workload of each sector, the border, and what kind 4 and kind 5 add to the total
unfoldable pub figures_by : ℕ → ℕ → List ℕ → List ℕ → ℕ → ℕ → ℕ → Figures
figures_by S W counts loads T limits dwell =
    record {
      components = sum counts (λ n. n);
      excess = sum counts (λ n. n - 1);
      border = T;
      deviation = sum loads (λ x. gap (S * x) W);
      bounded = limits;
      dwell = dwell;
    }

-- what a constraint's verdict asks for by the workloads: for kind 4 the sum of the distances, for the other kinds nothing
unfoldable pub gauge_of : Plan → List ℕ → Constraint → ℕ
gauge_of P col k = cond (eqb k.kind 4) (bounded P col k) 0

-- the gauges of all constraints
unfoldable pub gauges : Plan → List ℕ → List ℕ
gauges P col = map (gauge_of P col) P.constraints

-- what a constraint's verdict asks for besides the figures: for kind 5 the distances of the stretches too
unfoldable pub verdict_gauge_of : Plan → List ℕ → Constraint → ℕ
verdict_gauge_of P col k = cond (eqb k.kind 5) (dwelling P col k) (gauge_of P col k)

-- that of each constraint
unfoldable pub verdict_gauges : Plan → List ℕ → List ℕ
verdict_gauges P col = map (verdict_gauge_of P col) P.constraints

-- a constraint's gauge by the workload of each sector
unfoldable pub gauge_by : List ℕ → Constraint → ℕ
gauge_by loads k = cond (eqb k.kind 4) (sum loads (λ x. distance k.relation x k.limit)) 0

-- the gauges of the constraints of the flat list
unfoldable pub gauges_by : List ℕ → List ℕ → List ℕ
gauges_by loads constraints = map (gauge_by loads) (constraints_of constraints)

-- how many constraints the flat list has
abbrev pub constraint_count : List ℕ → ℕ
constraint_count constraints = length constraints / constraint_length

-- a constraint with weight 1: neither its gauge nor its violation asks what it weighs
abbrev pub unweighted : Constraint → Constraint
unweighted k = record { kind = k.kind; relation = k.relation; limit = k.limit; weight = 1 }

-- the violation of a constraint by the figures and its gauge
unfoldable pub violation_by : Figures → ℕ → Constraint → ℕ
violation_by F gauge k =
    by_kind k.kind (bit (not (stands k.relation F.components k.limit)) + F.excess) (F.border - k.limit) (F.deviation - k.limit) gauge gauge

-- the violation of constraint i, from 0, of the flat list
abbrev pub violation_at : Figures → List ℕ → List ℕ → ℕ → ℕ
violation_at F gauges constraints i = violation_by F (get_or gauges i 0) (constraint_at constraints i)

-- the weight of a constraint times its violation by the figures alone
abbrev pub weighted_by : Figures → Constraint → ℕ
weighted_by F k = k.weight * violation_by F 0 k

-- the total by the figures and the constraints of kinds 1 to 3
unfoldable pub total_by : Figures → List Constraint → ℕ
total_by F ks = sum ks (weighted_by F) + F.bounded + F.dwell

-- for each violation its verdict: 1 or 0 for holds, then the violation
abbrev pub judged : List ℕ → List ℕ
judged [] = []
judged (v ∷ vs) = bit (eqb v 0) ∷ v ∷ judged vs

-- the verdicts on the first n constraints of the flat list, by the figures and the gauges
unfoldable pub verdicts_by : Figures → List ℕ → List ℕ → ℕ → List ℕ
verdicts_by F gauges constraints n = judged (list_of n (violation_at F gauges constraints))

-- for each sector of 1..S, the sum of f over the first n regions that have it
unfoldable pub tally : ℕ → List ℕ → (ℕ → ℕ) → ℕ → List ℕ
tally S col f n = map (λ c. sum (up_to n) (λ u. cond (eqb (at col u) c) (f u) 0)) (up_to S)
