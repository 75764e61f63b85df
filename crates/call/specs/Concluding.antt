-- The verdicts on a colouring: what they are made of, and that they are those of the plan.
-- Assumes nothing.
use Rattle.std.specs.Prelude.{ℕ, ◌≤◌, ◌≡◌, List, ◌++◌, length, take, drop}
use Rattle.std.proofs.Common.{arith, sym, ap, ◌∙◌, length-take-le}
use Rattle.lists.specs.Sums.{from}
use Rattle.lists.specs.SumLaws.{every_from}
use Rattle.lists.specs.ListLaws.{map_ext}
use Rattle.lists.specs.Few.{Few}
use Rattle.lists.specs.Fronts.{zeros, zeros_room}
use Rattle.meaning.specs.Plan.{Plan, Limits, flights_of, constraints_of, most_sectors, most_constraints}
use Rattle.meaning.specs.Kinds.{dwelling}
use Rattle.meaning.specs.Bounds.{most_load}
use Rattle.meaning.specs.Moves.{verdicts}
use Rattle.kinds.specs.Constraints.{Paying, length_constraints}
use Rattle.flights.specs.Flying.{Flying}
use Rattle.flights.specs.Gauged.{dwell_gauges}
use Rattle.judge.specs.declared.Figures.{Figures}
use Rattle.judge.specs.Figures.{gauges, gauges_by, verdict_gauge_of, verdict_gauges, constraint_count, verdicts_by}
use Rattle.judge.specs.FigureLaws.{gauges_by_lem, gauge_at, verdict-gauges-list_of, verdicts_by_lem}
use Rattle.judge.specs.Small.{SmallFigures, Small, loads_small, figures_small}
use Rattle.engine.specs.declared.Standing.{Standing}
use Rattle.engine.specs.State.{Ready}
use Rattle.engine.specs.Remade.{ready_kept}
use Rattle.engine.specs.Opening.{second_part, loads-read}

-- constraints, flights over the regions of a colouring, workloads of sectors and figures, as small as in a plan within its limits
pub record Concluding (constraints counts visits loads col : List ℕ) (F : Figures) : Type 0 where
  pub paying : Paying constraints
  pub flying : Flying (length col) counts visits
  pub load : Few most_sectors most_load loads
  pub figures : SmallFigures F

-- the gauges of all constraints: of kind 4 by the workloads, of kind 5 by the flights
abbrev pub all_gauges : List ℕ → List ℕ → List ℕ → List ℕ → List ℕ → List ℕ
all_gauges constraints counts visits loads col = dwell_gauges (flights_of counts visits) col constraints (gauges_by loads constraints)

-- the verdicts by the figures and these gauges
abbrev pub concluded : List ℕ → List ℕ → List ℕ → List ℕ → List ℕ → Figures → List ℕ
concluded constraints counts visits loads col F =
    verdicts_by F (all_gauges constraints counts visits loads col) constraints (constraint_count constraints)

-- ---- the array of the gauges

module _ {constraints counts visits loads col : List ℕ} {F : Figures} (c : Concluding constraints counts visits loads col F) where
  -- how many gauges there are
  abbrev n : ℕ
  n = constraint_count constraints

  -- there is room for them
  pub gauges_room : n ≤ length (zeros most_constraints)
  gauges_room = zeros_room most_constraints (omega (arith, c.paying.few, length_constraints constraints))

  -- in the front of the array
  pub gauges_lent : length (take n (zeros most_constraints)) ≡ n
  gauges_lent = length-take-le n (zeros most_constraints) gauges_room

  module _ {gs hs : List ℕ} (p : gs ≡ gauges_by loads constraints) (q : hs ≡ dwell_gauges (flights_of counts visits) col constraints gs) where
    -- with those of kind 4 and then those of kind 5 put down there, the verdicts can be made
    pub concluding_small : length hs ≡ n → Small F hs constraints
    concluding_small m = record { figures = c.figures; size = m; constraint = c.paying.constraint }

    -- and are those by all gauges
    pub concluding_verdicts : verdicts_by F hs constraints n ≡ concluded constraints counts visits loads col F
    concluding_verdicts = rw (q, p)

-- ---- the verdicts of a plan

-- with those of kind 5 the gauges are those that the verdicts ask for
all_gauged : (P : Plan) (col constraints : List ℕ) → P.constraints ≡ constraints_of constraints → dwell_gauges P.flights col constraints (gauges P col) ≡ verdict_gauges P col
unfolding dwell_gauges verdict_gauge_of dwelling
all_gauged P col constraints e =
    map_ext (from 0 (constraint_count constraints)) _ _
    (every_from _ 0 (constraint_count constraints) (λ i lo hi. rw (gauge_at P col constraints e i (omega arith))))
    ∙ sym (verdict-gauges-list_of P col constraints e)

module _ {P : Plan} {col w ps : List ℕ} {s : Standing} (l : Limits P) (r : Ready P col w ps s) (constraints : List ℕ) (e : P.constraints ≡ constraints_of constraints) where
  -- where all is that of a colouring, its verdicts can be made
  pub ready_concluding : {counts visits : List ℕ} → Flying P.R counts visits → Concluding constraints counts visits (second_part P.R P.S w) col s.figures
  ready_concluding f =
      record {
        paying = record { few = rw e at l.constraints; constraint = rw e at l.constraint };
        flying = rw r.coloured.size f;
        load = rw (loads-read (ready_kept l r)) (loads_small P l col);
        figures = rw r.standing (figures_small P l col);
      }

  -- and are those of the plan
  pub ready_concluded : (counts visits : List ℕ) → P.flights ≡ flights_of counts visits → concluded constraints counts visits (second_part P.R P.S w) col s.figures ≡ verdicts P col
  ready_concluded counts visits f =
      rw (loads-read (ready_kept l r), gauges_by_lem P col constraints e, ← f, all_gauged P col constraints e, r.standing) (verdicts_by_lem P col constraints e)
