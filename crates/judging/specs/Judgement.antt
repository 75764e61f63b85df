-- Document 01, "What the product covers": what a sheet's bytes come to: why they are refused, or the verdict on each constraint and the total.
-- Assumes nothing.
use Rattle.std.specs.Prelude.{ℕ, cond, List, [], eqb}
use Rattle.meaning.specs.Plan.{Plan, plan_of}
use Rattle.meaning.specs.Kinds.{total}
use Rattle.meaning.specs.Moves.{verdicts}
use Rattle.refusals.specs.declared.Refusal.{Refusal}
use Rattle.refusals.specs.Table.{none}
use Rattle.form.specs.Form.{Contents, contents_by}
use Rattle.form.specs.Refusals.{refusal_by}

-- the plan of some contents
abbrev pub plan_held : Contents → Plan
plan_held k = plan_of k.R k.S k.workloads k.outside k.edges k.counts k.visits k.constraints

-- the verdicts on them
abbrev pub verdicts_held : Contents → List ℕ
verdicts_held k = verdicts (plan_held k) k.colouring

-- their total
abbrev pub total_held : Contents → ℕ
total_held k = total (plan_held k) k.colouring

-- what a sheet comes to: why it is refused, or its constraints, the verdict on each and the total
pub record Judgement : Type 0 where
  pub refusal : Refusal
  pub constraints : List ℕ
  pub verdicts : List ℕ
  pub total : ℕ

-- a sheet that is not refused has a verdict on each of its constraints, and a total
unfoldable pub judged : List ℕ → Judgement
judged sheet =
    let k = contents_by sheet in
    record { refusal = none; constraints = k.constraints; verdicts = verdicts_held k; total = total_held k }

-- a sheet that is refused has none, and its total is 0
unfoldable pub refused_for : Refusal → Judgement
refused_for r = record { refusal = r; constraints = []; verdicts = []; total = 0 }

-- what a sheet comes to, refused or not
unfoldable pub judgement : List ℕ → Judgement
judgement sheet = cond (eqb (refusal_by sheet).code 0) (judged sheet) (refused_for (refusal_by sheet))
