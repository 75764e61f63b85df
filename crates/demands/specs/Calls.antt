-- What a call that is not refused leaves, read off its promise.
-- Assumes nothing.
use Rattle.std.specs.Prelude.{ℕ, ◌+◌, ◌*◌, ◌/◌, ◌≡◌, List, [], ◌∷◌, ◌++◌, ℤ, length, take}
use Rattle.std.proofs.Common.{arith, sym, ◌∙◌, eq-eqb, ne_eqb, length-append, take_at}
use Rattle.std.proofs.Math.Decide.{ℕ_discrete}
use Rattle.std.proofs.Math.Path.{ap}
use Rattle.lists.specs.ListLaws.{length-list_of}
use Rattle.meaning.specs.Plan.{Plan, Limits, Coloured, constraint_length, constraint_at, constraints_of}
use Rattle.meaning.specs.Joined.{labels}
use Rattle.meaning.specs.Kinds.{counts, loads, border, total}
use Rattle.meaning.proofs.Labels.{plan_labels}
use Rattle.meaning.proofs.Components.{counts-length, loads-length}
use Rattle.meaning.specs.Moves.{move_length, row_length, verdict_length, rows, verdicts, work}
use Rattle.meaning.proofs.MoveLaws.{length-rows, length_moves, length-verdicts}
use Rattle.refusals.specs.Table.{call_refusal}
use Rattle.refusals.specs.Valid.{Valid, valid}
use Rattle.call.specs.Promise.{Input, Outcome, Promise, given, plan_in, moves_in, last_in, refused_by, ran, outcome, is_outcome}
use Rattle.turns.specs.Taken.{coloured-last}

-- ---- definitions

-- how many numbers a call writes of rows, of verdicts and of work memory
abbrev pub rows_written : Input → ℕ
rows_written i = row_length * (length i.moves / move_length)

abbrev pub verdicts_written : Input → ℕ
verdicts_written i = verdict_length * (length i.constraints / constraint_length)

abbrev pub work_written : Input → ℕ
work_written i = i.R + 2 * i.S + 1

-- the rows, the verdicts and the work memory that a call writes, without what lies beyond
abbrev pub rows_left_by : Input → Outcome → List ℤ
rows_left_by i o = take (rows_written i) o.rows

abbrev pub verdicts_left : Input → Outcome → List ℕ
verdicts_left i o = take (verdicts_written i) o.verdicts

abbrev pub work_left : Input → Outcome → List ℕ
work_left i o = take (work_written i) o.work

-- two calls are on one plan: all is the same but the colouring, the moves and the lent memory
pub record SamePlan (i j : Input) : Type 0 where
  pub R : i.R ≡ j.R
  pub S : i.S ≡ j.S
  pub workloads : i.workloads ≡ j.workloads
  pub outside : i.outside ≡ j.outside
  pub edges : i.edges ≡ j.edges
  pub counts : i.counts ≡ j.counts
  pub visits : i.visits ≡ j.visits
  pub constraints : i.constraints ≡ j.constraints

-- their plans are equal
pub same_plan : {i j : Input} → SamePlan i j → plan_in i ≡ plan_in j
same_plan s = rw (s.R, s.S, s.workloads, s.outside, s.edges, s.counts, s.visits, s.constraints)

-- ---- lengths

-- the work memory has R labels, S component counts, S workload sums and T
length-work : {P : Plan} {col : List ℕ} → Limits P → Coloured P col → length (work P col) ≡ P.R + 2 * P.S + 1
unfolding work
length-work {P} {col} l k =
    omega (
      arith,
      length-append (labels P.edges col ++ counts P col ++ loads P col) (border P col ∷ []),
      length-append (labels P.edges col ++ counts P col) (loads P col),
      length-append (labels P.edges col) (counts P col),
      (plan_labels l col k.size).size,
      k.size,
      counts-length P col,
      loads-length P col,
    )

-- ---- a call that is not refused

-- a call answers the code of the table's refusal, which is 0 where nothing is refused
pub answer_code : {i : Input} {o : Outcome} → Promise i o → o.answer.code ≡ (call_refusal (given i)).code
unfolding outcome ran refused_by
answer_code {i} {o} p = ap (λ a. a.code) p.answer ∙ go (ℕ_discrete (call_refusal (given i)).code 0)
  where
    go : Dec ((call_refusal (given i)).code ≡ 0) → (outcome i).answer.code ≡ (call_refusal (given i)).code
    go (yes e) = rw (eq-eqb _ 0 e) (sym e)
    go (no ne) = rw (ne_eqb _ 0 ne)

module _ {i : Input} {o : Outcome} (p : Promise i o) (z : o.answer.code ≡ 0) where
  -- no rule of the table is broken
  not-refused : (call_refusal (given i)).code ≡ 0
  not-refused = sym (answer_code p) ∙ z

  -- the plan, the moves and the room are valid
  pub call_valid : Valid (given i)
  call_valid = valid (given i) not-refused

  -- the moves are run
  pub has_run : o ≡ ran i
  unfolding outcome
  has_run = is_outcome p ∙ rw (eq-eqb _ 0 not-refused)

  -- the colouring is the one that the moves lead to
  pub colouring-left : o.colouring ≡ last_in i
  unfolding ran
  colouring-left = ap (λ w. w.colouring) has_run

  -- each region has a sector in the colouring left
  pub coloured-left : Coloured (plan_in i) o.colouring
  coloured-left = rw colouring-left (coloured-last i.moves call_valid.plan.coloured)

  -- the first total is that of the colouring lent
  pub first_total : o.answer.first ≡ total (plan_in i) i.colouring
  unfolding ran
  first_total = ap (λ w. w.answer.first) has_run

  -- the last total is that of the colouring left
  pub last-total : o.answer.last ≡ total (plan_in i) o.colouring
  unfolding ran
  last-total = ap (λ w. w.answer.last) has_run ∙ rw colouring-left

  -- the rows written are those of the moves, in their order
  pub rows_left : rows_left_by i o ≡ rows (plan_in i) i.colouring (moves_in i)
  unfolding ran
  rows_left =
      rw has_run
      (take_at (rows (plan_in i) i.colouring (moves_in i)) _ (rows_written i)
      (length-rows (plan_in i) i.colouring (moves_in i) ∙ rw (length_moves (plan_in i) i.moves)))

  -- the verdicts written are those on the colouring left
  pub verdicts-left : verdicts_left i o ≡ verdicts (plan_in i) o.colouring
  unfolding ran constraints_of
  verdicts-left =
      rw has_run
      (take_at (verdicts (plan_in i) (last_in i)) _ (verdicts_written i)
      (length-verdicts (plan_in i) (last_in i) (constraints_of i.constraints)
      ∙ rw (length-list_of (length i.constraints / constraint_length) (constraint_at i.constraints))))

  -- the work memory written is that of the colouring left
  pub work-left : work_left i o ≡ work (plan_in i) o.colouring
  unfolding ran
  work-left =
      let v = call_valid.plan in
      rw has_run (take_at (work (plan_in i) (last_in i)) _ (work_written i) (length-work v.limits (coloured-last i.moves v.coloured)))
