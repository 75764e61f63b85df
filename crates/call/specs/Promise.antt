-- Document 01, "The call and what it refuses", and document 02, C-11 and C-12: what a call answers and what it leaves in the lent memory.
-- Assumes nothing.
use Rattle.std.specs.Prelude.{ℕ, ◌+◌, ◌*◌, ◌/◌, ◌≡◌, cond, List, ◌++◌, eqb, ℤ, length, drop}
use Rattle.std.proofs.Common.{sym, ◌∙◌}
use Rattle.terms.specs.declared.Move.{Move}
use Rattle.meaning.specs.Plan.{Plan, plan_of, constraint_length}
use Rattle.meaning.specs.declared.Lists.{Lists}
use Rattle.meaning.specs.Kinds.{total}
use Rattle.meaning.specs.Moves.{move_length, row_length, verdict_length, moves_of, rows, last, verdicts, work}
use Rattle.refusals.specs.declared.Refusal.{Refusal}
use Rattle.refusals.specs.Table.{Given, call_refusal}
use Rattle.call.specs.declared.Answer.{Answer}

-- all that a call is given
pub record Input : Type 0 where
  pub R : ℕ
  pub S : ℕ
  pub workloads : List ℕ
  pub outside : List ℕ
  pub edges : List ℕ
  pub counts : List ℕ
  pub visits : List ℕ
  pub constraints : List ℕ
  pub colouring : List ℕ
  pub moves : List ℕ
  pub rows : List ℤ
  pub verdicts : List ℕ
  pub work : List ℕ

-- all that a caller sees when the call is over: the answer, and the lent memory
pub record Outcome : Type 0 where
  pub answer : Answer
  pub colouring : List ℕ
  pub rows : List ℤ
  pub verdicts : List ℕ
  pub work : List ℕ

-- what its refusal looks at: of the memory that a call only writes, the room
abbrev pub given : Input → Given
given i =
    record {
      R = i.R;
      S = i.S;
      workloads = i.workloads;
      outside = i.outside;
      edges = i.edges;
      counts = i.counts;
      visits = i.visits;
      constraints = i.constraints;
      colouring = i.colouring;
      moves = i.moves;
      rows = length i.rows;
      verdicts = length i.verdicts;
      work = length i.work;
    }

abbrev pub plan_in : Input → Plan
plan_in i = plan_of i.R i.S i.workloads i.outside i.edges i.counts i.visits i.constraints

abbrev pub moves_in : Input → List Move
moves_in i = moves_of (plan_in i) i.moves

-- the colouring that the moves lead to
abbrev pub last_in : Input → List ℕ
last_in i = last i.colouring (moves_in i)

-- a refused call answers code and place, and changes nothing
unfoldable pub refused_by : Input → Refusal → Outcome
refused_by i r =
    record {
      answer = record { code = r.code; place = r.place; first = 0; last = 0 };
      colouring = i.colouring;
      rows = i.rows;
      verdicts = i.verdicts;
      work = i.work;
    }

-- a call that is not refused runs the moves: rows, verdicts and work memory stand at the front of what was lent, and all beyond is as it was
unfoldable pub ran : Input → Outcome
ran i =
    record {
      answer = record { code = 0; place = 0; first = total (plan_in i) i.colouring; last = total (plan_in i) (last_in i) };
      colouring = last_in i;
      rows = rows (plan_in i) i.colouring (moves_in i) ++ drop (row_length * (length i.moves / move_length)) i.rows;
      verdicts = verdicts (plan_in i) (last_in i) ++ drop (verdict_length * (length i.constraints / constraint_length)) i.verdicts;
      work = work (plan_in i) (last_in i) ++ drop (i.R + 2 * i.S + 1) i.work;
    }

-- the one outcome of a call
unfoldable pub outcome : Input → Outcome
outcome i = cond (eqb (call_refusal (given i)).code 0) (ran i) (refused_by i (call_refusal (given i)))

-- what a call promises: the answer, and each lent list as the call leaves it
pub record Promise (i : Input) (o : Outcome) : Type 0 where
  pub answer : o.answer ≡ (outcome i).answer
  pub colouring : o.colouring ≡ (outcome i).colouring
  pub rows : o.rows ≡ (outcome i).rows
  pub verdicts : o.verdicts ≡ (outcome i).verdicts
  pub work : o.work ≡ (outcome i).work

-- an outcome that meets the promise is that outcome
pub is_outcome : {i : Input} {o : Outcome} → Promise i o → o ≡ outcome i
is_outcome p = rw (← p.answer, ← p.colouring, ← p.rows, ← p.verdicts, ← p.work)

-- for every input, refusals included, the promise leaves one answer and one content of the lent memory
pub unique : {i : Input} {o o' : Outcome} → Promise i o → Promise i o' → o ≡ o'
unique p q = is_outcome p ∙ sym (is_outcome q)

-- an input and an outcome from their parts
abbrev pub input : ℕ → ℕ → List ℕ → List ℕ → List ℕ → List ℕ → List ℕ → List ℕ → List ℕ → List ℕ → List ℤ → List ℕ → List ℕ → Input
input R S workloads outside edges counts visits constraints colouring moves rows verdicts work =
    record {
      R = R;
      S = S;
      workloads = workloads;
      outside = outside;
      edges = edges;
      counts = counts;
      visits = visits;
      constraints = constraints;
      colouring = colouring;
      moves = moves;
      rows = rows;
      verdicts = verdicts;
      work = work;
    }

-- and with the lists of the plan as they are lent
abbrev pub input_by : ℕ → Lists → List ℕ → List ℕ → List ℤ → List ℕ → List ℕ → Input
input_by R l = input R l.sectors l.workloads.now l.outside.now l.edges.now l.counts.now l.visits.now l.constraints.now

abbrev pub left : Answer → List ℕ → List ℤ → List ℕ → List ℕ → Outcome
left answer colouring rows verdicts work =
    record { answer = answer; colouring = colouring; rows = rows; verdicts = verdicts; work = work }
