-- Document 01: "the constraint list is also taken as a lent list of records, with the same answers".
-- Assumes nothing.
use Rattle.std.specs.Prelude.{ℕ, ◌≡◌, ℤ, length}
use mathlib.Core.List.{List, []}
use borrow.Author.Tests.{ne_eqb}
use Rattle.meaning.specs.Plan.{most_kind, no_outside}
use Rattle.refusals.specs.Table.{call_table, call_refusal, plan_refusal}
use Rattle.call.specs.Promise as call
use Rattle.form.specs.declared.Form.TheVariants.{First}
use Rattle.form.specs.Form.{kind_count}
use Rattle.writing.specs.Promise as writing
use Rattle.records.specs.declared.Constraint.{Constraint}
use Rattle.records.specs.Numbers.{numbers_of}
use Rattle.records.specs.TooMany.{TooMany, plan_refused, table_alike}
use Rattle.records.specs.Copied.{array_of, front}
use Rattle.records.proofs.CopiedLaws.{front_same}

-- ---- the call

module _ (R S : ℕ) (workloads outside edges counts visits colouring moves : List ℕ) (rows : List ℤ) (verdicts work : List ℕ) where
  -- what the call is given, with these constraint numbers
  abbrev judging : List ℕ → call.Input
  judging numbers = call.input R S workloads outside edges counts visits numbers colouring moves rows verdicts work

  -- on a list of too many constraints the call has the same outcome whatever their numbers are
  pub outcome-alike : (xs ys : List ℕ) → TooMany xs → TooMany ys → call.outcome (judging xs) ≡ call.outcome (judging ys)
  unfolding call_table call_refusal call.outcome call.refused_by
  outcome-alike xs ys h k =
      rw (
        table_alike most_kind R S workloads outside edges counts visits colouring xs ys _ h k,
        table_alike most_kind R S workloads outside edges counts visits colouring ys ys _ k k,
        ne_eqb (plan_refusal most_kind R S workloads outside edges counts visits ys colouring).code 0 (plan_refused most_kind R S workloads outside edges counts visits colouring ys k),
      )

  -- where the call keeps its promise on the front of an array of records, it keeps it on their numbers
  pub judged-front : (constraints : List Constraint) (array : List ℕ) {o : call.Outcome} → array ≡ array_of constraints
      → call.Promise (judging (front (length constraints) array)) o → call.Promise (judging (numbers_of constraints)) o
  judged-front constraints array a p =
      let e = front_same (λ numbers. call.outcome (judging numbers)) outcome-alike constraints in
      let q = rw a at p in
      record {
        answer = rw (← e) q.answer;
        colouring = rw (← e) q.colouring;
        rows = rw (← e) q.rows;
        verdicts = rw (← e) q.verdicts;
        work = rw (← e) q.work;
      }

  -- for a list of records and the list of its numbers both promises of the call are the same: one answer, and one content of the lent memory
  pub judged-same : (constraints : List Constraint) (numbers : List ℕ) → numbers ≡ numbers_of constraints
      → {o o' : call.Outcome} → call.Promise (judging numbers) o → call.Promise (judging (numbers_of constraints)) o' → o ≡ o'
  judged-same constraints numbers e p q = call.unique (rw e at p) q

  -- for every list of records, refusals included, the promise leaves one answer and one content of the lent memory
  pub judged_unique : (constraints : List Constraint) {o o' : call.Outcome} → call.Promise (judging (numbers_of constraints)) o → call.Promise (judging (numbers_of constraints)) o' → o ≡ o'
  judged_unique constraints = call.unique

-- ---- writing a first sheet

module _ (R S : ℕ) (workloads edges colouring lent : List ℕ) where
  -- the outcome of writing with these constraint numbers
  abbrev written : List ℕ → writing.Outcome
  written numbers = writing.outcome First (writing.plain R S workloads edges numbers colouring) lent

  -- on a list of too many constraints writing has the same outcome whatever their numbers are
  pub written-alike : (xs ys : List ℕ) → TooMany xs → TooMany ys → written xs ≡ written ys
  unfolding writing.write_refusal writing.outcome
  written-alike xs ys h k =
      rw (
        table_alike (kind_count First) R S workloads (no_outside R) edges [] [] colouring xs ys _ h k,
        table_alike (kind_count First) R S workloads (no_outside R) edges [] [] colouring ys ys _ k k,
        ne_eqb (plan_refusal (kind_count First) R S workloads (no_outside R) edges [] [] ys colouring).code 0 (plan_refused (kind_count First) R S workloads (no_outside R) edges [] [] colouring ys k),
      )

  -- where writing keeps its promise on the front of an array of records, it keeps it on their numbers
  pub written-front : (constraints : List Constraint) (array : List ℕ) {o : writing.Outcome} → array ≡ array_of constraints
      → writing.Promise First (writing.plain R S workloads edges (front (length constraints) array) colouring) lent o → writing.Promise First (writing.plain R S workloads edges (numbers_of constraints) colouring) lent o
  written-front constraints array a p =
      let e = front_same written written-alike constraints in
      let q = rw a at p in
      record { answer = rw (← e) q.answer; sheet = rw (← e) q.sheet }

  -- for a list of records and the list of its numbers both promises of writing are the same: one answer, and one content of the lent bytes
  pub written_same : (constraints : List Constraint) (numbers : List ℕ) → numbers ≡ numbers_of constraints
      → {o o' : writing.Outcome} → writing.Promise First (writing.plain R S workloads edges numbers colouring) lent o → writing.Promise First (writing.plain R S workloads edges (numbers_of constraints) colouring) lent o' → o ≡ o'
  written_same constraints numbers e p q = writing.unique (rw e at p) q

  -- for every list of records, refusals included, the promise leaves one answer and one content of the lent bytes
  pub written_unique : (constraints : List Constraint) {o o' : writing.Outcome} → writing.Promise First (writing.plain R S workloads edges (numbers_of constraints) colouring) lent o
      → writing.Promise First (writing.plain R S workloads edges (numbers_of constraints) colouring) lent o' → o ≡ o'
  written_unique constraints = writing.unique
