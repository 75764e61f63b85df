-- Document 02, C-18, over the promise of the call: two calls, the one in new names for the sectors, answer alike and leave the same rows, verdicts, labels and T; component counts and workload sums move with their names.
-- Assumes nothing.
use Rattle.std.specs.Prelude.{ℕ, ◌≡◌, refl, cond, List, [], ◌∷◌, map, eqb, length}
use Rattle.std.proofs.Common.{sym, ap, ◌∙◌}
use Rattle.lists.specs.Sums.{In}
use Rattle.lists.specs.Tests.{cond_ap}
use Rattle.terms.specs.Moves.{move_of}
use Rattle.meaning.specs.Plan.{Plan, most_kind}
use Rattle.meaning.specs.Kinds.{total}
use Rattle.meaning.specs.Moves.{moves_of, verdicts}
use Rattle.meaning.specs.Names.{Renaming, renamed, renamed_move, renamed_second, renamed_moves}
use Rattle.meaning.proofs.NameLaws.{named_move}
use Rattle.meaning.proofs.Renamed.{labels-renamed, ncc-renamed, load-renamed, border-renamed, total-renamed, verdicts-renamed, rows-renamed, last-renamed}
use Rattle.refusals.specs.declared.Refusal.{Refusal}
use Rattle.refusals.specs.Table.{call_table, call_refusal}
use Rattle.refusals.specs.Renamed.{plan_renamed, room_renamed}
use Rattle.call.specs.declared.Answer.{Answer}
use Rattle.call.specs.Promise.{Input, Outcome, Promise, given, plan_in, moves_in, last_in, ran, refused_by, outcome}
use Rattle.demands.specs.MoveLists.{moves_cons}
use Rattle.demands.specs.Calls.{same_plan, rows_left_by, verdicts_left, rows_left, verdicts-left}
use Rattle.demands.specs.Work.{numbers_in, work-labels, work-counts, work-loads, work-border}
use Rattle.demands.specs.Renamed.{LeftAlike, Renamed}

-- ---- the parts of an outcome

-- an answer goes by the refusal and the two totals
answered : Refusal → ℕ → ℕ → Answer
answered r first last =
    cond (eqb r.code 0) (record { code = 0; place = 0; first = first; last = last }) (record { code = r.code; place = r.place; first = 0; last = 0 })

-- that of a call
answer_of : (i : Input) → (outcome i).answer ≡ answered (call_refusal (given i)) (total (plan_in i) i.colouring) (total (plan_in i) (last_in i))
unfolding outcome ran refused_by answered
answer_of i = cond_ap (λ (o : Outcome). o.answer) (eqb (call_refusal (given i)).code 0) (ran i) (refused_by i (call_refusal (given i)))

-- the colouring is the last one, or where the call is refused the one lent
colouring_of : (i : Input) → (outcome i).colouring ≡ cond (eqb (call_refusal (given i)).code 0) (last_in i) i.colouring
unfolding outcome ran refused_by
colouring_of i = cond_ap (λ (o : Outcome). o.colouring) (eqb (call_refusal (given i)).code 0) (ran i) (refused_by i (call_refusal (given i)))

-- ---- the moves

-- the numbers of moves in the new names ask for the moves in the new names
moves_renamed : (P : Plan) {p : ℕ → ℕ} → Renaming P.S p → (xs : List ℕ) → moves_of P (renamed_moves P.S p xs) ≡ map (renamed_move P.S p) (moves_of P xs)
unfolding renamed_moves moves_of
moves_renamed P r [] = refl
moves_renamed P r (kind ∷ []) = refl
moves_renamed P r (kind ∷ a ∷ []) = refl
moves_renamed P {p} r (kind ∷ a ∷ b ∷ xs) =
    moves_cons P kind a (renamed_second P.S p kind b) (renamed_moves P.S p xs)
    ∙ ap (λ m. m ∷ moves_of P (renamed_moves P.S p xs)) (named_move r P.R kind a b)
    ∙ ap (λ l. renamed_move P.S p (move_of P.R P.S kind a b) ∷ l) (moves_renamed P r xs)
    ∙ sym (ap (map (renamed_move P.S p)) (moves_cons P kind a b xs))

-- ---- the theorems

module _ {p : ℕ → ℕ} {i j : Input} (r : Renaming i.S p) (c : Renamed p i j) where
  -- what the two calls are refused for is the same
  refusal-renamed : call_refusal (given j) ≡ call_refusal (given i)
  unfolding call_refusal call_table
  refusal-renamed =
      let s = c.plan in
      rw (
        ← s.R,
        ← s.S,
        ← s.workloads,
        ← s.outside,
        ← s.edges,
        ← s.counts,
        ← s.visits,
        ← s.constraints,
        c.colouring,
        c.moves,
        c.rows,
        c.verdicts,
        c.work,
        plan_renamed most_kind i.R i.S i.workloads i.outside i.edges i.counts i.visits i.constraints i.colouring r,
        room_renamed i.R i.S i.constraints i.moves (length i.rows) (length i.verdicts) (length i.work) p,
      )

  -- the moves of the second are those of the first in the new names
  moves_in_lem : moves_in j ≡ map (renamed_move i.S p) (moves_in i)
  moves_in_lem = rw (← same_plan c.plan, c.moves) (moves_renamed (plan_in i) r i.moves)

  -- and so is its last colouring
  last_in_lem : last_in j ≡ renamed i.S p (last_in i)
  last_in_lem = rw (moves_in_lem, c.colouring) (last-renamed (plan_in i) r i.colouring (moves_in i))

  -- a colouring in the new names has the total on the second's plan that it has on the first's
  total_in : (col : List ℕ) → total (plan_in j) (renamed i.S p col) ≡ total (plan_in i) col
  total_in col = rw (← same_plan c.plan) (total-renamed (plan_in i) r col)

  module _ {o q : Outcome} (m : Promise i o) (n : Promise j q) where
    -- for every input, refusals included, the two calls give one answer: code, place and both totals
    pub answer_renamed : q.answer ≡ o.answer
    answer_renamed =
        n.answer
        ∙ answer_of j
        ∙ rw (refusal-renamed, last_in_lem, c.colouring, total_in i.colouring, total_in (last_in i)) (sym (answer_of i))
        ∙ sym m.answer

    -- and the colouring that the second leaves is the one that the first leaves, in the new names
    pub colouring-renamed : q.colouring ≡ renamed i.S p o.colouring
    colouring-renamed =
        n.colouring
        ∙ colouring_of j
        ∙ rw (refusal-renamed, last_in_lem, c.colouring) (sym (cond_ap (renamed i.S p) (eqb (call_refusal (given i)).code 0) (last_in i) i.colouring))
        ∙ ap (renamed i.S p) (sym (m.colouring ∙ colouring_of i))

    module _ (z : o.answer.code ≡ 0) where
      -- where the first is not refused, the second is not
      code-renamed : q.answer.code ≡ 0
      code-renamed = ap (λ a. a.code) answer_renamed ∙ z

      rows_in : rows_left_by j q ≡ rows_left_by i o
      rows_in =
          rows_left n code-renamed
          ∙ rw (moves_in_lem, ← same_plan c.plan, c.colouring) (rows-renamed (plan_in i) r i.colouring (moves_in i))
          ∙ sym (rows_left m z)

      verdicts_in : verdicts_left j q ≡ verdicts_left i o
      verdicts_in =
          verdicts-left n code-renamed
          ∙ ap (λ P. verdicts P q.colouring) (sym (same_plan c.plan))
          ∙ ap (verdicts (plan_in i)) colouring-renamed
          ∙ verdicts-renamed (plan_in i) r o.colouring
          ∙ sym (verdicts-left m z)

      label_in : (u : ℕ) → In i.R u → (numbers_in j q).label u ≡ (numbers_in i o).label u
      label_in u h =
          work-labels n code-renamed u (rw (← c.plan.R) h)
          ∙ rw (← c.plan.edges, colouring-renamed, labels-renamed (plan_in i) r o.colouring) (sym (work-labels m z u h))

      border_in : (numbers_in j q).border ≡ (numbers_in i o).border
      border_in =
          work-border n code-renamed
          ∙ rw (← same_plan c.plan, colouring-renamed, border-renamed (plan_in i) r o.colouring) (sym (work-border m z))

      components_in : (d : ℕ) → In i.S d → (numbers_in j q).components (p d) ≡ (numbers_in i o).components d
      components_in d h =
          work-counts n code-renamed (p d) (rw (← c.plan.S) (r.within d h))
          ∙ rw (← same_plan c.plan, colouring-renamed, ncc-renamed (plan_in i) r o.colouring d h) (sym (work-counts m z d h))

      workload_in : (d : ℕ) → In i.S d → (numbers_in j q).workload (p d) ≡ (numbers_in i o).workload d
      workload_in d h =
          work-loads n code-renamed (p d) (rw (← c.plan.S) (r.within d h))
          ∙ rw (← same_plan c.plan, colouring-renamed, load-renamed (plan_in i) r o.colouring d h) (sym (work-loads m z d h))

      -- names carry no weight: what is left is the same, and what a sector has moves with its name
      pub names_weightless : LeftAlike p i o j q
      names_weightless =
          record {
            rows = rows_in;
            verdicts = verdicts_in;
            label = label_in;
            border = border_in;
            components = components_in;
            workload = workload_in;
          }
