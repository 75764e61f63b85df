-- The deltas of the moves that a call makes, read out of its rows, sum to the last total minus the first: so two lists of moves that lead from one colouring to another have one sum.
-- Assumes nothing.
use Rattle.std.specs.Prelude.{ℕ, ◌≡◌, refl, Bool, true, false, cond, List, [], ◌∷◌, ◌++◌, ℤ, pos, ◌+ℤ◌, ◌-ℤ◌}
use Rattle.std.proofs.Common.{sym, ap, ◌∙◌}
use Rattle.terms.specs.Moves.{move_of}
use Rattle.terms.specs.declared.Move.{Move}
use Rattle.meaning.specs.Plan.{Plan}
use Rattle.meaning.specs.Kinds.{total}
use Rattle.meaning.specs.Moves.{made, next, moves_of, delta, row, cells, rows, last, verdicts}
use Rattle.meaning.proofs.MoveLaws.{made-total, not_made}
use Rattle.call.specs.Promise.{Input, Outcome, Promise, plan_in, moves_in, ran}
use Rattle.demands.specs.MoveLists.{Whole, whole, moves_cons}
use Rattle.demands.proofs.MoveNumberLaws.{made-numbers}
use Rattle.demands.specs.Calls.{SamePlan, same_plan, verdicts_left, work_left, call_valid, has_run, colouring-left, first_total, last-total, verdicts-left, work-left}
use Rattle.demands.specs.Sums.{made_deltas, made_sum}
use Rattle.std.proofs.Math.IntN.{+ℤ_assoc}
use Rattle.std.proofs.Math.IntN.{+ℤ_comm}
use Rattle.std.proofs.Math.IntN.{+ℤ_idl}
use Rattle.std.proofs.Math.IntN.{+ℤ-neg_ℤ_cancel}

-- ---- the numbers and the moves

-- what the numbers of moves and rows sum to is what the moves sum to
pub made-sum : (P : Plan) (col : List ℕ) (xs : List ℕ) (beyond : List ℤ) → Whole xs → made_sum xs (rows P col (moves_of P xs) ++ beyond) ≡ made_deltas P col (moves_of P xs)
unfolding made_sum made_deltas rows cells row moves_of
made-sum P col [] beyond w = refl
made-sum P col (kind ∷ a ∷ b ∷ xs) beyond w =
    let m = move_of P.R P.S kind a b in
    rw (moves_cons P kind a b xs, made-numbers P.R P.S kind a b, made-sum P (next col m) xs beyond w)
made-sum P col (kind ∷ []) beyond w = elim w [ ]
made-sum P col (kind ∷ (a ∷ [])) beyond w = elim w [ ]

-- ---- the sum and the totals

-- with the first total, the deltas of made moves make the last
pub made_deltas_lem : (P : Plan) (col : List ℕ) (ms : List Move) → made_deltas P col ms +ℤ pos (total P col) ≡ pos (total P (last col ms))
unfolding made_deltas last
made_deltas_lem P col [] = +ℤ_idl _
made_deltas_lem P col (m ∷ ms) =
    let d = cond (made m) (delta P col m) (pos 0) in
    let s = made_deltas P (next col m) ms in
    ap (λ x. x +ℤ pos (total P col)) (+ℤ_comm d s)
    ∙ +ℤ_assoc s d (pos (total P col))
    ∙ ap (λ x. s +ℤ x) (one (made m) refl)
    ∙ made_deltas_lem P (next col m) ms
  where
    one : (t : Bool) → made m ≡ t → cond t (delta P col m) (pos 0) +ℤ pos (total P col) ≡ pos (total P (next col m))
    one true e = made-total P col m e
    one false e = rw (not_made col m e) (+ℤ_idl _)

-- ---- one call

module _ {i : Input} {o : Outcome} (p : Promise i o) (z : o.answer.code ≡ 0) where
  -- the deltas that are read out of a call's rows are those of the moves that it makes
  pub sum_decoded : made_sum i.moves o.rows ≡ made_deltas (plan_in i) i.colouring (moves_in i)
  unfolding ran
  sum_decoded = rw (has_run p z) (made-sum (plan_in i) i.colouring i.moves _ (whole i.moves (call_valid p z).moves_whole))

  -- the deltas of a call's made moves sum to its last total minus its first
  pub sum_totals : made_sum i.moves o.rows ≡ pos o.answer.last -ℤ pos o.answer.first
  sum_totals =
      let s = made_deltas (plan_in i) i.colouring (moves_in i) in
      sum_decoded
      ∙ sym (+ℤ-neg_ℤ_cancel s (pos (total (plan_in i) i.colouring)))
      ∙ rw (first_total p z, last-total p z, colouring-left p z, made_deltas_lem (plan_in i) i.colouring (moves_in i))

-- ---- two calls

module _ {i j : Input} {o q : Outcome} (p : Promise i o) (z : o.answer.code ≡ 0) (p₁ : Promise j q) (z₁ : q.answer.code ≡ 0) (s : SamePlan i j) (end : o.colouring ≡ q.colouring) where
  -- two calls on one plan that end on one colouring end with one total
  pub same-last : o.answer.last ≡ q.answer.last
  same-last = rw (last-total p z, last-total p₁ z₁, end, same_plan s)

  -- two calls on one plan that end on one colouring leave the same verdicts
  pub same-verdicts : verdicts_left i o ≡ verdicts_left j q
  same-verdicts =
      verdicts-left p z ∙ ap (λ P. verdicts P o.colouring) (same_plan s) ∙ ap (verdicts (plan_in j)) end ∙ sym (verdicts-left p₁ z₁)

  -- two calls on one plan that end on one colouring leave the same work memory
  pub same-work : work_left i o ≡ work_left j q
  same-work = rw (work-left p z, work-left p₁ z₁, end, same_plan s)

  -- two calls on one plan that lead from one colouring to one colouring, whatever their moves, have one sum of the deltas of made moves
  pub same_sum : i.colouring ≡ j.colouring → made_sum i.moves o.rows ≡ made_sum j.moves q.rows
  same_sum start =
      rw (sum_totals p z, sum_totals p₁ z₁, same-last, first_total p z, first_total p₁ z₁, start, same_plan s)
