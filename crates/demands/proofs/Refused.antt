-- A refused move changes no colour and the list goes on: the rows after it are those of the moves after it, and the list without it gives the other rows and the same colouring.
-- Assumes nothing.
use Rattle.std.specs.Prelude.{ℕ, suc, ◌*◌, ◌<◌, ◌≡◌, refl, ◌≢◌, ℤ, length, take, drop}
use Rattle.std.proofs.Common.{arith, ◌∙◌, length-append, take_at, drop_at}
use Rattle.std.proofs.Math.Path.{sym, ap}
use mathlib.Core.List.{List, ◌∷◌, ◌++◌, append_assoc}
use Rattle.std.proofs.Math.IntN.{pos}
use Rattle.terms.specs.Moves.{status}
use Rattle.terms.specs.declared.Move.{Move}
use Rattle.terms.specs.declared.Move.TheVariants.{Recolour, Exchange, Ask, Refused}
use Rattle.meaning.specs.Plan.{Plan}
use Rattle.meaning.specs.Moves.{move_length, row_length, move_at, moves_of, next, row, cells, rows, last}
use Rattle.meaning.proofs.MoveLaws.{length-rows, length_moves, length-cells}
use Rattle.call.specs.Promise.{Input, Outcome, Promise, plan_in}
use Rattle.turns.specs.Taken.{move_count}
use Rattle.demands.specs.MoveLists.{moves_at, moves_append, whole_before, length_before, last-append, rows_append}
use Rattle.demands.specs.Calls.{SamePlan, same_plan, rows_left_by, colouring-left, rows_left}
use Rattle.demands.specs.Rows.{colouring_at, row_left}
use Rattle.demands.proofs.RowLaws.{row_of_move, colouring-next}

-- a move that has a status leads nowhere
next-refused : (col : List ℕ) (m : Move) → status m ≢ 0 → next col m ≡ col
unfolding next
next-refused col (Recolour make v c) ne = absurd (ne refl)
next-refused col (Exchange make a b) ne = absurd (ne refl)
next-refused col (Ask v) ne = refl
next-refused col (Refused s) ne = refl

module _ {i : Input} {o : Outcome} (p : Promise i o) (z : o.answer.code ≡ 0) (k : ℕ) (h : k < move_count i.moves) (ne : (row_left o k).status ≢ pos 0) where
  abbrev P : Plan
  P = plan_in i

  -- the moves before it, and those after it
  abbrev before : List Move
  before = moves_of P (take (move_length * k) i.moves)

  abbrev after : List Move
  after = moves_of P (drop (move_length * suc k) i.moves)

  -- it leads nowhere
  stays : next (colouring_at i k) (move_at P i.moves k) ≡ colouring_at i k
  unfolding row
  stays = next-refused (colouring_at i k) (move_at P i.moves k) (λ e. ne (ap (λ r. r.status) (row_of_move p z k h) ∙ ap pos e))

  -- a refused move changes no colour
  pub refused-colouring : colouring_at i (suc k) ≡ colouring_at i k
  refused-colouring = colouring-next p z k h ∙ stays

  -- the rows written are those of the moves before it, its own, and those of the moves after it on the colouring that it finds
  rows_around : rows_left_by i o ≡ rows P i.colouring before ++ cells (row P (colouring_at i k) (move_at P i.moves k)) ++ rows P (colouring_at i k) after
  unfolding rows colouring_at
  rows_around =
      rows_left p z
      ∙ ap (rows P i.colouring) (moves_at P i.moves k h)
      ∙ rows_append P i.colouring before (move_at P i.moves k ∷ after)
      ∙ rw (stays, append_assoc (rows P i.colouring before))

  -- the colouring left is the one that the moves after it lead to from there
  left_after : o.colouring ≡ last (colouring_at i k) after
  unfolding last colouring_at
  left_after =
      colouring-left p z
      ∙ ap (last i.colouring) (moves_at P i.moves k h)
      ∙ last-append i.colouring before (move_at P i.moves k ∷ after)
      ∙ ap (λ col. last col after) stays

  -- there are four numbers for each move before it
  length-rows-before : length (rows P i.colouring before) ≡ row_length * k
  length-rows-before = omega (arith, length-rows P i.colouring before, length_moves P (take (move_length * k) i.moves), length_before P i.moves k h)

  -- the rows before it
  rows_before : take (row_length * k) (rows_left_by i o) ≡ rows P i.colouring before
  rows_before =
      ap (take (row_length * k)) (rows_around ∙ append_assoc (rows P i.colouring before) _ _)
      ∙ take_at (rows P i.colouring before) _ (row_length * k) length-rows-before

  -- the rows after it
  rows-after : drop (row_length * suc k) (rows_left_by i o) ≡ rows P (colouring_at i k) after
  rows-after =
      let own = cells (row P (colouring_at i k) (move_at P i.moves k)) in
      ap (drop (row_length * suc k)) rows_around
      ∙ drop_at (rows P i.colouring before ++ own) _ (row_length * suc k)
      (omega (arith, length-append (rows P i.colouring before) own, length-rows-before, length-cells (row P (colouring_at i k) (move_at P i.moves k))))

  module _ {j : Input} {q : Outcome} (p₁ : Promise j q) (z₁ : q.answer.code ≡ 0) (s : SamePlan i j) where
    module _ (start : j.colouring ≡ colouring_at i k) (rest : j.moves ≡ drop (move_length * suc k) i.moves) where
      -- the list goes on: the rows after a refused move are those of a call with the moves after it, on the colouring before it
      pub refused_rest : drop (row_length * suc k) (rows_left_by i o) ≡ rows_left_by j q
      refused_rest = rows-after ∙ rw (rows_left p₁ z₁, start, rest, same_plan s)

      -- and both leave the same colouring
      pub refused_rest_colouring : o.colouring ≡ q.colouring
      refused_rest_colouring = left_after ∙ rw (colouring-left p₁ z₁, start, rest, same_plan s)

    module _ (start : j.colouring ≡ i.colouring) (without : j.moves ≡ take (move_length * k) i.moves ++ drop (move_length * suc k) i.moves) where
      -- the moves of the list without it
      moves_without : moves_of (plan_in j) j.moves ≡ before ++ after
      moves_without =
          rw (without, ← same_plan s) (moves_append P (take (move_length * k) i.moves) (drop (move_length * suc k) i.moves) (whole_before P i.moves k h))

      -- the list without a refused move gives the other rows
      pub refused_without : rows_left_by j q ≡ take (row_length * k) (rows_left_by i o) ++ drop (row_length * suc k) (rows_left_by i o)
      unfolding colouring_at
      refused_without =
          rows_left p₁ z₁
          ∙ rw (moves_without, start, ← same_plan s, rows_append P i.colouring before after, rows_before, rows-after)

      -- and leaves the same colouring
      pub refused_without_colouring : q.colouring ≡ o.colouring
      unfolding colouring_at
      refused_without_colouring =
          colouring-left p₁ z₁
          ∙ rw (moves_without, start) (last-append i.colouring before after)
          ∙ sym left_after
