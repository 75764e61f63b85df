-- A list of moves that is cut between two moves and run as two calls gives what one call gives with all moves.
-- Assumes nothing.
use Rattle.std.specs.Prelude.{◌≡◌, ◌++◌}
use Rattle.std.proofs.Common.{ap, ◌∙◌}
use Rattle.meaning.specs.Moves.{moves_of, rows, last}
use Rattle.call.specs.Promise.{Input, Outcome, Promise, plan_in, moves_in}
use Rattle.demands.specs.MoveLists.{whole, moves_append, last-append, rows_append}
use Rattle.demands.specs.Calls.{same_plan, rows_left_by, verdicts_left, work_left, call_valid, colouring-left, first_total, last-total, rows_left}
use Rattle.demands.proofs.SumLaws.{same-last, same-verdicts, same-work}
use Rattle.demands.specs.Cutting.{Cut}

module _ {i j k : Input} {o q r : Outcome} (p : Promise i o) (z : o.answer.code ≡ 0) (p₁ : Promise j q) (z₁ : q.answer.code ≡ 0) (p₂ : Promise k r) (z₂ : r.answer.code ≡ 0) (c : Cut i j k q) where
  -- the moves of the one call are those of the two, in turn
  moves_cut : moves_in i ≡ moves_in j ++ moves_in k
  moves_cut =
      ap (moves_of (plan_in i)) c.moves
      ∙ moves_append (plan_in i) j.moves k.moves (whole j.moves (call_valid p₁ z₁).moves_whole)
      ∙ rw (← same_plan c.first_plan, ← same_plan c.second_plan)

  -- the second call starts from the colouring that the first part of the moves leads to
  second_start : k.colouring ≡ last i.colouring (moves_in j)
  second_start = c.goes_on ∙ colouring-left p₁ z₁ ∙ ap (λ col. last col (moves_in j)) c.start

  -- a list of moves cut in two and run as two calls ends on the colouring on which one call with all moves ends
  pub cut_colouring : o.colouring ≡ r.colouring
  cut_colouring =
      colouring-left p z
      ∙ ap (last i.colouring) moves_cut
      ∙ last-append i.colouring (moves_in j) (moves_in k)
      ∙ rw (colouring-left p₂ z₂, second_start)

  -- the rows of one call are those of the first of the two calls, and then those of the second
  pub cut_rows : rows_left_by i o ≡ rows_left_by j q ++ rows_left_by k r
  cut_rows =
      rows_left p z
      ∙ ap (rows (plan_in i) i.colouring) moves_cut
      ∙ rows_append (plan_in i) i.colouring (moves_in j) (moves_in k)
      ∙ rw (rows_left p₁ z₁, rows_left p₂ z₂, second_start, c.start, ← same_plan c.first_plan, ← same_plan c.second_plan)

  -- the verdicts of one call are those that the second of the two leaves
  pub cut_verdicts : verdicts_left i o ≡ verdicts_left k r
  cut_verdicts = same-verdicts p z p₂ z₂ c.second_plan cut_colouring

  -- the work memory of one call is the one that the second of the two leaves
  pub cut_work : work_left i o ≡ work_left k r
  cut_work = same-work p z p₂ z₂ c.second_plan cut_colouring

  -- the last total of one call is that of the second of the two
  pub cut_last : o.answer.last ≡ r.answer.last
  cut_last = same-last p z p₂ z₂ c.second_plan cut_colouring

  -- the first total of one call is that of the first of the two
  pub cut_first : o.answer.first ≡ q.answer.first
  cut_first = rw (first_total p z, first_total p₁ z₁, c.start, same_plan c.first_plan)

  -- the first total of the second call is the last total of the first
  pub cut_between : r.answer.first ≡ q.answer.last
  cut_between = rw (first_total p₂ z₂, last-total p₁ z₁, c.goes_on, ← same_plan c.first_plan, ← same_plan c.second_plan)
