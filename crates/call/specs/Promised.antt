-- The promise, from the two ways through the call.
-- Assumes nothing.
use Rattle.std.specs.Prelude.{ℕ, suc, ◌+◌, ◌*◌, ◌≤◌, ◌≡◌, refl, List, ◌++◌, ℤ, length, drop, set}
use Rattle.std.proofs.Common.{add-one, arith, sym, ap, ◌∙◌, drop-cons}
use borrow.Author.Tests.{eq-eqb, ne_eqb}
use Rattle.std.proofs.lemmas.List.{set_at}
use Rattle.std.proofs.Math.Seq.{append_snoc}
use Rattle.meaning.specs.Plan.{Plan}
use Rattle.meaning.specs.Kinds.{border}
use Rattle.meaning.specs.Moves.{row_length, verdict_length, rows, last, work}
use Rattle.refusals.specs.declared.Refusal.{Refusal}
use Rattle.refusals.specs.Table.{Given, call_refusal}
use Rattle.refusals.specs.Valid.{Valid, valid}
use Rattle.judge.specs.Figures.{figures_of, constraint_count}
use Rattle.engine.specs.State.{memory, memory_length, Opened}
use Rattle.engine.specs.Opening.{second_part}
use Rattle.engine.specs.declared.Standing.{Standing}
use Rattle.turns.specs.StateLaws.{memory-length, opened_beyond, opened_ready}
use Rattle.turns.specs.Taken.{move_count, coloured-last, moved_ready}
use Rattle.call.specs.Promise.{Input, Outcome, given, plan_in, moves_in, last_in, refused_by, ran, outcome, Promise, left}
use Rattle.call.specs.Concluding.{concluded, ready_concluded}

-- T, put down after the front of the work memory, makes the work memory of the colouring
work-put : (P : Plan) (col w : List ℕ) → length (memory P col) ≡ memory_length P → memory_length P + 1 ≤ length w
    → set (memory P col ++ drop (memory_length P) w) (memory_length P) (border P col) ≡ work P col ++ drop (memory_length P + 1) w
unfolding memory work
work-put P col w size room =
    rw (drop-cons w (memory_length P) 0 (omega arith), set_at (memory P col) _ (drop (suc (memory_length P)) w) (border P col) (memory_length P) size, add-one (memory_length P), append_snoc)

-- the place of T in the work memory, as the call has it
abbrev pub border_at : ℕ → ℕ → ℕ
border_at R S = R + S + S

-- where the colouring is judged, all moves are taken, and the rows, the verdicts and T are put down, all is done that is asked of a call
pub ran_by : (i : Input) → Valid (given i)
    → {c1 w1 ps1 : List ℕ} {s1 : Standing} → Opened (plan_in i) i.colouring i.work c1 w1 ps1 s1
    → {c2 w2 ps2 : List ℕ} {s2 : Standing} → Opened (plan_in i) (last c1 (moves_in i)) w1 c2 w2 ps2 s2
    → {rs : List ℤ} → rs ≡ rows (plan_in i) c1 (moves_in i) ++ drop (row_length * move_count i.moves) i.rows
    → {vs : List ℕ} → vs ≡ concluded i.constraints i.counts i.visits (second_part i.R i.S w2) c2 s2.figures ++ drop (verdict_length * constraint_count i.constraints) i.verdicts
    → left (record { code = 0; place = 0; first = s1.total; last = s2.total }) c2 rs vs (set w2 (border_at i.R i.S) s2.figures.border) ≡ ran i
unfolding ran figures_of
ran_by i v {w1 = w1} o {c2} {w2} {ps2} {s2} q p d =
    let l = v.plan.limits in
    let k = v.plan.coloured in
    let z : Opened (plan_in i) (last_in i) w1 c2 w2 ps2 s2 = rw o.colouring at q in
    let e : border_at i.R i.S ≡ memory_length (plan_in i) = omega arith in
    let ready = moved_ready i.moves l (opened_ready l k o (omega (arith, v.work_room))) q in
    rw (
      p,
      d,
      ready_concluded l ready i.constraints refl i.counts i.visits refl,
      e,
      z.standing,
      z.colouring,
      z.work,
      opened_beyond l k o,
      o.standing,
      o.colouring,
      work-put (plan_in i) (last_in i) i.work (memory-length l (coloured-last i.moves k)) v.work_room,
    )

-- ---- the two ways

-- the one outcome keeps the promise
kept_promise : {i : Input} {o : Outcome} → o ≡ outcome i → Promise i o
kept_promise h = rw h (record { answer = refl; colouring = refl; rows = refl; verdicts = refl; work = refl })

module _ {g : Given} {f : Refusal} (e : f ≡ call_refusal g) where
  -- where nothing is refused, the call is valid
  pub valid_here : f.code ≡ 0 → Valid g
  valid_here z = valid g (ap (λ r. r.code) (sym e) ∙ z)

module _ {i : Input} {f : Refusal} (e : f ≡ call_refusal (given i)) where
  -- where all is done that is asked of the call, the promise is kept
  pub promise_ran : f.code ≡ 0 → {o : Outcome} → o ≡ ran i → Promise i o
  unfolding outcome
  promise_ran z h = kept_promise (h ∙ rw (← e, eq-eqb f.code 0 z))

  -- where a refusal is answered, and nothing is touched, the promise is kept
  pub promise_refused : (f.code ≡ 0 → ⊥) → Promise i (left (record { code = f.code; place = f.place; first = 0; last = 0 }) i.colouring i.rows i.verdicts i.work)
  unfolding outcome refused_by
  promise_refused n = kept_promise (rw (← e, ne_eqb f.code 0 n))
