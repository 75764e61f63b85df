-- A list of moves taken in turn: what stands, and which rows are put down, after some of them.
-- Assumes nothing.
use Rattle.std.specs.Prelude.{ℕ, ◌+◌, ◌*◌, ◌/◌, ◌≤◌, ◌<◌, ◌≡◌, refl, List, [], ◌∷◌, ◌++◌, ℤ, drop}
use Rattle.std.proofs.Common.{zero-add, add-one, arith, ◌∙◌, take-append-drop}
use Rattle.std.proofs.Math.Path.{sym}
use Rattle.std.proofs.Math.ListN.{length, drop_of_length-le}
use Rattle.std.proofs.lemmas.List.Edits.{sets, sets-eq}
use Rattle.lists.specs.Sums.{Every}
use Rattle.lists.specs.ListLaws.{sets_append, drop-list_of, every_list_of}
use Rattle.terms.specs.declared.Move.{Move}
use Rattle.meaning.specs.Plan.{Plan, Limits, Coloured}
use Rattle.meaning.specs.Moves.{move_length, row_length, move_at, moves_of, next, row, cells, rows, last}
use Rattle.meaning.proofs.MoveLaws.{length-cells, length-rows, length_moves}
use Rattle.engine.specs.State.{memory_length, Ready, Within, Opened}
use Rattle.turns.specs.StateLaws.{opened_beyond, opened_ready}
use Rattle.turns.specs.Decoded.{move_within, coloured-next}
use Rattle.engine.specs.declared.Standing.{Standing}

-- ---- the moves of a flat list

-- how many moves a flat list has
abbrev pub move_count : List ℕ → ℕ
move_count xs = length xs / move_length

-- the moves from index k on: move k, and those after it
next_move : (P : Plan) (xs : List ℕ) (k : ℕ) → k < move_count xs → drop k (moves_of P xs) ≡ move_at P xs k ∷ drop (k + 1) (moves_of P xs)
unfolding moves_of
next_move P xs k h = rw (add-one k, drop-list_of (move_count xs) (move_at P xs) k h)

-- every move of the list is one of the plan
moves_within : (P : Plan) (xs : List ℕ) → Every (Within P) (moves_of P xs)
unfolding moves_of
moves_within P xs = every_list_of (Within P) (move_count xs) (move_at P xs) (λ k h. move_within P _ _ _)

-- after moves of the plan each region has a sector
every_coloured : (P : Plan) (ms : List Move) (col : List ℕ) → Every (Within P) ms → Coloured P col → Coloured P (last col ms)
unfolding last
every_coloured P [] col i k = k
every_coloured P (m ∷ ms) col i k = every_coloured P ms (next col m) i.1 (coloured-next P col k m i.0)

-- after all moves of a flat list each region has a sector
pub coloured-last : {P : Plan} {col : List ℕ} (xs : List ℕ) → Coloured P col → Coloured P (last col (moves_of P xs))
coloured-last {P} {col} xs k = every_coloured P (moves_of P xs) col (moves_within P xs) k

-- where all is ready, and all moves of a flat list are taken, all is ready again
pub moved_ready : {P : Plan} {col w ps : List ℕ} {s : Standing} (xs : List ℕ) → Limits P → Ready P col w ps s
    → {col' w' ps' : List ℕ} {s' : Standing} → Opened P (last col (moves_of P xs)) w col' w' ps' s' → Ready P col' w' ps' s'
moved_ready xs l r o = opened_ready l (coloured-last xs r.coloured) o r.room

-- ---- some of the moves

-- after the moves before index k: all is ready, and the moves that are left lead to the last colouring and, with their rows put down from row k on, to the rows of all
pub record Taken (P : Plan) (xs : List ℕ) (col₀ w₀ : List ℕ) (rs₀ : List ℤ) (k : ℕ) (col w ps : List ℕ) (s : Standing) (rs : List ℤ) : Type 0 where
  pub ready : Ready P col w ps s
  pub beyond : drop (memory_length P) w ≡ drop (memory_length P) w₀
  pub last : last col (drop k (moves_of P xs)) ≡ last col₀ (moves_of P xs)
  pub rows : sets rs (row_length * k) (rows P col (drop k (moves_of P xs))) ≡ rows P col₀ (moves_of P xs) ++ drop (row_length * move_count xs) rs₀

module _ {P : Plan} {xs : List ℕ} {col₀ w₀ : List ℕ} {rs₀ : List ℤ} where
  -- before the first move
  pub taken_start : {ps : List ℕ} {s : Standing} → Ready P col₀ w₀ ps s → row_length * move_count xs ≤ length rs₀ → Taken P xs col₀ w₀ rs₀ 0 col₀ w₀ ps s rs₀
  taken_start r room =
      let e : length (rows P col₀ (moves_of P xs)) ≡ row_length * move_count xs = length-rows P col₀ (moves_of P xs) ∙ rw (length_moves P xs) in
      record {
        ready = r;
        beyond = refl;
        last = refl;
        rows = sets-eq (rows P col₀ (moves_of P xs)) rs₀ 0 (omega arith) ∙ rw (zero-add, e);
      }

  module _ {k : ℕ} {col w ps : List ℕ} {s : Standing} {rs : List ℤ} (t : Taken P xs col₀ w₀ rs₀ k col w ps s rs) where
    -- one move more, and its row
    pub taken_turn : {col' w' ps' : List ℕ} {s' : Standing} {rs' : List ℤ} → Limits P → k < move_count xs → Opened P (next col (move_at P xs k)) w col' w' ps' s'
        → rs' ≡ sets rs (row_length * k) (cells (row P col (move_at P xs k))) → Taken P xs col₀ w₀ rs₀ (k + 1) col' w' ps' s' rs'
    unfolding last rows
    taken_turn {rs' = rs'} l h o p =
        let m = move_at P xs k in
        let c = coloured-next P col t.ready.coloured m (move_within P _ _ _) in
        let d = next_move P xs k h in
        let e : row_length * (k + 1) ≡ row_length * k + length (cells (row P col m)) = omega (arith, length-cells (row P col m)) in
        record {
          ready = opened_ready l c o t.ready.room;
          beyond = opened_beyond l c o ∙ t.beyond;
          last = rw o.colouring (rw d at t.last);
          rows = rw (o.colouring, p, e, ← sets_append rs (row_length * k) (cells (row P col m))) (rw d at t.rows);
        }

    -- after the last move: all stands as a first judgement of the last colouring would leave it, and the rows are put down
    pub taken_end : move_count xs ≤ k → Opened P (last col₀ (moves_of P xs)) w₀ col w ps s × (rs ≡ rows P col₀ (moves_of P xs) ++ drop (row_length * move_count xs) rs₀)
    unfolding last rows
    taken_end h =
        let d = drop_of_length-le (moves_of P xs) {i = k} (rw (length_moves P xs) h) in
        let c : col ≡ last col₀ (moves_of P xs) = rw d at t.last in (
          rw (← c)
              (record {
                colouring = refl;
                work = sym (take-append-drop (memory_length P) w) ∙ rw (t.ready.work, t.beyond);
                prices = t.ready.prices;
                standing = t.ready.standing;
              }),
          rw d at t.rows,
        )
