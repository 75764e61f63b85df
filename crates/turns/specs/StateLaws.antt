-- What a judgement leaves is what the next move finds, and what a move remembers the one after it.
-- Assumes nothing.
use Rattle.std.specs.Prelude.{ℕ, ◌+◌, ◌≤◌, ◌≡◌, List, ◌++◌, length, drop, replicate}
use native.Mathlib.Omega.{arith}
use Rattle.std.proofs.Common.{ap, ◌∙◌, take_at, drop_at}
use Rattle.std.proofs.Math.ListN.{length-append}
use Rattle.terms.specs.declared.Move.{Move}
use Rattle.meaning.specs.Plan.{Edge, Plan, Limits, Coloured, most_regions, most_sectors}
use Rattle.meaning.specs.Joined.{labels}
use Rattle.meaning.specs.Kinds.{counts, loads}
use Rattle.meaning.specs.Moves.{next}
use Rattle.meaning.proofs.Labels.{plan_labels}
use Rattle.meaning.proofs.Components.{counts-length, loads-length}
use Rattle.search.specs.Remembered.{Remembered, remembered_none}
use Rattle.engine.specs.State.{memory, memory_length, Setting, Ready, Opened, Answered}
use Rattle.engine.specs.declared.Standing.{Standing}
use Rattle.engine.specs.declared.Stepped.{Stepped}

-- what no move changes holds with any queue of that length
pub setting_queue : {P : Plan} {W : ℕ} {start near areas q q' : List ℕ} → Setting P W start near areas q → length q' ≡ length q → Setting P W start near areas q'
setting_queue s e = record { limits = s.limits; table = s.table; whole = s.whole; queue = omega (arith, s.queue) }

module _ {P : Plan} {col : List ℕ} (l : Limits P) (k : Coloured P col) where
  -- R labels, S component counts and S workload sums
  pub memory-length : length (memory P col) ≡ memory_length P
  unfolding memory
  memory-length =
      omega (
        arith,
        length-append (labels P.edges col ++ counts P col) (loads P col),
        length-append (labels P.edges col) (counts P col),
        (plan_labels l col k.size).size,
        k.size,
        counts-length P col,
        loads-length P col,
      )

  module _ {w col' w' ps' : List ℕ} {s : Standing} (o : Opened P col w col' w' ps' s) where
    -- what lies beyond the front of the work memory stays
    pub opened_beyond : drop (memory_length P) w' ≡ drop (memory_length P) w
    opened_beyond = ap (drop (memory_length P)) o.work ∙ drop_at (memory P col) (drop (memory_length P) w) (memory_length P) memory-length

    -- all is ready for a move
    pub opened_ready : memory_length P ≤ length w → Ready P col' w' ps' s
    opened_ready room =
        rw o.colouring
        (record {
          coloured = k;
          room = omega (arith, ap length o.work, length-append (memory P col) (drop (memory_length P) w), memory-length);
          work = rw o.work (take_at (memory P col) (drop (memory_length P) w) (memory_length P) memory-length);
          prices = o.prices;
          standing = o.standing;
        })

-- after a move all stands as a first judgement of the colouring after it would leave it
pub answered_opened : {P : Plan} {col w : List ℕ} {asked : Move} {col' w' ps' : List ℕ} {r : Stepped} → Answered P col w asked col' w' ps' r
    → {m : Move} → asked ≡ m → Opened P (next col m) w col' w' ps' r.standing
answered_opened a e =
    rw (← e) (record { colouring = a.colouring; work = a.work; prices = a.prices; standing = a.standing })

-- before the first move no pieces are remembered
pub remembered_start : {P : Plan} {col : List ℕ} → Limits P → Coloured P col → Remembered P.R P.S P.edges col 0 (replicate (most_regions + most_sectors) 0)
remembered_start l k = remembered_none (most_regions + most_sectors) l.R.high (omega (arith, l.R.high, l.S.high)) k.size k.sector

-- those that are remembered after a move are so after one that is equal to it
pub remembered_move : {R S : ℕ} {edges : List Edge} (col : List ℕ) {asked m : Move} {clock : ℕ} {known : List ℕ} → asked ≡ m
    → Remembered R S edges (next col asked) clock known → Remembered R S edges (next col m) clock known
remembered_move col e r = rw e at r
