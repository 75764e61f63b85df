-- Document 02, C-18, over the promise of the call: two calls, the one in new names for the sectors, answer alike and leave the same rows, verdicts, labels and T; component counts and workload sums move with their names.
-- Assumes nothing.
use Rattle.std.specs.Prelude.{ℕ, ◌≡◌, length}
use Rattle.lists.specs.Sums.{In}
use Rattle.meaning.specs.Moves.{verdicts}
use Rattle.meaning.specs.Names.{renamed, renamed_moves}
use Rattle.call.specs.Promise.{Input, Outcome}
use Rattle.demands.specs.Calls.{SamePlan, rows_left_by, verdicts_left}
use Rattle.demands.specs.Work.{numbers_in}

-- call j is call i in the new names, with as much memory lent
pub record Renamed (p : ℕ → ℕ) (i j : Input) : Type 0 where
  pub plan : SamePlan i j
  pub colouring : j.colouring ≡ renamed i.S p i.colouring
  pub moves : j.moves ≡ renamed_moves i.S p i.moves
  pub rows : length j.rows ≡ length i.rows
  pub verdicts : length j.verdicts ≡ length i.verdicts
  pub work : length j.work ≡ length i.work

-- what the two leave is the same: rows, verdicts, labels and T; sector c's components and workload stand at p c
pub record LeftAlike (p : ℕ → ℕ) (i : Input) (o : Outcome) (j : Input) (q : Outcome) : Type 0 where
  pub rows : rows_left_by j q ≡ rows_left_by i o
  pub verdicts : verdicts_left j q ≡ verdicts_left i o
  pub label : (u : ℕ) → In i.R u → (numbers_in j q).label u ≡ (numbers_in i o).label u
  pub border : (numbers_in j q).border ≡ (numbers_in i o).border
  pub components : (c : ℕ) → In i.S c → (numbers_in j q).components (p c) ≡ (numbers_in i o).components c
  pub workload : (c : ℕ) → In i.S c → (numbers_in j q).workload (p c) ≡ (numbers_in i o).workload c
