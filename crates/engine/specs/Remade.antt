-- What a move leaves in the lent memory.
-- Assumes nothing.
use Rattle.std.specs.Prelude.{ℕ, ◌≡◌, refl, List, ◌++◌, drop}
use Rattle.std.proofs.Common.{sym}
use Rattle.meaning.specs.Plan.{Plan, Limits}
use Rattle.meaning.specs.Moves.{relabelled}
use Rattle.meaning.proofs.MoveLaws.{relabelled-none}
use Rattle.meaning.specs.Prices.{prices}
use Rattle.engine.specs.declared.Standing.{Standing}
use Rattle.engine.specs.declared.Made.{Made}
use Rattle.engine.specs.State.{Ready, memory, memory_length, standing_of}
use Rattle.engine.specs.Memory.{Kept, kept-front}

-- the lent memory, of which the work memory was w, is left with all that is kept of a colouring
pub record Left (P : Plan) (w after col' w' ps' : List ℕ) : Type 0 where
  pub colouring : col' ≡ after
  pub work : w' ≡ memory P after ++ drop (memory_length P) w
  pub prices : ps' ≡ prices P after

-- what is made leaves the lent memory so, and answers what stands then and how many labels are new
pub record Remade (P : Plan) (col w after col' w' ps' : List ℕ) (m : Made) : Type 0 where
  pub left : Left P w after col' w' ps'
  pub standing : m.standing ≡ standing_of P after
  pub relabelled : m.relabelled ≡ relabelled P col after

module _ {P : Plan} {col w ps : List ℕ} {s : Standing} (l : Limits P) (r : Ready P col w ps s) where
  -- what a move finds in the work memory
  pub ready_kept : Kept P col w
  ready_kept = record { limits = l; coloured = r.coloured; room = r.room; work = r.work }

  -- where the colouring is as it was and nothing else is touched, all is left with what is kept of it
  pub ready_left : {col' : List ℕ} → col' ≡ col → Left P w col col' w ps
  ready_left e = record { colouring = e; work = kept-front ready_kept; prices = r.prices }

  -- and nothing is new
  pub ready_remade : Remade P col w col col w ps (record { standing = s; relabelled = 0 })
  ready_remade = record { left = ready_left refl; standing = r.standing; relabelled = sym (relabelled-none P col) }
