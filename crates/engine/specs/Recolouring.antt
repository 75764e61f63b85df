-- A recolouring, probed or made.
-- Assumes nothing.
use Rattle.std.specs.Prelude.{ℕ, ◌≡◌, List, ◌≢◌}
use Rattle.std.proofs.Common.{sym, ap, ◌∙◌}
use Rattle.lists.specs.Sums.{In, at}
use Rattle.meaning.specs.Plan.{Plan}
use Rattle.meaning.specs.Kinds.{total}
use Rattle.meaning.specs.Moves.{recolour}
use Rattle.meaning.proofs.MoveLaws.{recolour-own}
use Rattle.engine.specs.declared.Standing.{Standing}
use Rattle.engine.specs.State.{Setting, Ready}
use Rattle.engine.specs.Memory.{Kept}
use Rattle.engine.specs.Turning.{Turning, ready_ground}
use Rattle.engine.specs.Remade.{Remade, ready_kept, ready_remade}

-- what a recolouring finds
pub record Recolouring (P : Plan) (W : ℕ) (start near areas col w ps q : List ℕ) (s : Standing) (v d : ℕ) : Type 0 where
  pub setting : Setting P W start near areas q
  pub ready : Ready P col w ps s
  pub region : In P.R v
  pub sector : In P.S d

module _ {P : Plan} {W : ℕ} {start near areas col w ps q : List ℕ} {s : Standing} {v d : ℕ} (k : Recolouring P W start near areas col w ps q s v d) where
  module _ (e : at col v ≡ d) where
    -- a region given to its own sector leaves the colouring as it was
    same : recolour col v d ≡ col
    same = ap (recolour col v) (sym e) ∙ recolour-own col v

    -- so the total stays
    pub still-total : s.total ≡ total P (recolour col v d)
    still-total = rw same (ap (λ (x : Standing). x.total) k.ready.standing)

    -- and nothing is new
    pub still_remade : Remade P col w (recolour col v d) col w ps (record { standing = s; relabelled = 0 })
    still_remade = rw same (ready_remade k.setting.limits k.ready)

  -- what it finds in the work memory
  pub recolouring-kept : Kept P col w
  recolouring-kept = ready_kept k.setting.limits k.ready

  -- given to another sector, there is a change
  pub recolouring_turning : at col v ≢ d → Turning P start near areas col q v d
  recolouring_turning ne =
      record { basis = ready_ground k.setting k.ready; region = k.region; sector = k.sector; other = λ e. ne (sym e) }
