-- An exchange, probed or made.
-- Assumes nothing.
use Rattle.std.specs.Prelude.{ℕ, ◌≡◌, List, ◌≢◌}
use Rattle.std.proofs.Common.{ap}
use Rattle.lists.specs.Sums.{In, at}
use Rattle.meaning.specs.Plan.{Plan}
use Rattle.meaning.specs.Kinds.{total}
use Rattle.meaning.specs.Moves.{swap}
use Rattle.meaning.proofs.MoveLaws.{exchange-alike}
use Rattle.engine.specs.declared.Standing.{Standing}
use Rattle.engine.specs.State.{Setting, Ready}
use Rattle.engine.specs.Memory.{Kept}
use Rattle.engine.specs.Turning.{ready_ground}
use Rattle.engine.specs.Swapping.{Swapping}
use Rattle.engine.specs.Remade.{Remade, ready_kept, ready_remade}

-- what an exchange finds
pub record Exchanging (P : Plan) (W : ℕ) (start near areas col w ps q : List ℕ) (s : Standing) (a b : ℕ) : Type 0 where
  pub setting : Setting P W start near areas q
  pub ready : Ready P col w ps s
  pub first : In P.R a
  pub second : In P.R b

module _ {P : Plan} {W : ℕ} {start near areas col w ps q : List ℕ} {s : Standing} {a b : ℕ} (k : Exchanging P W start near areas col w ps q s a b) where
  module _ (e : at col a ≡ at col b) where
    -- regions of one sector leave the total
    pub alike-total : s.total ≡ total P (swap col a b)
    alike-total = rw (exchange-alike col a b e) (ap (λ (x : Standing). x.total) k.ready.standing)

    -- and all else
    pub alike_remade : Remade P col w (swap col a b) col w ps (record { standing = s; relabelled = 0 })
    alike_remade = rw (exchange-alike col a b e) (ready_remade k.setting.limits k.ready)

  -- what it finds in the work memory
  pub exchanging_kept : Kept P col w
  exchanging_kept = ready_kept k.setting.limits k.ready

  -- regions of different sectors are given each other's
  pub exchanging_swapping : at col a ≢ at col b → Swapping P start near areas col q a b
  exchanging_swapping ne =
      record { basis = ready_ground k.setting k.ready; first = k.first; second = k.second; other = ne }
