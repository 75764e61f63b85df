-- What is answered for the place of a constraint.
-- Assumes nothing.
use Rattle.std.specs.Prelude.{ℕ, ◌-◌, ◌*◌, ◌≡◌, List, get_or}
use Rattle.std.proofs.Common.{add-zero, le-leb}
use Rattle.lists.specs.Sums.{In}
use Rattle.meaning.specs.Moves.{verdict_length}
use Rattle.judging.specs.Judgement.{judgement}
use Rattle.judgement.specs.Promise.{constraint_count, verdict_at, holds}

-- whether it holds: what its verdict says
pub holds-said : (sheet : List ℕ) (place : ℕ) → In (constraint_count sheet) place → holds sheet place ≡ get_or (judgement sheet).verdicts (verdict_length * (place - 1)) 0
unfolding verdict_at
holds-said sheet place i = rw (le-leb 1 place i.low, le-leb place (constraint_count sheet) i.high, add-zero (verdict_length * (place - 1)))
