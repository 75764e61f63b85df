-- The constraints of a plan as the engine has them: those of kinds 1 to 3, whose violations the figures alone give, and those of kind 4.
-- Assumes nothing.
use Rattle.std.specs.Prelude.{ℕ, ◌≡◌, List}
use Rattle.std.proofs.Common.{le_trans}
use Rattle.meaning.specs.Plan.{Plan, Limits, constraints_of}
use Rattle.meaning.specs.Prices.{of_kinds, shared, limited, prices}
use Rattle.meaning.specs.Weighted.{kinds_limits, kinds_few}
use Rattle.kinds.specs.Constraints.{Paying}
use Rattle.engine.specs.declared.Standing.{Standing}
use Rattle.engine.specs.State.{Ready}

-- the flat lists hold the plan's constraints of kinds 1 to 3 and of kind 4
pub record Sorted (P : Plan) (sh li : List ℕ) : Type 0 where
  pub shared : constraints_of sh ≡ shared P.constraints
  pub limited : constraints_of li ≡ limited P.constraints

-- the one holds those of kind 4, the other what each sector pays for them
pub record Paid (P : Plan) (col li ps : List ℕ) : Type 0 where
  pub limited : constraints_of li ≡ limited P.constraints
  pub prices : ps ≡ prices P col

-- every move finds both
pub ready_paid : {P : Plan} {sh li col w ps : List ℕ} {s : Standing} → Sorted P sh li → Ready P col w ps s → Paid P col li ps
ready_paid k r = record { limited = k.limited; prices = r.prices }

-- a flat list of some kinds of a plan's constraints can be paid
pub sorted_paying : {P : Plan} → Limits P → (low high : ℕ) {xs : List ℕ} → constraints_of xs ≡ of_kinds low high P.constraints → Paying xs
sorted_paying {P} l low high e =
    record { few = rw e (le_trans (kinds_few low high P.constraints) l.constraints); constraint = rw e (kinds_limits low high P.constraints l.constraint) }
