-- The flights of a plan as the engine has them: the constraints of kind 5 picked out, and the flights that visit each region.
-- Assumes nothing.
use Rattle.std.specs.Prelude.{ℕ, ◌<◌, ◌≡◌, List, false, length}
use Rattle.std.proofs.Common.{sym, ◌∙◌}
use Rattle.meaning.specs.Plan.{Plan, Coloured, flights_of, constraints_of}
use Rattle.meaning.specs.Prices.{flights_price, visitors_price, dwell_total}
use Rattle.meaning.specs.Prices as meaning
use Rattle.meaning.proofs.PriceLaws.{dwell_total_lem}
use Rattle.kinds.specs.Constraints.{Paying}
use Rattle.flights.specs.Flying.{Flying}
use Rattle.visitors.specs.Visitors.{Visitors, Pricing}
use Rattle.visitors.specs.AlongBoth.{VisitorsDiffer}
use Rattle.change.specs.declared.Swing.{Swing}
use Rattle.change.specs.Changed.{Costs}

-- the flat lists hold the plan's flights and its constraints of kind 5
pub record Priced (P : Plan) (timed counts visits : List ℕ) : Type 0 where
  pub flying : Flying P.R counts visits
  pub timing : Paying timed
  pub flights : P.flights ≡ flights_of counts visits
  pub picked : constraints_of timed ≡ meaning.timed P.constraints

-- where there are such constraints, it is known which flights visit each region
pub record Flown (P : Plan) (timed counts visits visited flights firsts : List ℕ) : Type 0 where
  pub priced : Priced P timed counts visits
  pub table : 0 < length timed → Visitors P.R counts visits visited flights firsts

module _ {P : Plan} {timed counts visits : List ℕ} (p : Priced P timed counts visits) (col : List ℕ) where
  -- the price of all flights is what kind 5 adds to the total
  pub priced_total : {n : ℕ} → n ≡ flights_price (constraints_of timed) col (flights_of counts visits) → n ≡ dwell_total P col
  priced_total e = e ∙ rw (p.picked, ← p.flights) (sym (dwell_total_lem P col))

  -- what the flights that visit a region gain and lose is that of the plan
  pub priced_costs : (v d : ℕ) {s : Swing} → VisitorsDiffer (constraints_of timed) col v d (flights_of counts visits) (record { before = s.lost; after = s.gained }) → Costs P col v d s
  priced_costs v d e = let f = rw (p.picked, ← p.flights) at e in record { sum = f.sum; gained = f.after }

  -- and so is what the stretches cost that visit it
  pub priced_part : (v : ℕ) {n : ℕ} → n ≡ visitors_price (constraints_of timed) col false v (flights_of counts visits) → n ≡ visitors_price (meaning.timed P.constraints) col false v P.flights
  priced_part v e = e ∙ rw (p.picked, ← p.flights)

module _ {P : Plan} {timed counts visits col : List ℕ} (k : Coloured P col) where
  -- all flights can be priced
  pub priced_flying : Priced P timed counts visits → {col' : List ℕ} → col' ≡ col → Flying (length col') counts visits
  priced_flying p same = rw (same, k.size) p.flying

  -- and those that visit a region
  pub flown_pricing : {visited flights firsts : List ℕ} → Flown P timed counts visits visited flights firsts → Pricing (length col) timed counts visits visited flights firsts
  flown_pricing f = rw k.size (record { timing = f.priced.timing; flying = f.priced.flying; table = f.table })
