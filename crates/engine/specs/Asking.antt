-- A region's violation, by what is kept of its sector and what is found at its faces.
-- Assumes nothing.
use Rattle.std.specs.Prelude.{ℕ, ◌+◌, ◌-◌, ◌*◌, ◌≤◌, ◌<◌, ◌^◌, ◌≡◌, refl, List, false, not, eqb, length, get_or}
use Rattle.std.proofs.Common.{mul-le-mul, arith, ap}
use Rattle.lists.specs.Sums.{In, at}
use Rattle.terms.specs.Distance.{gap}
use Rattle.meaning.specs.Plan.{Plan, most_sectors}
use Rattle.meaning.specs.Kinds.{ncc, load, whole, area_of, leads_to, border_of, region_violation}
use Rattle.meaning.proofs.BoundLaws.{load_bound, border_of_bound, region_bound}
use Rattle.meaning.specs.Prices.{timed, prices, visitors_price}
use Rattle.meaning.proofs.PriceLaws.{prices-length, prices-at, region_parts, shared_parts}
use Rattle.kinds.specs.declared.Weights.{Weights}
use Rattle.kinds.specs.Paid.{weights_of}
use Rattle.neighbours.specs.Table.{Table}
use Rattle.search.specs.Same.{Comparable}
use Rattle.search.specs.Weighing.{Weighable}
use Rattle.engine.specs.Memory.{count_at, Kept, kept-sides}

-- what a question finds
pub record Asking (P : Plan) (W : ℕ) (start near areas col w : List ℕ) (v : ℕ) : Type 0 where
  pub kept : Kept P col w
  pub table : Table P.R P.edges start near areas
  pub whole : W ≡ whole P
  pub region : In P.R v

module _ {P : Plan} {W : ℕ} {start near areas col w : List ℕ} {v : ℕ} (a : Asking P W start near areas col w v) where
  -- the region's sector
  pub asking_sector : In P.S (at col v)
  asking_sector = a.kept.coloured.sector v a.region

  -- the table is of as many regions as the plan
  regions : length start - 1 ≡ P.R
  regions = omega (arith, a.table.size)

  -- its border can be had
  pub asking_weighable : Weighable (length start - 1) P.edges start near areas col v
  asking_weighable =
      rw regions
      (record { table = a.table; few = a.kept.limits.edges; limits = a.kept.limits.edge; size = a.kept.coloured.size; region = a.region })

  -- what its neighbours show can be compared with its sector
  pub asking_comparable : Comparable (length start - 1) col (at col v) (at col v)
  asking_comparable =
      let own : at col v ≤ most_sectors = omega (arith, asking_sector, a.kept.limits.S) in
      rw regions
      (record { shown = λ u i. omega (arith, a.kept.coloured.sector u i, a.kept.limits.S); one = own; other = own })

  -- its sector's components are read
  asking_count : get_or w (count_at P.R (at col v)) 0 ≡ ncc P col (at col v)
  asking_count = ap (λ s. s.components.old) (kept-sides a.kept asking_sector asking_sector refl)

  -- and its workload
  asking_load : get_or w (count_at P.R (at col v) + P.S) 0 ≡ load P col (at col v)
  asking_load = ap (λ s. s.workloads.old) (kept-sides a.kept asking_sector asking_sector refl)

  -- which times the number of sectors fits
  pub asking_fits : P.S * get_or w (count_at P.R (at col v) + P.S) 0 < 2 ^ 64
  asking_fits = rw asking_load (omega (arith, mul-le-mul a.kept.limits.S.high (load_bound P a.kept.limits col (at col v))))

  -- there is a price of its sector
  pub asking_priced : {ps : List ℕ} → ps ≡ prices P col → In (length ps) (at col v)
  asking_priced paid = rw (paid, prices-length P col) asking_sector

  module _ {b : ℕ} (f : b ≡ area_of P.edges (leads_to (λ u. not (eqb (at col u) (at col v))) v)) where
    -- with its face to the outside its edges make the region's border
    asking_border : b + at P.outside v ≡ border_of P col v
    unfolding border_of
    asking_border = rw f

    -- which fits
    pub asking_border_fits : b + at P.outside v < 2 ^ 64
    asking_border_fits = omega (arith, asking_border, border_of_bound P a.kept.limits col v)

    module _ {n g d : ℕ} {u : Weights} {ps : List ℕ} (weighs : u ≡ weights_of P.constraints) (paid : ps ≡ prices P col) (e : n ≡ get_or w (count_at P.R (at col v)) 0 - 1) (h : g ≡ gap (P.S * get_or w (count_at P.R (at col v) + P.S) 0) W) (costs : d ≡ visitors_price (timed P.constraints) col false v P.flights) where
      -- weighted, with what its sector pays and what the stretches cost that visit it, all this makes the region's violation
      pub asking_violation : u.connected * n + u.border * (b + at P.outside v) + u.balanced * g + at ps (at col v) + d ≡ region_violation P col v
      asking_violation =
          rw (weighs, paid, e, asking_border, h, asking_count, asking_load, a.whole, prices-at P col (at col v) asking_sector, costs)
          (omega (arith, region_parts P col v, shared_parts P col v (at col v) P.constraints))

      -- which fits
      pub asking_room : u.connected * n + u.border * (b + at P.outside v) + u.balanced * g + at ps (at col v) + d < 2 ^ 64
      asking_room = omega (arith, asking_violation, region_bound P a.kept.limits col v)
