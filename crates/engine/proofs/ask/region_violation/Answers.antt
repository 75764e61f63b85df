-- What is read at the region's sector and found at its faces, weighted, with what the sector pays and what the stretches cost that visit the region, makes its violation.
use Prim.Native.Nat.{ℕ, ◌+◌, ◌*◌, ◌<◌, ◌^◌}
use native.Mathlib.Omega.{arith}
use Rattle.lists.specs.Sums.{at}
use Rattle.engine.specs.Flown.{priced_part}
use Rattle.engine.specs.Asking.{asking_fits, asking_priced, asking_border_fits, asking_violation, asking_room}
use Rattle.engine.proofs.ask.region_violation.Goals as goal
use Rattle.engine.proofs.ask.region_violation.Goals.{After-price_visitors-dwell}

-- what is added up
abbrev added : (c : After-price_visitors-dwell) → ℕ
added c = c.args.weights.connected * c.saturating_sub-excess.result
    + c.args.weights.border * (c.border_at-inside.result + at c.args.prepared.lists.outside.now c.args.region.0)
    + c.args.weights.balanced * c.abs_diff-balance.result
    + at c.args.prices.now (at c.args.colouring.now c.args.region.0)
    + c.price_visitors-dwell.result

-- it fits
room : (c : After-price_visitors-dwell) → added c < 2 ^ 64
room c = asking_room c.requires.asking c.border_at-inside.ensures c.requires.weights_value c.requires.prices_value c.saturating_sub-excess.ensures c.abs_diff-balance.ensures
    (priced_part c.requires.flown.priced _ _ c.price_visitors-dwell.ensures)

pub overflow_add-border : goal.overflow_add-border
overflow_add-border c = record { fits = asking_border_fits c.requires.asking c.border_at-inside.ensures }

pub overflow_mul-lists : goal.overflow_mul-lists
overflow_mul-lists c = record { fits = asking_fits c.requires.asking }

pub overflow_mul-result : goal.overflow_mul-result
overflow_mul-result c = omega (arith, room (goal.at.overflow_mul-result c).After-price_visitors-dwell)

pub overflow_mul-result-2 : goal.overflow_mul-result-2
overflow_mul-result-2 c = omega (arith, room (goal.at.overflow_mul-result-2 c).After-price_visitors-dwell)

pub overflow_add-result : goal.overflow_add-result
overflow_add-result c = omega (arith, room (goal.at.overflow_add-result c).After-price_visitors-dwell)

pub overflow_mul-result-3 : goal.overflow_mul-result-3
overflow_mul-result-3 c = omega (arith, room (goal.at.overflow_mul-result-3 c).After-price_visitors-dwell)

pub overflow_add-result-2 : goal.overflow_add-result-2
overflow_add-result-2 c = omega (arith, room (goal.at.overflow_add-result-2 c).After-price_visitors-dwell)

pub bounds-prices-own : goal.bounds-prices-own
bounds-prices-own c = omega (arith, asking_priced c.requires.asking c.requires.prices_value)

pub overflow_add-result-3 : goal.overflow_add-result-3
overflow_add-result-3 c = omega (arith, room (goal.at.overflow_add-result-3 c).After-price_visitors-dwell)

pub overflow_add-result-4 : goal.overflow_add-result-4
overflow_add-result-4 c = omega (arith, room (goal.at.overflow_add-result-4 c).After-price_visitors-dwell)

pub returns : goal.returns
returns c =
    asking_violation c.requires.asking c.border_at-inside.ensures c.requires.weights_value c.requires.prices_value c.saturating_sub-excess.ensures c.abs_diff-balance.ensures
    (priced_part c.requires.flown.priced _ _ c.price_visitors-dwell.ensures)
