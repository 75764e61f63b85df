-- A stretch that counts adds its price, and another adds nothing.
use native.Mathlib.Omega.{arith}
use Rattle.kinds.specs.Paid.{paying_bound}
use Rattle.flights.proofs.pricing.price_from.Goals as goal

pub overflow_add-result : goal.overflow_add-result
overflow_add-result c = omega (arith, c.price.ensures, paying_bound c.requires.paying c.args.first.seconds (omega (arith, c.requires.fits.0)))
