-- What is passed has its price, and each turn stores the next.
use mathlib.Core.Path.{◌≡◌}
use lib.ListN.{length}
use Rattle.lists.specs.Loops.{Mapped}
use Rattle.meaning.specs.Plan.{constraints_of}
use Rattle.meaning.specs.Prices.{price}
use Rattle.judge.proofs.measures.price_all.Given as goal

abbrev pub invariant-loop-i : goal.invariant-loop-i
invariant-loop-i l = (length l.prices ≡ length l.initial.prices) × Mapped (price (constraints_of l.limited)) l.loads l.i l.prices
