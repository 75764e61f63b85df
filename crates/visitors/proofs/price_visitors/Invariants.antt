-- Each turn adds what one cell more adds; with what the cells after it add, the sum is the price.
use Rattle.std.specs.Prelude.{unwrap_or}
use mathlib.Core.Bool.{false}
use Rattle.visitors.specs.Along.{Along}
use Rattle.visitors.proofs.price_visitors.Given as goal

abbrev pub invariant-loop-j : goal.invariant-loop-j
invariant-loop-j l = Along l.visitors.timed.now l.visitors.counts.now l.visitors.visits.now l.visitors.starts.now l.visitors.numbers.now l.visitors.firsts.now l.colouring false l.region l.j (unwrap_or l.last 0) l.sum
