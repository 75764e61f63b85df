-- Each turn adds what one cell more adds; with what the cells after it add, the sums differ as the prices do.
use Rattle.std.specs.Prelude.{unwrap_or}
use Rattle.visitors.specs.AlongBoth.{AlongBoth}
use Rattle.visitors.proofs.price_both.Given as goal

abbrev pub invariant-loop-j : goal.invariant-loop-j
invariant-loop-j l = AlongBoth l.visitors.timed.now l.visitors.counts.now l.visitors.visits.now l.visitors.starts.now l.visitors.numbers.now l.visitors.firsts.now l.colouring l.region l.sector l.j (unwrap_or l.last 0) l.sums.before l.sums.after
