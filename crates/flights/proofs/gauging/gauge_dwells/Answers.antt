-- What is passed has its gauge, and each turn stores the next by the one that still stands there.
use Rattle.std.specs.Prelude.{◌<◌, ◌≤◌, length}
use Rattle.std.proofs.Common.{arith}
use Rattle.flights.specs.Gauged.{gauged_start, gauged_turn, gauged_end}
use Rattle.flights.proofs.gauging.gauge_dwells.Goals as goal

pub loop-k-init : goal.loop-k-init
loop-k-init c = gauged_start c.requires.every c.requires.gauges_len

pub loop-k-preserved : goal.loop-k-preserved
loop-k-preserved c =
    let more : c.loop-k.k < length c.loop-k.gauges = omega (arith, c.loop-k.invariant.size) in
    gauged_turn c.loop-k.invariant more c.gauge_at.ensures

pub returns : goal.returns
returns c =
    let done : length c.loop-k.gauges ≤ c.loop-k.k = omega (arith, c.loop-k.invariant.size) in
    gauged_end c.loop-k.invariant done
