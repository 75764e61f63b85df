-- Each turn looks at the next place, and after the last all are looked at.
use Rattle.std.proofs.Common.{◌+◌, ◌-◌, ◌≡◌, ◌<◌, ◌≤◌, length, arith, get_or, ap, ℕ}
use Rattle.relabel.specs.Minimum.{minimising_turn}
use Rattle.relabel.specs.Part.{length-part, part_cell}
use Rattle.relabel.proofs.component.smallest.Goals as goal

pub loop-region-preserved : goal.loop-region-preserved
loop-region-preserved c =
    let low : 1 ≤ length c.args.regions.now = omega arith in
    let fits : length c.args.regions.now ≤ length c.args.regions.now = omega arith in
    let h : c.loop-region.region-index < length c.args.regions.now - 1 = omega (arith, c.loop-region-test.true, length-part c.args.regions.now low fits) in
    let e : 1 + c.loop-region.region-index ≡ c.loop-region.region-index + 1 = omega arith in
    minimising_turn c.loop-region.invariant (omega arith) (omega (arith, c.min-least.ensures, part_cell c.args.regions.now low fits c.loop-region.region-index h, ap (λ (k : ℕ). get_or c.args.regions.now k 0) e))
