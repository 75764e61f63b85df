-- The sums are the tally of the regions passed, since each region adds what it counts for to the sum of its sector.
use native.Mathlib.Omega.{arith}
use Rattle.lists.specs.Tests.{bit_le}
use Rattle.meaning.specs.Joined.{leads}
use Rattle.judge.specs.Tallies.{tallied_start, tallied_length, tallied_end, tallied_sector, tallied_turn, tallied_room}
use Rattle.judge.proofs.tallies.tally_components.Goals as goal

pub loop-i-init : goal.loop-i-init
loop-i-init c = tallied_start c.fill.ensures.len (c.fill.ensures.after (λ n e. e)) c.requires

pub add_to-requires : goal.add_to-requires
add_to-requires c =
    let room = tallied_room c.loop-i.invariant c.loop-i-test.true c.lead_at.ensures 1 (λ u. bit_le (leads c.args.labels.now u)) in
    record { in_range = tallied_sector c.loop-i.invariant c.loop-i-test.true; x_bound = omega arith }

pub loop-i-preserved : goal.loop-i-preserved
loop-i-preserved c =
    rw c.add_to.ensures
    (tallied_turn c.loop-i.invariant c.loop-i-test.true c.lead_at.ensures)

pub shape_of-counts : goal.shape_of-counts
shape_of-counts c = tallied_length c.fill.ensures.len c.loop-i.invariant

pub returns : goal.returns
returns c = tallied_end c.fill.ensures.len c.loop-i.invariant c.loop-i-test.false
