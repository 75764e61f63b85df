-- The sums are the tally of the regions passed, since each region adds its workload to the sum of its sector.
use Prim.Native.Nat.{◌+◌, ◌-◌, ◌<◌}
use native.Mathlib.Omega.{arith}
use mathlib.Core.Path.{◌≡◌}
use lib.ListN.{length, get_or}
use Rattle.std.proofs.Common.{rules, length-append}
use Rattle.std.proofs.lemmas.Slice.Zip.{zip_turn}
use Rattle.lists.specs.Sums.{at}
use Rattle.lists.specs.SumLaws.{get_or_bound}
use Rattle.lists.specs.Places.{at_next}
use Rattle.meaning.specs.Plan.{most_workload}
use Rattle.judge.specs.Tallies.{tallied_start, tallied_sector, tallied_turn, tallied_room}
use Rattle.judge.proofs.tallies.tally_workloads.Goals as goal
use Rattle.judge.proofs.tallies.tally_workloads.Goals.{In-Some}

pub loop-sector-init : goal.loop-sector-init
loop-sector-init c = tallied_start c.fill.ensures.len (c.fill.ensures.after (λ n e. e)) c.requires.tallying

-- what this turn has in hand stands at the place of the turn
turn : (c : In-Some) → (length c.loop-sector.yielded < length c.args.colouring.now)
    × (c.in-Some.sector.now ≡ get_or c.args.colouring.now (length c.loop-sector.yielded) 0)
    × (c.in-Some.workload.now ≡ at c.args.workloads.now (length c.loop-sector.yielded + 1))
turn c =
    let z = zip_turn c.args.colouring.now c.args.workloads.now c.loop-sector.yielded c.into_iter-sector-iterator.result c.loop-sector.sector-iterator c.next.new.self c.next.result (search rules) (search rules) c.loop-sector.yielded_by _ c.in-Some.is c.next.ensures.steps in
    (z.0, z.2 0, rw (at_next c.args.workloads.now (length c.loop-sector.yielded)) (z.3 0))

pub add_to-requires-clause-in_range : goal.add_to-requires-clause-in_range
add_to-requires-clause-in_range c =
    let t = turn (goal.at.add_to-requires-clause-in_range c).In-Some in
    rw t.1 (tallied_sector c.loop-sector.invariant t.0)

pub add_to-requires-clause-x_bound : goal.add_to-requires-clause-x_bound
add_to-requires-clause-x_bound c =
    let t = turn (goal.at.add_to-requires-clause-x_bound c).In-Some in
    let room = tallied_room c.loop-sector.invariant t.0 t.2 most_workload (λ u. get_or_bound c.args.workloads.now (u - 1) c.requires.every) in
    rw t.1 (omega (arith, room))

pub loop-sector-preserved : goal.loop-sector-preserved
loop-sector-preserved c =
    let t = turn (goal.at.loop-sector-preserved c).In-Some in
    rw (c.add_to.ensures, length-append) (rw t.1 (tallied_turn c.loop-sector.invariant t.0 t.2))
