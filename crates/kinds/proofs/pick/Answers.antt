-- Those picked so far and those of the kinds low to high among the rest are all of these kinds.
use Rattle.kinds.specs.Picked.{picked_start, picked_place, picked_turn, picked_room, picked_end}
use Rattle.kinds.proofs.pick.Goals as goal

pub loop-k-init : goal.loop-k-init
loop-k-init c = picked_start c.requires

pub pick_at-n-requires : goal.pick_at-n-requires
pick_at-n-requires c = picked_place c.loop-k.invariant c.loop-k-test.true

pub loop-k-preserved : goal.loop-k-preserved
loop-k-preserved c = picked_turn c.loop-k.invariant c.loop-k-test.true c.pick_at-n.auto.picked c.pick_at-n.ensures

pub shape_of-picked : goal.shape_of-picked
shape_of-picked c = c.loop-k.invariant.size

pub returns : goal.returns
returns c = record { result_in_bounds = picked_room c.loop-k.invariant; picked_after = picked_end c.loop-k.invariant c.loop-k-test.false }
