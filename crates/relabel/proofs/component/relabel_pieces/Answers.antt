-- Each turn labels the component of the next neighbour if it shows the sector, and after the last none shows it.
use Rattle.std.proofs.Common.{arith, add-zero}
use Rattle.std.proofs.Math.Nat.{add_assoc}
use Rattle.relabel.specs.Part.{row_item, row_over}
use Rattle.relabel.specs.Repairing.{repairing_start, repairing_next, repairing_few, repairing_turn, repairing_end}
use Rattle.relabel.proofs.component.relabel_pieces.Goals as goal

pub loop-neighbour-init : goal.loop-neighbour-init
loop-neighbour-init c = rw add-zero (repairing_start c.requires.counting c.requires.labels_len)

pub label_from-reach-requires : goal.label_from-reach-requires
label_from-reach-requires c =
    let item = row_item c.requires.counting.net c.requires.counting.region c.loop-neighbour-test.true in
    rw item.1 (repairing_next c.loop-neighbour.invariant item.0)

pub overflow_add-relabelled : goal.overflow_add-relabelled
overflow_add-relabelled c = omega (arith, repairing_few c.loop-neighbour.invariant c.label_from-reach.ensures, c)

pub loop-neighbour-preserved : goal.loop-neighbour-preserved
loop-neighbour-preserved c =
    let item = row_item c.requires.counting.net c.requires.counting.region c.loop-neighbour-test.true in
    rw (← add_assoc) (repairing_turn c.loop-neighbour.invariant item.0 c.label_from-reach.auto.queue (rw item.1 at c.label_from-reach.ensures))

pub returns-clause-renewed : goal.returns-clause-renewed
returns-clause-renewed c = repairing_end c.loop-neighbour.invariant (row_over c.requires.counting.net c.requires.counting.region c.loop-neighbour-test.false)
