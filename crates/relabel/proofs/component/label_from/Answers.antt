-- Where the region shows the sector its component is searched and given the smallest of its regions for a label, and otherwise nothing changes.
use Rattle.std.proofs.Common.{arith, ◌≤◌}
use Rattle.relabel.specs.Seeding.{seeded_none, seeding_room, seeding_grow, seeding_part, seeding_span, seeded_some}
use Rattle.relabel.specs.Part.{part_span, part_minimum, part_written}
use Rattle.relabel.proofs.component.label_from.Goals as goal

pub offset_bounds-queue-end : goal.offset_bounds-queue-end
offset_bounds-queue-end c = omega (arith, seeding_room c.requires c.if-colouring-z.true)

pub bounds-queue-end : goal.bounds-queue-end
bounds-queue-end c = seeding_room c.requires c.if-colouring-z.true

pub overflow_add-end : goal.overflow_add-end
overflow_add-end c = omega (arith, seeding_room c.requires c.if-colouring-z.true)

pub grow-e-requires : goal.grow-e-requires
grow-e-requires c = seeding_grow c.requires c.if-colouring-z.true

pub offset_bounds-queue-end-then-colouring-z : goal.offset_bounds-queue-end-then-colouring-z
offset_bounds-queue-end-then-colouring-z c = omega (arith, seeding_room c.requires c.if-colouring-z.true)

pub slice_bounds-found-end : goal.slice_bounds-found-end
slice_bounds-found-end c =
    let s = seeding_part c.requires c.if-colouring-z.true c.grow-e.ensures in
    omega arith

pub write-n-requires : goal.write-n-requires
write-n-requires c =
    let s = seeding_part c.requires c.if-colouring-z.true c.grow-e.ensures in
    part_span _ (omega arith) (omega arith) (seeding_span c.requires c.if-colouring-z.true c.grow-e.ensures)

pub returns-then-colouring-z : goal.returns-then-colouring-z
returns-then-colouring-z c =
    let s = seeding_part c.requires c.if-colouring-z.true c.grow-e.ensures in
    let low : c.args.end ≤ c.grow-e.result = omega arith in
    seeded_some c.requires c.if-colouring-z.true c.grow-e.ensures (part_minimum _ low s.1 c.smallest-label.ensures) (part_written _ low s.1 c.write-n.ensures)

pub returns : goal.returns
returns c = seeded_none c.requires c.if-colouring-z.false
