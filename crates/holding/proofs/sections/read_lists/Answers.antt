-- The blocks of each kind come after those of the kind before it, and its list stands where the one before it ends.
use Rattle.std.proofs.Common.{arith, rules}
use Rattle.form.proofs.FirstLaws.{blocks_all}
use Rattle.holding.specs.ReadLaws.{one_head, lists_read}
use Rattle.holding.proofs.sections.read_lists.Goals as goal

pub read_kind-first-requires-clause-blocks : goal.read_kind-first-requires-clause-blocks
read_kind-first-requires-clause-blocks c = omega (arith, c.requires.has_blocks.0.long, blocks_all c.args.form c.args.head, one_head c.args.form)

pub read_kind-first-requires-2-clause-blocks : goal.read_kind-first-requires-2-clause-blocks
read_kind-first-requires-2-clause-blocks c = omega (arith, c.requires.has_blocks.0.long, blocks_all c.args.form c.args.head, one_head c.args.form, c.read_kind-first.ensures.value)

pub read_kind-first-requires-3-clause-blocks : goal.read_kind-first-requires-3-clause-blocks
read_kind-first-requires-3-clause-blocks c = omega (arith, c.requires.has_blocks.0.long, blocks_all c.args.form c.args.head, one_head c.args.form, c.read_kind-first.ensures.value, c.read_kind-first-2.ensures.value)

pub read_kind-first-requires-4-clause-blocks : goal.read_kind-first-requires-4-clause-blocks
read_kind-first-requires-4-clause-blocks c = omega (arith, c.requires.has_blocks.0.long, blocks_all c.args.form c.args.head, one_head c.args.form, c.read_kind-first.ensures.value, c.read_kind-first-2.ensures.value, c.read_kind-first-3.ensures.value)

pub read_kind-first-requires-5-clause-blocks : goal.read_kind-first-requires-5-clause-blocks
read_kind-first-requires-5-clause-blocks c = omega (arith, c.requires.has_blocks.0.long, blocks_all c.args.form c.args.head, one_head c.args.form, c.read_kind-first.ensures.value, c.read_kind-first-2.ensures.value, c.read_kind-first-3.ensures.value, c.read_kind-first-4.ensures.value)

pub read_kind-first-requires-6-clause-blocks : goal.read_kind-first-requires-6-clause-blocks
read_kind-first-requires-6-clause-blocks c = omega (arith, c.requires.has_blocks.0.long, blocks_all c.args.form c.args.head, one_head c.args.form, c.read_kind-first.ensures.value, c.read_kind-first-2.ensures.value, c.read_kind-first-3.ensures.value, c.read_kind-first-4.ensures.value, c.read_kind-first-5.ensures.value)

pub read_kind-requires-clause-blocks : goal.read_kind-requires-clause-blocks
read_kind-requires-clause-blocks c = omega (arith, c.requires.has_blocks.0.long, blocks_all c.args.form c.args.head, one_head c.args.form, c.read_kind-first.ensures.value, c.read_kind-first-2.ensures.value, c.read_kind-first-3.ensures.value, c.read_kind-first-4.ensures.value, c.read_kind-first-5.ensures.value, c.read_kind-first-6.ensures.value)

pub returns : goal.returns
returns c =
    lists_read c.args.held.now c.requires.head_value c.requires.has_blocks
    c.read_kind-first.ensures.value c.read_kind-first-2.ensures.value c.read_kind-first-3.ensures.value c.read_kind-first-4.ensures.value c.read_kind-first-5.ensures.value c.read_kind-first-6.ensures.value
    c.outside_at-outside.ensures c.edges_at-edges.ensures c.constraints_at-constraints.ensures c.colouring_at-colouring.ensures c.counts_at.ensures c.visits_at.ensures
    (omega (arith, c.read_kind-first.auto.held)) (omega (arith, c.read_kind-first.auto.held, c.read_kind-first-2.auto.held, c.read_kind-first-3.auto.held))
    c.read_kind-first.ensures.held_after (search rules) c.read_kind-first-2.ensures.held_after c.read_kind-first-3.ensures.held_after c.read_kind-first-4.ensures.held_after c.turn.ensures
    c.read_kind-first-5.ensures.held_after c.read_kind-first-6.ensures.held_after c.read_kind.ensures.held_after
