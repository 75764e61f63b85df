-- Each turn counts the edge before those that are counted at both its ends, and after the last all are.
use Rattle.std.proofs.Common.{arith, ap}
use Rattle.meaning.specs.Plan.{Edge}
use Rattle.neighbours.specs.Counts.{counted_none, counted_asks_a, counted_asks_b, counted_more}
use Rattle.neighbours.proofs.count_edges.Goals as goal

pub loop-k-init : goal.loop-k-init
loop-k-init c = rw c.fill.ensures.len (counted_none c.requires (c.fill.ensures.after (λ y e. e)))

pub count_one-requires : goal.count_one-requires
count_one-requires c =
    let a = ap (λ (e : Edge). e.a) c.at-edge.ensures in
    rw a (record { in_range = omega (arith, counted_asks_a c.loop-k.invariant c.loop-k-test.true); region_bound = omega (arith, counted_asks_a c.loop-k.invariant c.loop-k-test.true) })

pub count_one-requires-in-loop-k : goal.count_one-requires-in-loop-k
count_one-requires-in-loop-k c =
    let a = ap (λ (e : Edge). e.a) c.at-edge.ensures in
    let b = ap (λ (e : Edge). e.b) c.at-edge.ensures in
    let h = counted_asks_b c.loop-k.invariant c.loop-k-test.true (rw a at c.count_one.ensures) in
    rw b (record { in_range = omega (arith, h); region_bound = omega (arith, h) })

pub loop-k-preserved : goal.loop-k-preserved
loop-k-preserved c =
    let a = ap (λ (e : Edge). e.a) c.at-edge.ensures in
    let b = ap (λ (e : Edge). e.b) c.at-edge.ensures in
    counted_more c.loop-k.invariant c.loop-k-test.true (rw a at c.count_one.ensures) (rw b at c.count_one-in-loop-k.ensures)
