-- Each turn puts the edge before those that stand in their rows in front of both its rows, and after the last all edges stand there.
use Rattle.std.proofs.Common.{ap}
use Rattle.meaning.specs.Plan.{Edge}
use Rattle.neighbours.specs.Rows.{filled_asks_b, filled_asks_a, filled_more}
use Rattle.neighbours.proofs.fill.Goals as goal

pub place-requires : goal.place-requires
place-requires c =
    let b = ap (λ (e : Edge). e.b) c.at-edge.ensures in
    rw b (filled_asks_b c.loop-k.invariant c.loop-k-test.true)

pub place-requires-in-loop-k : goal.place-requires-in-loop-k
place-requires-in-loop-k c =
    let a = ap (λ (e : Edge). e.a) c.at-edge.ensures in
    let b = ap (λ (e : Edge). e.b) c.at-edge.ensures in
    let area = ap (λ (e : Edge). e.area) c.at-edge.ensures in
    rw (← a) at (filled_asks_a c.loop-k.invariant c.loop-k-test.true (rw (a, b, area) at c.place.ensures))

pub loop-k-preserved : goal.loop-k-preserved
loop-k-preserved c =
    let a = ap (λ (e : Edge). e.a) c.at-edge.ensures in
    let b = ap (λ (e : Edge). e.b) c.at-edge.ensures in
    let area = ap (λ (e : Edge). e.area) c.at-edge.ensures in
    filled_more c.loop-k.invariant c.loop-k-test.true (rw (a, b, area) at c.place.ensures) (rw (a, b, area) at c.place-in-loop-k.ensures)
