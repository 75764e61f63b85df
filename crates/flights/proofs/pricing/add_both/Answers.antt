-- Each way out settles whether the visit and the first stretches are alike.
use Rattle.std.proofs.Common.{refl}
use Rattle.flights.specs.Both.{walked-alike, walked_apart}
use Rattle.flights.proofs.pricing.add_both.Goals as goal
use Rattle.flights.proofs.pricing.add_both.Goals.{else-alike-via-then-alike+else-alike-2, else-alike-via-else-alike}

pub returns-then-alike-2 : goal.returns-then-alike-2
returns-then-alike-2 c = walked-alike _ _ _ c.alike.ensures c.alike-then-alike.ensures (rw (c.if-alike.true, c.if-alike-2.true)) c.lengthened.ensures

pub returns : goal.returns
returns c =
    elim c.else-alike.branch [
      | else-alike-via-then-alike+else-alike-2 w ↦ walked_apart _ _ _ c.alike.ensures w.alike-then-alike.ensures (rw (w.if-alike.true, w.if-alike-2.false)) c.add_visit.ensures c.add_visit-2.ensures
      | else-alike-via-else-alike w ↦ walked_apart _ _ _ c.alike.ensures refl (rw w.if-alike.false) c.add_visit.ensures c.add_visit-2.ensures
    ]
