-- A number stands in a relation to the limit exactly where its distance is 0.
use Rattle.terms.specs.DistanceLaws.{distance-stands}
use Rattle.judge.proofs.verdicts.missed.Goals as goal

pub returns : goal.returns
returns c = rw (← distance-stands, ← c.distance.ensures) c.from.ensures
