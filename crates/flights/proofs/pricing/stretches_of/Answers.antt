-- After the move the visit is the same, but for the sector that its region may be given.
use Rattle.std.proofs.Common.{refl}
use Rattle.flights.specs.Both.{visiting_given}
use Rattle.flights.proofs.pricing.stretches_of.Goals as goal

pub returns : goal.returns
returns c =
    rw c.stretch_of-before.ensures
    (visiting_given c.args.colouring.now _ _ c.requires.visiting c.requires.in_range refl (rw c.stretch_of-before.ensures at c.sector_given-given.ensures))
