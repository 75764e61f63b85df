-- What is passed has the sectors of the mended colouring, and each turn stores the next.
use mathlib.Core.Path.{◌≡◌}
use lib.ListN.{length}
use Rattle.lists.specs.Sums.{up_to}
use Rattle.lists.specs.Loops.{Mapped}
use Rattle.meaning.specs.Plan.{edges_of}
use Rattle.mending.specs.MendedLaws.{sector_mended}
use Rattle.mending.proofs.mend.Given as goal

abbrev pub invariant-loop-i : goal.invariant-loop-i
invariant-loop-i l = (length l.colouring ≡ length l.initial.colouring) × Mapped (sector_mended (edges_of l.edges) l.survivors) (up_to (length l.survivors)) l.i l.colouring
