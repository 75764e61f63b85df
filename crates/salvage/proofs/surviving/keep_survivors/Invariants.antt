-- Each turn keeps the sector of one region by its block, and the block of each region is the first of the colouring or the last.
use Rattle.std.specs.Prelude.{◌≡◌, length}
use Rattle.lists.specs.Sums.{up_to}
use Rattle.lists.specs.Loops.{Mapped}
use Rattle.salvage.specs.Keeping.{sector_kept}
use Rattle.salvage.proofs.surviving.keep_survivors.Given as goal

abbrev pub invariant-loop-i : goal.invariant-loop-i
invariant-loop-i l = (length l.surviving ≡ length l.initial.surviving)
    × Mapped (sector_kept l.first l.last l.head.sectors l.colouring) (up_to l.head.regions) l.i l.surviving
