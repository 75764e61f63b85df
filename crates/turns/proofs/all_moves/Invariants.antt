-- After each turn the moves that are left lead where all moves lead, and their rows complete the rows.
use Rattle.std.specs.Prelude.{◌+◌, ◌≡◌, length}
use Rattle.meaning.specs.Plan.{most_regions, most_sectors}
use Rattle.search.specs.Remembered.{Remembered}
use Rattle.engine.specs.Prepared.{plan_prepared}
use Rattle.turns.specs.Taken.{Taken}
use Rattle.turns.proofs.all_moves.Given as goal

abbrev pub invariant-loop-k : goal.invariant-loop-k
invariant-loop-k l = Taken (plan_prepared l.prepared) l.moves l.initial.colouring l.initial.work l.initial.rows l.k l.colouring l.work l.prices l.standing l.rows
    × (length l.colouring ≡ length l.initial.colouring)
    × (length l.work ≡ length l.initial.work)
    × (length l.prices ≡ length l.initial.prices)
    × (length l.queue ≡ length l.initial.queue)
    × (length l.rows ≡ length l.initial.rows)
    × Remembered (length l.prepared.lists.workloads.now) l.prepared.lists.sectors (plan_prepared l.prepared).edges l.colouring l.k l.known
    × (length l.known ≡ most_regions + most_sectors)
