-- The refusal is put down at the buffer's start, and the longest has room.
use Rattle.report.specs.Placed.{placed_start}
use Rattle.report.proofs.put_refusal.Goals as goal

pub returns-clause-text_after : goal.returns-clause-text_after
returns-clause-text_after c = placed_start c.put_refused.ensures
