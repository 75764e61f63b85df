-- Within the places of the array four stores put the record down, and past them nothing is stored.
use Rattle.std.proofs.Common.{le-ltb}
use Rattle.records.specs.Copied.{put_record}
use Rattle.records.proofs.CopiedLaws.{put_four}
use Rattle.records.proofs.copying.put_record.Goals as goal

pub returns-then-k-lt-MOST_COPIED : goal.returns-then-k-lt-MOST_COPIED
returns-then-k-lt-MOST_COPIED c = put_four _ _ _ c.if-k-lt-MOST_COPIED.true

pub returns-else-k-lt-MOST_COPIED : goal.returns-else-k-lt-MOST_COPIED
unfolding put_record
returns-else-k-lt-MOST_COPIED c = rw (le-ltb _ _ c.if-k-lt-MOST_COPIED.false)
