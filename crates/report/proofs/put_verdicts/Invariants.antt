-- The lines so far stand at the buffer's start, each turn puts down the next where they end, and the longest text has room.
use Rattle.report.specs.Placed.{Placed}
use Rattle.report.specs.Text.{lines}
use Rattle.report.proofs.put_verdicts.Given as goal

abbrev pub invariant-loop-k : goal.invariant-loop-k
invariant-loop-k l = Placed l.initial.text 0 (lines l.constraints l.verdicts l.k) l.text l.end
