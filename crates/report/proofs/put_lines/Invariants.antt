-- The lines of the numbers so far are put down, and each turn puts down the next where they end; the longest numbers have room.
use Rattle.std.proofs.Common.{take}
use Rattle.report.specs.Placed.{Placed}
use Rattle.report.specs.Text.{number_lines}
use Rattle.report.proofs.put_lines.Given as goal

abbrev pub invariant-loop-number : goal.invariant-loop-number
invariant-loop-number l = Placed l.initial.text l.at (number_lines (take l.number-index l.numbers)) l.text l.end
