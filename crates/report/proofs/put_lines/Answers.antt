-- The lines of the numbers so far are put down, and each turn puts down the next where they end; the longest numbers have room.
use Rattle.std.proofs.Common.{ℕ, suc, ◌*◌, ◌≤◌, length, take, arith, le_trans, add-one, length-append}
use Rattle.report.specs.Placed.{placed-none, placed-length, placed_then}
use Rattle.report.specs.Text.{number_lines, most_number}
use Rattle.report.specs.TextLaws.{number-lines-next, number-lines-front, number-lines-length}
use Rattle.report.proofs.put_lines.Goals as goal
use Rattle.report.proofs.put_lines.Goals.{At-loop-number}

-- the lines of the first k numbers have room
front : (c : At-loop-number) (k : ℕ) → length (number_lines (take k c.args.numbers.now)) ≤ most_number * length c.args.numbers.now
front c k =
    let numbers = c.args.numbers.now in
    le_trans (number-lines-front numbers k) (number-lines-length numbers (record { each = λ i. (c.type_inv.numbers i).fits }))

pub loop-number-init : goal.loop-number-init
unfolding number_lines
loop-number-init c = placed-none (omega (arith, c.requires))

pub put_number-end-requires : goal.put_number-end-requires
put_number-end-requires c =
    let l = c.loop-number in
    let up-to-next = rw (← number-lines-next c.args.numbers.now l.number-index (omega arith), length-append) at (front (goal.at.put_number-end-requires c).At-loop-number (suc l.number-index)) in
    omega (arith, c.requires, l.invariant.ends, placed-length l.invariant, up-to-next)

pub loop-number-preserved : goal.loop-number-preserved
loop-number-preserved c =
    let l = c.loop-number in
    rw (add-one l.number-index, ← number-lines-next c.args.numbers.now l.number-index (omega arith)) (placed_then l.invariant c.put_number-end.ensures)

pub returns-clause-upper_bound : goal.returns-clause-upper_bound
returns-clause-upper_bound c = omega (arith, c.loop-number.invariant.ends, front (goal.at.returns-clause-upper_bound c).At-loop-number c.loop-number.number-index)
