-- The lines so far stand at the buffer's start, each turn puts down the next where they end, and the longest text has room.
use Rattle.std.proofs.Common.{◌≡◌, ◌/◌, length, arith, length-append, add-one}
use Rattle.meaning.specs.Plan.{constraint_length}
use Rattle.report.specs.Placed.{Placed, placed-none, placed-length, placed_then, placed_start}
use Rattle.report.specs.Text.{lines, verdict_text}
use Rattle.report.specs.TextLaws.{Words, line-at-length, lines-length, verdict-length}
use Rattle.report.proofs.put_verdicts.Goals as goal
use Rattle.report.proofs.put_verdicts.Goals.{After-loop-k, At-loop-k}

words : (c : At-loop-k) → Words c.args.constraints.now × Words c.args.verdicts.now
words c = (record { each = λ i. (c.type_inv.constraints i).fits }, record { each = λ i. (c.type_inv.verdicts i).fits })

-- past the last constraint all lines stand there
all_placed : (c : After-loop-k) → Placed c.args.text.now 0 (lines c.args.constraints.now c.args.verdicts.now (length c.args.constraints.now / constraint_length)) c.loop-k.text c.loop-k.end
all_placed c = let e : c.loop-k.k ≡ length c.args.constraints.now / constraint_length = omega arith in rw e at c.loop-k.invariant

pub loop-k-init : goal.loop-k-init
unfolding lines
loop-k-init c = placed-none (omega arith)

pub put_line_at-end-requires-clause-k_in_bounds_2 : goal.put_line_at-end-requires-clause-k_in_bounds_2
put_line_at-end-requires-clause-k_in_bounds_2 c =
    let w = words (goal.at.put_line_at-end-requires-clause-k_in_bounds_2 c).At-loop-k in
    omega (
      arith,
      placed-length c.loop-k.invariant,
      lines-length w.0 w.1 c.loop-k.k (omega arith),
      line-at-length w.0 w.1 c.loop-k.k (omega arith),
    )

pub loop-k-preserved : goal.loop-k-preserved
unfolding lines
loop-k-preserved c = rw (add-one c.loop-k.k) (placed_then c.loop-k.invariant c.put_line_at-end.ensures)

pub put_total-requires : goal.put_total-requires
unfolding verdict_text
put_total-requires c =
    let w = words (goal.at.put_total-requires c).At-loop-k in
    let p = all_placed (goal.at.put_total-requires c).After-loop-k in
    omega (arith, p.ends, placed-length p, rw length-append at (verdict-length w.0 w.1 c.ranges.total.fits c.requires.constraint_length_len_bound))

pub returns-clause-text_after : goal.returns-clause-text_after
unfolding verdict_text
returns-clause-text_after c = placed_start (placed_then (all_placed (goal.at.returns-clause-text_after c).After-loop-k) c.put_total.ensures)
