-- Each list of numbers is put down where the one before it ends.
use Rattle.report.specs.Placed.{placed_then}
use Rattle.review.specs.Printed.{figure_lines}
use Rattle.review.proofs.put_figures.Goals as goal

pub returns-clause-placed : goal.returns-clause-placed
returns-clause-placed c =
    let p = placed_then (placed_then c.put_lines-past_counts.ensures.placed c.put_lines-past_failed.ensures.placed) c.put_lines.ensures.placed in
    rw (c.shown-smallest.ensures, c.shown-largest.ensures, figure_lines c.args.review) at p
