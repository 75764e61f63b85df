-- The figures are all of the text where nothing is torn; else the refusal is put down where they end.
use Rattle.std.proofs.Common.{append-nil}
use Rattle.report.specs.Placed.{placed_then, placed_start}
use Rattle.review.specs.Stream.{review_text}
use Rattle.review.proofs.put_reviewed.Goals as goal

pub returns-in-None-clause-text_after : goal.returns-in-None-clause-text_after
unfolding review_text
returns-in-None-clause-text_after c = rw (c.in-None.is, append-nil) (placed_start c.put_figures-end.ensures.placed)

pub returns-in-Some-clause-text_after : goal.returns-in-Some-clause-text_after
unfolding review_text
returns-in-Some-clause-text_after c = rw c.in-Some.is (placed_start (placed_then c.put_figures-end.ensures.placed c.put_refused.ensures))
