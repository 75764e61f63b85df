-- Judging says whether the sheet is refused, and leaves its constraints and verdicts at the fronts of the lists; the callees make the figures of these.
use Rattle.std.proofs.Common.{◌∙◌}
use Rattle.review.specs.Bounds.{sound_few, refused_few, zero_few, failed_few}
use Rattle.review.specs.Judging.{judged-refused, judged-sound}
use Rattle.review.proofs.Review.with_sheet.Goals as goal

-- Of what is counted before this sheet there is less than there may be,
-- so that it can be counted as refused, by its kinds, and as sound.
pub with_refused-requires : goal.with_refused-requires
with_refused-requires c = refused_few c.requires.0 c.requires.1

pub with_failed-failed-requires-clause-every : goal.with_failed-failed-requires-clause-every
with_failed-failed-requires-clause-every c = failed_few c.requires.0 c.requires.1

pub with_sound-requires : goal.with_sound-requires
with_sound-requires c = (sound_few c.requires.0 c.requires.1, zero_few c.requires.0 c.requires.1)

pub returns-in-Err : goal.returns-in-Err
returns-in-Err c = c.with_refused.ensures ∙ judged-refused c.args.self c.args.place c.in-Err.ensures

pub returns-in-Ok : goal.returns-in-Ok
returns-in-Ok c = c.with_sound.ensures ∙ judged-sound c.args.self c.args.place c.in-Ok.ensures c.with_failed-failed.ensures
