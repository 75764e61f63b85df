-- The fronts of the two lists are the constraints and the verdicts of the judgement, so that the text made of them is the sheet's.
use Rattle.judgement.specs.Printing.{text_refused, text_judged, promise_shown}
use Rattle.judgement.proofs.put_judged.Goals as goal

pub returns-in-Err-clause-text_promise : goal.returns-in-Err-clause-text_promise
returns-in-Err-clause-text_promise c = promise_shown _ _ c.requires (text_refused c.in-Err.ensures) c.put_refusal.ensures.text_after

pub returns-in-Ok-clause-text_promise : goal.returns-in-Ok-clause-text_promise
returns-in-Ok-clause-text_promise c = promise_shown _ _ c.requires (text_judged c.in-Ok.ensures) c.put_verdicts.ensures.text_after
