-- A buffer that is too short is returned as it is, and another has room for the longest text.
use Rattle.judgement.specs.Printing.{promise_short}
use Rattle.judgement.proofs.put_text.Goals as goal

pub returns-then-text-lt-MOST_TEXT-clause-text_promise : goal.returns-then-text-lt-MOST_TEXT-clause-text_promise
returns-then-text-lt-MOST_TEXT-clause-text_promise c = promise_short _ _ c.if-text-lt-MOST_TEXT.true
