-- The call on the front of the array of the records is the call on their numbers.
use Rattle.records.proofs.Same.{judged-front}
use Rattle.screen.proofs.by_records.sctr_call_records.Goals as goal

pub returns : goal.returns
returns c = judged-front _ _ _ _ _ _ _ _ _ _ _ _ c.args.constraints.now c.array_of.result c.array_of.ensures c.judge_front.ensures
