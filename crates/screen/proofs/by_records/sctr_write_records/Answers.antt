-- Writing with the front of the array of the records is writing with their numbers.
use Rattle.records.proofs.Same.{written-front}
use Rattle.screen.proofs.by_records.sctr_write_records.Goals as goal

pub returns : goal.returns
returns c = written-front _ _ _ _ _ _ c.args.constraints.now c.array_of.result c.array_of.ensures c.write_front.ensures
