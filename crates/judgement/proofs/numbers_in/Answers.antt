-- What is answered is all that is kept of the judgement.
use Rattle.judgement.specs.Told.{leaves_told}
use Rattle.judgement.proofs.numbers_in.Goals as goal

pub returns : goal.returns
returns c = leaves_told c.judge_sheet.ensures
