-- What is printed is the number in decimal, and is put down as a word.
use Rattle.std.proofs.Common.{◌≡◌, ◌∙◌}
use Rattle.report.specs.Decimal.{decimal, decimal_printed}
use Rattle.report.proofs.put_decimal.Goals as goal
use Rattle.report.proofs.put_decimal.Goals.{After-as_bytes}

-- the bytes that are printed are n in decimal
bytes : (c : After-as_bytes) → c.as_bytes.result.now ≡ decimal c.args.n
bytes c = c.as_bytes.ensures.value ∙ c.format.ensures.text ∙ decimal_printed c.args.n c.ranges.n.fits

pub put_word-requires : goal.put_word-requires
put_word-requires c = rw (bytes (goal.at.put_word-requires c).After-as_bytes) c.requires

pub returns : goal.returns
returns c = rw (bytes (goal.at.returns c).After-as_bytes) at c.put_word.ensures
