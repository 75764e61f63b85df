-- What was read stands at the buffer's front, which has the text of every input that leaves it so.
use Rattle.std.proofs.Common.{◌≡◌, ◌+◌, min, length, arith, rules}
use Rattle.input.specs.Promise.{most_bytes}
use Rattle.input.specs.ReadLaws.{promise_least}
use Rattle.input.proofs.put_text.Goals as goal

pub returns-clause-promise : goal.returns-clause-promise
returns-clause-promise c =
    let room : length c.args.buffer.now ≡ most_bytes + 1 = search rules in
    let least : c.min.result ≡ min c.args.read (length c.args.buffer.now) = rw room (search rules) in
    promise_least (omega (arith, room)) least c.put_text.ensures.text_promise
