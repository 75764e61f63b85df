-- By the form: the first sheet is asked about, and the second carries everything.
use Rattle.conversion.specs.Promise.{carries}
use Rattle.conversion.proofs.carries_whole.Goals as goal

pub returns-in-First : goal.returns-in-First
returns-in-First c = rw c.in-First.is c.first_carries.ensures

pub returns-in-Second : goal.returns-in-Second
unfolding carries
returns-in-Second c = rw c.in-Second.is
