-- What is known is right while the version stands; otherwise it is searched for and put down.
use Rattle.search.specs.Remembered.{remembered_fits, remembered_store}
use Rattle.search.proofs.pieces_of.Goals as goal

pub overflow_add-known : goal.overflow_add-known
overflow_add-known c = record { fits = remembered_fits c.requires.remembered c.requires.lifting.region c.pieces_at-left.ensures.value }

pub returns : goal.returns
returns c = record { value = c.pieces_at-left.ensures.value; colouring_unchanged = c.pieces_at-left.ensures.colouring_unchanged; remembered_2 = remembered_store c.requires.remembered c.requires.lifting.region c.pieces_at-left.ensures.value }
