-- What the region meets and its pieces are what a look finds.
use Rattle.search.specs.Looking.{looking_lifting}
use Rattle.search.specs.Remembered.{remembered_same}
use Rattle.search.proofs.look_at.Goals as goal

pub pieces_of-left-requires : goal.pieces_of-left-requires
pieces_of-left-requires c = record { lifting = looking_lifting c.requires.looking c.meet-met.ensures.colouring_unchanged c.meet-met.auto.queue; remembered = remembered_same c.meet-met.ensures.colouring_unchanged c.requires.remembered }
