-- What the region meets and its pieces are what a look finds.
use Rattle.search.specs.Looking.{looking_lifting}
use Rattle.search.proofs.look_anew.Goals as goal

pub pieces_at-left-requires : goal.pieces_at-left-requires
pieces_at-left-requires c = looking_lifting c.requires c.meet_anew-met.ensures.colouring_unchanged c.meet_anew-met.auto.queue
