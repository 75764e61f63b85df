-- With the region lifted out, its pieces are the components of its sector that share a face with it; then it is put back.
use Rattle.meaning.specs.Faces.{pieces}
use Rattle.search.specs.Looking.{lifting_back}
use Rattle.search.proofs.pieces_at.Goals as goal

pub returns : goal.returns
unfolding pieces
returns c = record { value = c.count_beside-left.ensures.value; colouring_unchanged = lifting_back c.requires c.count_beside-left.ensures.colouring_unchanged }
