-- Where at most one piece is left and the region was not the smallest of its component no label changes, and otherwise the pieces are labelled anew.
use native.Mathlib.Omega.{arith}
use mathlib.Core.Path.{refl, sym}
use Rattle.relabel.specs.Differing.{differing-none}
use Rattle.relabel.specs.Lifting.{leaving_size, leaving_still, leaving_end}
use Rattle.relabel.proofs.leave.Goals as goal

pub bounds-labels-region : goal.bounds-labels-region
bounds-labels-region c = omega (arith, leaving_size c.requires)

pub returns-then-labels-region : goal.returns-then-labels-region
returns-then-labels-region c = record { colouring_unchanged = refl; labels_after = leaving_still c.requires c.if-pieces-le1.true c.if-labels-region.true; value = sym (differing-none _ _) }

pub relabel_pieces-requires : goal.relabel_pieces-requires
relabel_pieces-requires c = record { counting = c.requires.lifted.counting; labels_len = leaving_size c.requires }

pub returns : goal.returns
returns c = record { colouring_unchanged = c.relabel_pieces.ensures.colouring_unchanged; labels_after = leaving_end c.requires c.relabel_pieces.ensures.renewed; value = c.relabel_pieces.ensures.renewed.number }
