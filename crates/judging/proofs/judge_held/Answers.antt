-- The lists that are held are those of contents that the call takes, so that it is not refused, and its last colouring is the one that it was lent.
use Rattle.std.proofs.Common.{arith, ◌∙◌}
use Rattle.holding.specs.Held.{contents_held}
use Rattle.judging.specs.NoMoves.{judges_lists}
use Rattle.judging.proofs.judge_held.Goals as goal

pub returns : goal.returns
returns c =
    let colouring = c.copy_from_slice.ensures.after ∙ c.colouring_in.ensures in
    judges_lists (contents_held c.args.head c.args.held.now) _ _ _ c.requires.held_value c.requires.most_constraints_in_bounds (omega arith) c.lists_in.ensures colouring c.judge-answer.ensures
