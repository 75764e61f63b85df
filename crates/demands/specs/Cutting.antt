-- A list of moves that is cut between two moves and run as two calls gives what one call gives with all moves.
-- Assumes nothing.
use Rattle.std.specs.Prelude.{◌≡◌, ◌++◌}
use Rattle.meaning.specs.Moves.{rows}
use Rattle.call.specs.Promise.{Input, Outcome}
use Rattle.demands.specs.Calls.{SamePlan}

-- the moves of one call are cut and run as two: the second call goes on from the colouring that the first left; what is lent to it for rows, verdicts and work memory may hold anything
pub record Cut (all first second : Input) (left : Outcome) : Type 0 where
  pub first_plan : SamePlan all first
  pub second_plan : SamePlan all second
  pub moves : all.moves ≡ first.moves ++ second.moves
  pub start : first.colouring ≡ all.colouring
  pub goes_on : second.colouring ≡ left.colouring
