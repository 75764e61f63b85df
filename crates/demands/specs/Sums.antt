-- The deltas of the moves that a call makes, read out of its rows, sum to the last total minus the first: so two lists of moves that lead from one colouring to another have one sum.
-- Assumes nothing.
use Rattle.std.specs.Prelude.{ℕ, cond, List, [], ◌∷◌, ℤ, pos, ◌+ℤ◌}
use Rattle.terms.specs.Moves.{status}
use Rattle.terms.specs.declared.Move.{Move}
use Rattle.meaning.specs.Plan.{Plan}
use Rattle.meaning.specs.Kinds.{total}
use Rattle.meaning.specs.Moves.{made, next, delta, rows}
use Rattle.demands.specs.MoveNumbers.{is_made}

-- the sum of the deltas of the made moves, from the numbers of the moves, three each, and of the rows, four each
unfoldable pub made_sum : List ℕ → List ℤ → ℤ
made_sum [] rows = pos 0
made_sum (kind ∷ []) rows = pos 0
made_sum (kind ∷ a ∷ []) rows = pos 0
made_sum (kind ∷ a ∷ b ∷ moves) [] = pos 0
made_sum (kind ∷ a ∷ b ∷ moves) (status ∷ []) = pos 0
made_sum (kind ∷ a ∷ b ∷ moves) (status ∷ delta ∷ []) = pos 0
made_sum (kind ∷ a ∷ b ∷ moves) (status ∷ delta ∷ total ∷ []) = pos 0
made_sum (kind ∷ a ∷ b ∷ moves) (status ∷ delta ∷ total ∷ relabelled ∷ rows) =
    cond (is_made kind status) delta (pos 0) +ℤ made_sum moves rows

-- the sum of the deltas of the made moves of a list, each on the colouring that those before it left
unfoldable pub made_deltas : Plan → List ℕ → List Move → ℤ
made_deltas P col [] = pos 0
made_deltas P col (m ∷ ms) = cond (made m) (delta P col m) (pos 0) +ℤ made_deltas P (next col m) ms
