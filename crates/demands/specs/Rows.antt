-- The rows that a call leaves: row k is that of move k, on the colouring that the moves before it lead to; then what document 01 says of rows, one by one.
-- Assumes nothing.
use Rattle.std.specs.Prelude.{ℕ, ◌+◌, ◌*◌, List, ℤ, get_or, take}
use Rattle.std.proofs.Math.IntN.{pos}
use Rattle.terms.specs.Moves.{status}
use Rattle.meaning.specs.Joined.{labels}
use Rattle.meaning.specs.Kinds.{total}
use Rattle.meaning.specs.Moves.{move_length, moves_of, delta, relabelled, Row, row, last}
use Rattle.call.specs.Promise.{Input, Outcome, plan_in}
use Rattle.demands.specs.MoveLists.{row_at}

-- the kind, the first and the second number of move k, from 0
abbrev pub kind_at : Input → ℕ → ℕ
kind_at i k = get_or i.moves (move_length * k) 0

abbrev pub first_at : Input → ℕ → ℕ
first_at i k = get_or i.moves (move_length * k + 1) 0

abbrev pub second_at : Input → ℕ → ℕ
second_at i k = get_or i.moves (move_length * k + 2) 0

-- the colouring that the moves before move k lead to
unfoldable pub colouring_at : Input → ℕ → List ℕ
colouring_at i k = last i.colouring (moves_of (plan_in i) (take (move_length * k) i.moves))

-- its total
abbrev pub total_at : Input → ℕ → ℕ
total_at i k = total (plan_in i) (colouring_at i k)

-- its labels
abbrev pub labels_at : Input → ℕ → List ℕ
labels_at i k = labels (plan_in i).edges (colouring_at i k)

-- row k, from 0, of those that a call leaves
abbrev pub row_left : Outcome → ℕ → Row
row_left o k = row_at o.rows k

-- a row that reports the current total, and no region relabelled
abbrev pub still : ℤ → ℤ → ℕ → Row
still status delta total = record { status = status; delta = delta; total = pos total; relabelled = pos 0 }
