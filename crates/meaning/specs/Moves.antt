-- Document 01, "Moves and rows", and what the call leaves in the lent memory.
-- Assumes nothing.
use Rattle.std.specs.Prelude.{ℕ, ◌+◌, ◌-◌, ◌*◌, ◌/◌, List, [], ◌∷◌, ◌++◌, Bool, false, cond, not, eqb, ℤ, pos, ◌-ℤ◌, length, get_or, set}
use Rattle.lists.specs.Sums.{at, up_to, bit, list_of, count}
use Rattle.terms.specs.Moves.{move_of, status}
use Rattle.terms.specs.declared.Move.{Move}
use Rattle.terms.specs.declared.Move.TheVariants.{Recolour, Exchange, Ask, Refused}
use Rattle.meaning.specs.Plan.{Constraint, Plan}
use Rattle.meaning.specs.Joined.{labels}
use Rattle.meaning.specs.Kinds.{border, counts, loads, violation, holds, total, region_violation}

-- how many numbers of the flat lists a move, a row and a verdict take
abbrev pub move_length : ℕ
move_length = 3

abbrev pub row_length : ℕ
row_length = 4

abbrev pub verdict_length : ℕ
verdict_length = 2

-- move k, from 0, of the flat list
abbrev pub move_at : Plan → List ℕ → ℕ → Move
move_at P xs k = move_of P.R P.S (get_or xs (move_length * k) 0) (get_or xs (move_length * k + 1) 0) (get_or xs (move_length * k + 2) 0)

-- the moves of the flat list, in its order
unfoldable pub moves_of : Plan → List ℕ → List Move
moves_of P xs = list_of (length xs / move_length) (move_at P xs)

-- region v is given to sector c
abbrev pub recolour : List ℕ → ℕ → ℕ → List ℕ
recolour col v c = set col (v - 1) c

-- two recolourings in turn: a to the sector of b, then b to the old sector of a
abbrev pub swap : List ℕ → ℕ → ℕ → List ℕ
swap col a b = recolour (recolour col a (at col b)) b (at col a)

-- the colouring that making the move gives
abbrev pub tried : List ℕ → Move → List ℕ
tried col (Recolour make v c) = recolour col v.0 c.0
tried col (Exchange make a b) = swap col a.0 b.0
tried col (Ask v) = col
tried col (Refused s) = col

-- whether the move is made: probes, questions and refused moves are not
abbrev pub made : Move → Bool
made (Recolour make v c) = make
made (Exchange make a b) = make
made (Ask v) = false
made (Refused s) = false

-- the colouring after the move
unfoldable pub next : List ℕ → Move → List ℕ
next col m = cond (made m) (tried col m) col

-- total after minus total before
abbrev pub change : Plan → List ℕ → List ℕ → ℤ
change P col after = pos (total P after) -ℤ pos (total P col)

-- what making the move there and then gives; of a question, the region's violation
unfoldable pub delta : Plan → List ℕ → Move → ℤ
delta P col (Recolour make v c) = change P col (recolour col v.0 c.0)
delta P col (Exchange make a b) = change P col (swap col a.0 b.0)
delta P col (Ask v) = pos (region_violation P col v.0)
delta P col (Refused s) = pos 0

-- of R regions, how many have another label
unfoldable pub differing : ℕ → List ℕ → List ℕ → ℕ
differing R labels labels' = count (up_to R) (λ u. not (eqb (at labels u) (at labels' u)))

-- the number of labels that differ before and after
unfoldable pub relabelled : Plan → List ℕ → List ℕ → ℕ
relabelled P col after = differing P.R (labels P.edges col) (labels P.edges after)

-- four signed numbers
pub record Row : Type 0 where
  pub status : ℤ
  pub delta : ℤ
  pub total : ℤ
  pub relabelled : ℤ

-- the row of a move on a colouring
unfoldable pub row : Plan → List ℕ → Move → Row
row P col m =
    record {
      status = pos (status m);
      delta = delta P col m;
      total = pos (total P (next col m));
      relabelled = pos (relabelled P col (next col m));
    }

-- a row's numbers in their order
unfoldable pub cells : Row → List ℤ
cells r = r.status ∷ r.delta ∷ r.total ∷ r.relabelled ∷ []

-- the rows of a list of moves, each on the colouring that those before it left
unfoldable pub rows : Plan → List ℕ → List Move → List ℤ
rows P col [] = []
rows P col (m ∷ ms) = cells (row P col m) ++ rows P (next col m) ms

-- the last colouring
unfoldable pub last : List ℕ → List Move → List ℕ
last col [] = col
last col (m ∷ ms) = last (next col m) ms

-- the verdict on a constraint: 1 or 0 for holds, then its violation
unfoldable pub verdict : Plan → List ℕ → Constraint → List ℕ
verdict P col k = bit (holds P col k) ∷ violation P col k ∷ []

-- the verdicts on some constraints, in their order
unfoldable pub verdicts_of : Plan → List ℕ → List Constraint → List ℕ
verdicts_of P col [] = []
verdicts_of P col (k ∷ ks) = verdict P col k ++ verdicts_of P col ks

-- the verdicts on all constraints of a plan
abbrev pub verdicts : Plan → List ℕ → List ℕ
verdicts P col = verdicts_of P col P.constraints

-- the work memory: R labels, S component counts, S workload sums, T
unfoldable pub work : Plan → List ℕ → List ℕ
work P col = labels P.edges col ++ counts P col ++ loads P col ++ (border P col ∷ [])
