-- The texts that the programs print: document 01, "The program `verdicts`"; document 02, C-22.
-- Assumes nothing.
use Rattle.std.specs.Prelude.{ℕ, zero, suc, ◌+◌, ◌*◌, ◌/◌, List, [], ◌∷◌, ◌++◌, length, get_or}
use Prim.Native.Char.{code}
use Prim.Native.String as string
use Rattle.meaning.specs.Plan.{constraint_length, constraint_at, most_constraints}
use Rattle.meaning.specs.Moves.{verdict_length}
use Rattle.report.specs.Decimal.{decimal, most_digits}

-- the bytes of a text in ASCII
abbrev pub ascii : string.String → List ℕ
ascii string.[] = []
ascii (string.◌∷◌ c s) = code c ∷ ascii s

-- what stands between the numbers of a line
abbrev pub space : ℕ
space = 32

-- what ends a line
abbrev pub newline : ℕ
newline = 10

-- a number in decimal, and the byte after it
unfoldable pub number : ℕ → ℕ → List ℕ
number n after = decimal n ++ (after ∷ [])

-- the line of a constraint: its place, its kind, 1 or 0 for holds, its violation
unfoldable pub line : ℕ → ℕ → ℕ → ℕ → List ℕ
line place kind holds violation = number place space ++ number kind space ++ number holds space ++ number violation newline

-- the line of constraint k, from 0, of the flat lists: its place is from 1
abbrev pub line_at : List ℕ → List ℕ → ℕ → List ℕ
line_at constraints verdicts k =
    line (k + 1) (constraint_at constraints k).kind (get_or verdicts (verdict_length * k) 0) (get_or verdicts (verdict_length * k + 1) 0)

-- the lines of the first n constraints, in their order
unfoldable pub lines : List ℕ → List ℕ → ℕ → List ℕ
lines constraints verdicts zero = []
lines constraints verdicts (suc n) = lines constraints verdicts n ++ line_at constraints verdicts n

-- the line of the total
unfoldable pub total_line : ℕ → List ℕ
total_line total = ascii "total " ++ number total newline

-- what is printed of the verdicts: a line for each constraint, then the total
unfoldable pub verdict_text : List ℕ → List ℕ → ℕ → List ℕ
verdict_text constraints verdicts total = lines constraints verdicts (length constraints / constraint_length) ++ total_line total

-- what is printed of a refusal
unfoldable pub refused_text : ℕ → ℕ → List ℕ
refused_text code place = ascii "refused " ++ number code space ++ number place newline

-- each number on a line of its own
unfoldable pub number_lines : List ℕ → List ℕ
number_lines [] = []
number_lines (n ∷ ns) = number n newline ++ number_lines ns

-- ---- the longest text

-- a number and the byte after it
abbrev pub most_number : ℕ
most_number = most_digits + 1

-- four numbers
abbrev pub most_line : ℕ
most_line = 4 * most_number

-- a word and two numbers
abbrev pub most_refused : ℕ
most_refused = length (ascii "refused ") + 2 * most_number

-- a line for each constraint, the word before the total, and the total
abbrev pub most_text : ℕ
most_text = most_constraints * most_line + (length (ascii "total ") + most_number)
