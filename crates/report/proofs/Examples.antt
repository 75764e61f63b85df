-- Worked lines of the texts that the programs print.
-- Assumes nothing.
use Rattle.std.specs.Prelude.{◌≡◌, refl, [], ◌∷◌}
use Rattle.report.specs.Decimal.{decimal, spelled}
use Rattle.report.specs.Text.{ascii, line, lines, number, refused_text, total_line, verdict_text}

-- the five lines for sheet A
pub sheet_a_lem : verdict_text (1 ∷ 3 ∷ 2 ∷ 100 ∷ 2 ∷ 1 ∷ 5 ∷ 1 ∷ 3 ∷ 1 ∷ 40 ∷ 2 ∷ 4 ∷ 1 ∷ 55 ∷ 3 ∷ []) (1 ∷ 0 ∷ 1 ∷ 0 ∷ 1 ∷ 0 ∷ 0 ∷ 5 ∷ []) 15
    ≡ ascii "1 1 1 0\n2 2 1 0\n3 3 1 0\n4 4 0 5\ntotal 15\n"
unfolding spelled decimal number line lines total_line verdict_text
sheet_a_lem = refl

-- a sheet of no block
pub no_sheet : refused_text 31 0 ≡ ascii "refused 31 0\n"
unfolding spelled decimal number refused_text
no_sheet = refl
