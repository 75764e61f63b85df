-- Document 02, C-22: an input, sheet after sheet, each preceded by its block count; and what is printed of it.
-- Assumes nothing.
use Rattle.std.specs.Prelude.{ℕ, zero, suc, ◌+◌, ◌*◌, Bool, cond, ◌&&◌, Option, None, Some, List, [], ◌∷◌, ◌++◌, leb, length, take, drop}
use Rattle.terms.specs.Plan.{within}
use Rattle.packing.specs.Numbers.{val}
use Rattle.packing.specs.Part.{part}
use Rattle.blocks.specs.Block.{block_length}
use Rattle.form.specs.declared.Form.TheVariants.{Second}
use Rattle.form.specs.Form.{most_blocks}
use Rattle.meaning.specs.Plan.{most_kind}
use Rattle.report.specs.Text.{number_lines, refused_text, most_number, most_refused}
use Rattle.review.specs.declared.Announced.{Announced}
use Rattle.review.specs.declared.Announced.TheVariants.{Nothing, Wrong, Blocks}
use Rattle.review.specs.declared.Review.{Review}
use Rattle.review.specs.declared.Reviewed.{Reviewed}
use Rattle.review.specs.Review.{shown, review_of}

-- ---- what is read

-- the most sheets that are read
abbrev pub most_sheets : ℕ
most_sheets = 1_000

-- the bytes of a block count
abbrev pub count_length : ℕ
count_length = 2

-- the number that the two bytes at the front make, the lower one first
abbrev pub said_by : List ℕ → ℕ
said_by bytes = val (part 0 count_length bytes)

-- both are there, and they say 1 to 74
unfoldable pub count_right : List ℕ → Bool
count_right bytes = leb count_length (length bytes) && within 1 (said_by bytes) (most_blocks Second)

-- the bytes of the sheet that they announce
abbrev pub size_said : List ℕ → ℕ
size_said bytes = block_length * said_by bytes

-- what stands where a count is due: nothing where the input ends there, and else a right count of blocks, or a wrong one
unfoldable pub announced_by : List ℕ → Announced
announced_by [] = Nothing
announced_by (b ∷ bs) = cond (count_right (b ∷ bs)) (Blocks (said_by (b ∷ bs))) Wrong

-- a right count stands at the front, and all of its sheet comes after it
unfoldable pub whole_sheet : List ℕ → Bool
whole_sheet bytes = count_right bytes && leb (count_length + size_said bytes) (length bytes)

-- the sheets that are read, and the place of the one that 18 refuses, where there is one
pub record Stream : Type 0 where
  pub sheets : List (List ℕ)
  pub torn : Option ℕ

-- what is read of the bytes from a place on, where so many sheets are left to read
unfoldable pub stream_from : ℕ → ℕ → List ℕ → Stream
-- what follows the last is not read
stream_from zero place bytes = record { sheets = []; torn = None }
-- the input ends well before a count
stream_from (suc left) place [] = record { sheets = []; torn = None }
-- else a whole sheet comes, or 18 refuses it and reading stops
stream_from (suc left) place (b ∷ bs) =
    let rest = drop count_length (b ∷ bs) in
    let size = size_said (b ∷ bs) in
    let later = stream_from left (suc place) (drop size rest) in
    cond (whole_sheet (b ∷ bs)) (record { sheets = take size rest ∷ later.sheets; torn = later.torn }) (record { sheets = []; torn = Some place })

-- what is read of an input: places are from 1
abbrev pub stream_of : List ℕ → Stream
stream_of input = stream_from most_sheets 1 input

-- ---- what is printed

-- the figures over the sheets that are read, and the place of the one that 18 refuses
unfoldable pub reviewed : List ℕ → Reviewed
reviewed input = let s = stream_of input in record { review = review_of s.sheets; torn = s.torn }

-- the figures in the order of their lines
unfoldable pub numbers : Review → List ℕ
numbers r =
    r.sound ∷ r.refused ∷ r.zero
    ∷ (r.failed ++ ((shown r.smallest).total ∷ (shown r.smallest).place ∷ (shown r.largest).total ∷ (shown r.largest).place ∷ []))

-- the line of a refusal by 18, where there is one
abbrev pub torn_text : Option ℕ → List ℕ
torn_text None = []
torn_text (Some place) = refused_text 18 place

-- the figures, one number a line, and the line of a refusal
unfoldable pub review_text : Reviewed → List ℕ
review_text r = number_lines (numbers r.review) ++ torn_text r.torn

-- what is printed of an input
abbrev pub printed_of : List ℕ → List ℕ
printed_of input = review_text (reviewed input)

-- the longest text: three counts, one for each kind, two totals and two places, each on a line, then a refusal
abbrev pub most_review_text : ℕ
most_review_text = (7 + most_kind) * most_number + most_refused
