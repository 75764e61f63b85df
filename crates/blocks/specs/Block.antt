-- Document 01, "The sheet": a block of 512 bytes, and what is wrong with one.
-- Assumes nothing.
use Rattle.std.specs.Prelude.{ℕ, ◌+◌, ◌-◌, List, [], ◌∷◌, ◌++◌, Bool, true, false, ◌&&◌, length, replicate}
use Rattle.packing.specs.Part.{part}
use Rattle.packing.specs.Numbers.{le}
use Rattle.blocks.specs.Fletcher.{check}
use Rattle.blocks.specs.Same.{same}

-- a block has 512 bytes
abbrev pub block_length : ℕ
block_length = 512

-- the first four are the letters
abbrev pub letters_length : ℕ
letters_length = 4

-- then comes the block kind
abbrev pub kind_at : ℕ
kind_at = letters_length

-- then a zero
abbrev pub zero_at : ℕ
zero_at = 5

-- then the block number
abbrev pub number_at : ℕ
number_at = 6

-- then the count of used payload bytes
abbrev pub used_at : ℕ
used_at = 8

-- these ten bytes are the header
abbrev pub header_length : ℕ
header_length = 10

-- the next 500 are for the payload
abbrev pub most_payload : ℕ
most_payload = 500

-- the check is over all of these
abbrev pub checked_length : ℕ
checked_length = header_length + most_payload

-- ---- a block that is written

-- bytes 0 to 9: letters, kind, zero, block number, used count
unfoldable pub header : List ℕ → ℕ → ℕ → ℕ → List ℕ
header letters kind number used = letters ++ (kind ∷ 0 ∷ (le 2 number ++ le 2 used))

-- bytes 0 to 509: the header, and the payload with zeros after it
unfoldable pub body : List ℕ → ℕ → ℕ → List ℕ → List ℕ
body letters kind number payload =
    header letters kind number (length payload) ++ (payload ++ replicate (most_payload - length payload) 0)

-- all bytes: with the check at the end
unfoldable pub block_of : List ℕ → ℕ → ℕ → List ℕ → List ℕ
block_of letters kind number payload = body letters kind number payload ++ check (body letters kind number payload)

-- ---- a block that is read

-- its used payload
abbrev pub payload_of : ℕ → List ℕ → List ℕ
payload_of used block = part header_length (header_length + used) block

-- the code of the first of five tests that fails: 32 letters, 33 check, 34 kind or block number, 35 used count, 36 a non-zero byte where zero is due; 0 where none fails
unfoldable pub first_wrong : Bool → Bool → Bool → Bool → Bool → ℕ
first_wrong false check due used zeros = 32
first_wrong true false due used zeros = 33
first_wrong true true false used zeros = 34
first_wrong true true true false zeros = 35
first_wrong true true true true false = 36
first_wrong true true true true true = 0

-- what is wrong with a block of which these letters, this kind and number, and this used count are due
unfoldable pub wrong : List ℕ → ℕ → ℕ → ℕ → List ℕ → ℕ
wrong letters kind number used block =
    first_wrong
    (same (part 0 kind_at block) letters)
    (same (part checked_length block_length block) (check (part 0 checked_length block)))
    (same (part kind_at zero_at block) (kind ∷ []) && same (part number_at used_at block) (le 2 number))
    (same (part used_at header_length block) (le 2 used))
    (same (part zero_at number_at block) (0 ∷ []) && same (part (header_length + used) checked_length block) (replicate (most_payload - used) 0))
