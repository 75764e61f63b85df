-- Document 01, "The sheet": the blocks that are due in turn, the bytes of their payloads as one stream, and the first block that is refused.
-- Assumes nothing.
use Rattle.std.specs.Prelude.{ℕ, zero, suc, ◌*◌, List, [], ◌∷◌, ◌++◌, take, drop}
use Rattle.packing.specs.Part.{part}
use Rattle.refusals.specs.declared.Refusal.{Refusal}
use Rattle.refusals.specs.Table.{refused, none}
use Rattle.blocks.specs.declared.Due.{Due}
use Rattle.blocks.specs.Block.{block_length, block_of, payload_of, wrong}

-- block n of a sheet
abbrev pub block_at : List ℕ → ℕ → List ℕ
block_at sheet n = take block_length (drop (block_length * n) sheet)

-- the blocks of a stream, from block n on
abbrev pub sheet_from : List ℕ → ℕ → List Due → List ℕ → List ℕ
sheet_from letters n [] stream = []
sheet_from letters n (d ∷ ds) stream =
    block_of letters d.kind n (take d.used stream) ++ sheet_from letters (suc n) ds (drop d.used stream)

-- the stream of blocks: their used payloads
abbrev pub stream_from : List Due → List ℕ → List ℕ
stream_from [] sheet = []
stream_from (d ∷ ds) sheet = payload_of d.used (take block_length sheet) ++ stream_from ds (drop block_length sheet)

-- a code at its place, or where it is 0 what is refused later
abbrev pub or_later : ℕ → ℕ → Refusal → Refusal
or_later zero place later = later
or_later (suc code) place later = refused (suc code) place

-- the first block that is refused, from block n on: its code and its number
abbrev pub fault_from : List ℕ → ℕ → List Due → List ℕ → Refusal
fault_from letters n [] sheet = none
fault_from letters n (d ∷ ds) sheet =
    or_later (wrong letters d.kind n d.used (take block_length sheet)) n (fault_from letters (suc n) ds (drop block_length sheet))

-- the first of the blocks from block `from` up to block `to` that is refused
abbrev pub fault_within : List ℕ → List Due → List ℕ → ℕ → ℕ → Refusal
fault_within letters ds sheet from to = fault_from letters from (part from to ds) (drop (block_length * from) sheet)
