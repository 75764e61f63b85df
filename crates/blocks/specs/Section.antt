-- Document 01, "The sheet": which blocks are due. Each block is full but the last of its kind; no bytes, no block.
-- Assumes nothing.
use Rattle.std.specs.Prelude.{ℕ, zero, suc, ◌+◌, ◌-◌, ◌/◌, ◌≤◌, min, List, [], ◌∷◌, ◌++◌, length}
use Rattle.lists.specs.Sums.{sum, Every}
use Rattle.blocks.specs.declared.Section.{Section}
use Rattle.blocks.specs.declared.Due.{Due}
use Rattle.blocks.specs.Block.{most_payload}

-- a section: its blocks' kind, the bytes that a full block holds, and all bytes
abbrev pub section : ℕ → ℕ → ℕ → Section
section kind size bytes = record { kind = kind; size = size; bytes = bytes }

-- what is due of a block: its kind and its used count
abbrev pub due : ℕ → ℕ → Due
due kind used = record { kind = kind; used = used }

-- what is due where no block is
abbrev pub no_due : Due
no_due = due 0 0

-- how many blocks hold so many bytes
abbrev pub block_count : ℕ → ℕ → ℕ
block_count size bytes = (bytes + size - 1) / size

-- `count` blocks of a kind: each is full while the bytes last
abbrev pub dues_from : ℕ → ℕ → ℕ → ℕ → List Due
dues_from kind size zero bytes = []
dues_from kind size (suc count) bytes = due kind (min size bytes) ∷ dues_from kind size count (bytes - size)

-- how many blocks a section has
abbrev pub blocks_of : Section → ℕ
blocks_of s = block_count s.size s.bytes

-- the blocks due of a section
abbrev pub section_dues : Section → List Due
section_dues s = dues_from s.kind s.size (blocks_of s) s.bytes

-- the blocks due of all sections in turn
abbrev pub due_of : List Section → List Due
due_of [] = []
due_of (s ∷ ss) = section_dues s ++ due_of ss

-- no block is used for more than a payload
abbrev pub Small : List Due → Type 0
Small ds = Every (λ d. d.used ≤ most_payload) ds

-- the bytes that are used in all
abbrev pub used_all : List Due → ℕ
used_all ds = sum ds (λ d. d.used)

-- a full block holds something, and no more than a payload
pub record Sized (s : Section) : Type 0 where
  pub low : 1 ≤ s.size
  pub high : s.size ≤ most_payload

-- block numbers have two bytes
abbrev pub most_blocks : ℕ
most_blocks = 65536

-- each section is sized, and the blocks can be numbered
pub record Sections (ss : List Section) : Type 0 where
  pub sized : Every Sized ss
  pub few : length (due_of ss) ≤ most_blocks
