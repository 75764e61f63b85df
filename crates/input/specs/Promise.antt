-- Document 01, "The program `verdicts`": the text of a whole input, from what was read of it into a buffer.
-- Assumes nothing.
use Rattle.std.specs.Prelude.{ℕ, ◌*◌, min, ◌≡◌, List, length, take}
use Rattle.blocks.specs.Block.{block_length}
use Rattle.form.specs.declared.Form.TheVariants.{Second}
use Rattle.form.specs.Form.{most_blocks}
use Rattle.judgement.specs.Promise.{Printed, TextPromise, unique_text}

-- the bytes of the longest sheet
abbrev pub most_bytes : ℕ
most_bytes = most_blocks Second * block_length

-- what reading until the buffer is full or the input ends leaves, as `read_full` says of itself where no read fails
pub record Read (input buffer : List ℕ) (read : ℕ) : Type 0 where
  -- all of the input was read, or as much of it as the buffer has room for
  pub many : read ≡ min (length buffer) (length input)
  -- and it stands at the buffer's front
  pub front : take read buffer ≡ take read input

-- what making the text promises
pub record Promise (buffer : List ℕ) (read : ℕ) (lent : List ℕ) (o : Printed) : Type 0 where
  -- the text is that of so many bytes at the buffer's front, or of the whole buffer where it has fewer
  pub of_read : TextPromise (take read buffer) lent o
  -- and that of every input which leaves the buffer so when it is read, however long it is
  pub of_input : (input : List ℕ) → Read input buffer read → TextPromise input lent o

-- it leaves one answer and one content of the lent memory
pub unique : {buffer : List ℕ} {read : ℕ} {lent : List ℕ} {o o' : Printed} → Promise buffer read lent o → Promise buffer read lent o' → o ≡ o'
unique p q = unique_text p.of_read q.of_read
