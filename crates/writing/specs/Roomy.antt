-- A sheet put down where there is room for it.
-- Assumes nothing.
use Rattle.std.specs.Prelude.{ℕ, ◌*◌, ◌≤◌, ◌<◌, ◌≡◌, cond, List, leb, length}
use Rattle.std.proofs.lemmas.Bool.{lt-leb}
use Rattle.std.proofs.Common.{le-leb}
use Rattle.refusals.specs.Table.{refused}
use Rattle.blocks.specs.Block.{block_length}
use Rattle.blocks.specs.Layout as blocks
use Rattle.form.specs.declared.Form.{Form}
use Rattle.form.specs.declared.Head.{Head}
use Rattle.form.specs.Form.{letters, layouts, dues}
use Rattle.form.specs.Over.{over}
use Rattle.writing.specs.declared.Written.{Written}
use Rattle.writing.specs.Promise.{Outcome, refused_answer, written_answer, left}

-- the numbers of each kind are put down as a sheet, or, where the lent bytes are too few, nothing is and the answer is 40
abbrev pub Puts : Form → Head → List (List ℕ) → List ℕ → Outcome → Type 0
Puts f h nss lent o =
    let bytes = block_length * length (dues f h) in
    o ≡ cond (leb bytes (length lent)) (left (written_answer bytes) (over (blocks.sheet_of (letters f) (layouts f h) nss) lent)) (left (refused_answer (refused 40 0)) lent)

module _ (f : Form) (h : Head) (nss : List (List ℕ)) (lent : List ℕ) {n : ℕ} (m : n ≡ length (dues f h)) where
  -- bytes that are too few stay as they are
  pub puts_short : {r : Written} → length lent < block_length * n → r ≡ refused_answer (refused 40 0) → Puts f h nss lent (left r lent)
  puts_short l e = rw (lt-leb (block_length * length (dues f h)) (length lent) (rw m at l), e)

  -- where they are enough, the sheet stands at their front
  pub puts_enough : {out : List ℕ} → block_length * n ≤ length lent → out ≡ over (blocks.sheet_of (letters f) (layouts f h) nss) lent → Puts f h nss lent (left (written_answer (block_length * n)) out)
  puts_enough l e = rw (le-leb (block_length * length (dues f h)) (length lent) (rw m at l), e, m)
