-- What follows where nothing of a sheet is refused, and what is enough for that.
-- Assumes nothing.
use Rattle.std.specs.Prelude.{ℕ, ◌*◌, ◌≡◌, List, length}
use Rattle.blocks.specs.Block.{block_length}
use Rattle.blocks.specs.Sheet.{fault_from}
use Rattle.form.specs.declared.Form.{Form}
use Rattle.form.specs.Form.{letters, dues, head_in, contents_in}
use Rattle.form.specs.FormLaws.{HeadLimits}
use Rattle.form.specs.Refusals.{head_fault, contents_refusal}

-- the head is right, its numbers are within the limits, and there are as many blocks as it asks for
pub record Opened (f : Form) (sheet : List ℕ) : Type 0 where
  pub head : head_fault f sheet ≡ 0
  pub limits : HeadLimits f (head_in f sheet)
  pub long : length sheet ≡ block_length * length (dues f (head_in f sheet))

-- it is opened, no block of it is refused, and nothing that they hold
pub record Accepted (f : Form) (sheet : List ℕ) : Type 0 where
  pub opened : Opened f sheet
  pub sound : (fault_from (letters f) 0 (dues f (head_in f sheet)) sheet).code ≡ 0
  pub valid : (contents_refusal f (contents_in f sheet)).code ≡ 0
