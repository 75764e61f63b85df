-- The first block of each kind, where it has any, and bytes that have all blocks.
-- Assumes nothing.
use Rattle.std.specs.Prelude.{ℕ, ◌+◌, ◌*◌, ◌≤◌, List, length}
use Rattle.blocks.specs.Block.{block_length}
use Rattle.blocks.specs.Layout.{blocks_in}
use Rattle.form.specs.declared.Form.{Form}
use Rattle.form.specs.declared.Head.{Head}
use Rattle.form.specs.Form.{head_layout, workload_layout, outside_layout, edge_layout, constraint_layout, colouring_layout, count_layout, dues}
use Rattle.form.specs.FormLaws.{HeadLimits}

abbrev pub workload_first : Form → ℕ
workload_first f = 0 + blocks_in (head_layout f)

abbrev pub outside_first : Form → Head → ℕ
outside_first f h = workload_first f + blocks_in (workload_layout h)

abbrev pub edge_first : Form → Head → ℕ
edge_first f h = outside_first f h + blocks_in (outside_layout f h)

abbrev pub constraint_first : Form → Head → ℕ
constraint_first f h = edge_first f h + blocks_in (edge_layout h)

abbrev pub colouring_first : Form → Head → ℕ
colouring_first f h = constraint_first f h + blocks_in (constraint_layout h)

abbrev pub count_first : Form → Head → ℕ
count_first f h = colouring_first f h + blocks_in (colouring_layout h)

abbrev pub visit_first : Form → Head → ℕ
visit_first f h = count_first f h + blocks_in (count_layout h)

-- a head is within the limits, and there are as many bytes as it asks for
pub record HasBlocks (f : Form) (sheet : List ℕ) (h : Head) : Type 0 where
  pub limits : HeadLimits f h
  pub long : block_length * length (dues f h) ≤ length sheet
