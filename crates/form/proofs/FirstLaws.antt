-- The first block of each kind, where it has any, and bytes that have all blocks.
-- Assumes nothing.
use Rattle.std.specs.Prelude.{ℕ, ◌+◌, ◌≤◌, ◌≡◌, refl, List, [], ◌∷◌, map, length}
use Rattle.std.proofs.Common.{arith}
use Rattle.packing.specs.Part.{part}
use Rattle.blocks.specs.Block.{block_length}
use Rattle.blocks.specs.Section.{section_dues}
use Rattle.blocks.specs.SectionLaws.{length-due, due-part}
use Rattle.blocks.specs.Layout.{section_of, blocks_in}
use Rattle.form.specs.declared.Form.{Form}
use Rattle.form.specs.declared.Form.TheVariants.{First, Second}
use Rattle.form.specs.declared.Head.{Head}
use Rattle.form.specs.Form.{head_layout, workload_layout, outside_layout, edge_layout, constraint_layout, colouring_layout, count_layout, visit_layout, layouts, dues}
use Rattle.form.specs.FormLaws.{HeadLimits}
use Rattle.form.proofs.FormLaws.{some_block}
use Rattle.form.specs.Firsts.{HasBlocks, colouring_first, count_first, visit_first, workload_first}

-- the head has one
pub after_head : (f : Form) → workload_first f ≡ 1
after_head First = refl
after_head Second = refl

-- the blocks up to the last of the visits are all that are due
pub blocks_all : (f : Form) (h : Head) → length (dues f h) ≡ visit_first f h + blocks_in (visit_layout h)
unfolding layouts
blocks_all f h = simp length-due (omega arith)

-- the colouring has one at least
pub some_colouring : (f : Form) {h : Head} → HeadLimits f h → colouring_first f h + 1 ≤ count_first f h
some_colouring f {h} l = let one : 1 ≤ blocks_in (colouring_layout h) = omega (arith, l.regions.low) in omega (arith, one)

-- those from the first of the colouring up to the first of the counts are due of the colouring
pub colouring-dues : (f : Form) (h : Head) → part (colouring_first f h) (count_first f h) (dues f h) ≡ section_dues (section_of (colouring_layout h))
unfolding layouts
colouring-dues f h =
    let before = map section_of (head_layout f ∷ workload_layout h ∷ outside_layout f h ∷ edge_layout h ∷ constraint_layout h ∷ []) in
    let after = map section_of (count_layout h ∷ visit_layout h ∷ []) in
    due-part before (section_of (colouring_layout h)) after (colouring_first f h) (count_first f h) (simp length-due (omega arith)) refl

-- so there is one at least
pub some_blocks : {f : Form} {sheet : List ℕ} {h : Head} → HasBlocks f sheet h → block_length ≤ length sheet
some_blocks {f} {h = h} b = omega (arith, b.long, some_block f h)
