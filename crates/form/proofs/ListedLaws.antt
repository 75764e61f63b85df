-- The sections of all kinds: the blocks' functions take them, and the blocks that they ask for are those due.
-- Assumes nothing.
use Rattle.std.specs.Prelude.{ℕ, ◌≤◌, ◌≡◌, map}
use Rattle.std.proofs.Common.{arith}
use Rattle.packing.specs.Numbers.{total}
use Rattle.blocks.specs.declared.Section.{Section}
use Rattle.blocks.specs.Section.{section, most_blocks as two_bytes, Sections}
use Rattle.blocks.specs.Whole.{Whole}
use Rattle.blocks.specs.Layout.{section_of, Laid, laid_whole, laid_sections}
use Rattle.form.specs.declared.Form.{Form}
use Rattle.form.specs.declared.Form.TheVariants.{First, Second}
use Rattle.form.specs.declared.Head.{Head}
use Rattle.form.specs.declared.sections.Kind.{Kind}
use Rattle.form.specs.declared.sections.Kind.TheVariants.{Workloads, Outside, Edges, Constraints, Colouring, Counts, Visits}
use Rattle.form.specs.Form.{most_blocks, outside_count, head_widths, head_layout, layouts}
use Rattle.form.specs.FormLaws.{HeadLimits}
use Rattle.form.specs.Kinds.{widths_of, count_of, most_of, layout_of}
use Rattle.form.proofs.FormLaws.{bounded, laid_layouts, few_blocks}

-- the blocks of either sheet can be numbered
numbered : (f : Form) {n : ℕ} → n ≤ most_blocks f → n ≤ two_bytes
numbered First h = omega arith
numbered Second h = omega arith

-- the blocks' functions take them
pub listed : (f : Form) {h : Head} → HeadLimits f h → Sections (map section_of (layouts f h))
listed f {h} l = record { sized = laid_sections (layouts f h) (laid_layouts f h); few = numbered f (few_blocks f h l) }

-- the head has one block, which is full
pub section_head : (f : Form) {n : ℕ} → n ≡ total (head_widths f) → section 1 n n ≡ section_of (head_layout f)
section_head First e = rw e
section_head Second e = rw e

-- no more outside areas than regions
pub few_outside : (f : Form) (R : ℕ) → outside_count f R ≤ R
few_outside First R = omega arith
few_outside Second R = omega arith

-- a head within the limits asks for no more records than there may be
pub few_kind : (k : Kind) (f : Form) {h : Head} → HeadLimits f h → count_of k f h ≤ most_of k
few_kind Workloads f l = (bounded f l).regions
few_kind Outside First l = omega arith
few_kind Outside Second l = (bounded Second l).regions
few_kind Edges f l = (bounded f l).edges
few_kind Constraints f l = (bounded f l).constraints
few_kind Colouring f l = (bounded f l).regions
few_kind Counts f l = (bounded f l).flights
few_kind Visits f l = (bounded f l).visits

-- a kind's records are laid out in whole blocks
laid_kind : (k : Kind) (f : Form) (h : Head) → Laid (layout_of k f h)
unfolding layouts
laid_kind Workloads f h = (laid_layouts f h).1.0
laid_kind Outside f h = (laid_layouts f h).1.1.0
laid_kind Edges f h = (laid_layouts f h).1.1.1.0
laid_kind Constraints f h = (laid_layouts f h).1.1.1.1.0
laid_kind Colouring f h = (laid_layouts f h).1.1.1.1.1.0
laid_kind Counts f h = (laid_layouts f h).1.1.1.1.1.1.0
laid_kind Visits f h = (laid_layouts f h).1.1.1.1.1.1.1.0

-- so its section is whole records
pub whole_kind : (k : Kind) (f : Form) (h : Head) {s : Section} → s ≡ section_of (layout_of k f h) → Whole s (widths_of k) (total (widths_of k))
whole_kind k f h e = laid_whole (laid_kind k f h) e
