-- Document 02, C-21: what survives of a damaged sheet's colouring.
-- Assumes nothing.
use Rattle.std.specs.Prelude.{ℕ, ◌+◌, ◌-◌, ◌/◌, Bool, cond, ◌&&◌, List, map, eqb, get_or}
use Rattle.lists.specs.Sums.{at, up_to}
use Rattle.terms.specs.Plan.{within}
use Rattle.meaning.specs.Plan.{edges_of}
use Rattle.blocks.specs.Block.{wrong}
use Rattle.blocks.specs.Section.{no_due}
use Rattle.blocks.specs.Sheet.{block_at}
use Rattle.form.specs.declared.Form.{Form}
use Rattle.form.specs.declared.Head.{Head}
use Rattle.form.specs.Form.{letters, colouring_layout, dues, head_in, contents_in}
use Rattle.form.specs.Firsts.{colouring_first}
use Rattle.mending.specs.Mended.{mended}

-- the block that holds the sector of region v
abbrev pub block_of_region : Form → Head → ℕ → ℕ
block_of_region f h v = colouring_first f h + (v - 1) / (colouring_layout h).size

-- block n of a sheet fails by none of 32 to 36
unfoldable pub sound_at : Form → Head → List ℕ → ℕ → Bool
sound_at f h sheet n = let d = get_or (dues f h) n no_due in eqb (wrong (letters f) d.kind n d.used (block_at sheet n)) 0

-- the sector of region v is read from a sound block, and is one of 1..S
unfoldable pub survives : Form → List ℕ → ℕ → Bool
survives f sheet v =
    let h = head_in f sheet in
    sound_at f h sheet (block_of_region f h v) && within 1 (at (contents_in f sheet).colouring v) h.sectors

-- the colouring that survives: 0, the sector of no region, for each region that is lost
unfoldable pub survivors : Form → List ℕ → List ℕ
survivors f sheet = map (λ v. cond (survives f sheet v) (at (contents_in f sheet).colouring v) 0) (up_to (head_in f sheet).regions)

-- the same, with a sector given to each of these by the sheet's edges
abbrev pub mended_in : Form → List ℕ → List ℕ
mended_in f sheet = mended (edges_of (contents_in f sheet).edges) (survivors f sheet)
