-- A sheet in which the colouring's blocks are written anew: every other block is as it is, and it holds the same contents with another colouring.
-- Assumes nothing.
use Rattle.std.specs.Prelude.{ℕ, ◌*◌, List}
use Rattle.packing.specs.Put.{put}
use Rattle.meaning.specs.Plan.{plan_of, Coloured}
use Rattle.blocks.specs.Block.{block_length}
use Rattle.blocks.specs.Layout.{blocks_at}
use Rattle.form.specs.declared.Form.{Form}
use Rattle.form.specs.Form.{letters, colouring_layout, Contents, head_in}
use Rattle.form.specs.Firsts.{colouring_first}

-- a colouring of contents gives each of their regions a sector of theirs
abbrev pub ColouringOf : Contents → List ℕ → Type 0
ColouringOf k colouring = Coloured (plan_of k.R k.S k.workloads k.outside k.edges k.counts k.visits k.constraints) colouring

-- a sheet with the colouring's blocks written anew
abbrev pub recoloured_sheet : Form → List ℕ → List ℕ → List ℕ
recoloured_sheet f sheet colouring =
    let h = head_in f sheet in
    put sheet (block_length * colouring_first f h) (blocks_at (letters f) (colouring_layout h) (colouring_first f h) colouring)
