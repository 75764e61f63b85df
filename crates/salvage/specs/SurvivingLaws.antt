-- The sector of a region is read from its block. What survives of a colouring has a sector of 1..S or 0 for each region, and mended it is a colouring.
-- Assumes nothing.
use Rattle.std.specs.Prelude.{ℕ, ◌+◌, ◌-◌, ◌/◌, ◌%◌, ◌<◌, ◌≡◌, refl, ◌≢◌, ◌↔◌, Bool, true, false, List, leb, length, get_or}
use Rattle.std.proofs.Common.{le_refl, lt_of_lt_of_le, add-lt-add_of_le_of_lt, arith, ◌∙◌}
use Rattle.std.proofs.Math.Bool.{cond, and-eq-true_iff}
use borrow.Author.Tests.{leb-true}
use Rattle.lists.specs.Sums.{In, at}
use Rattle.lists.specs.SumLaws.{length_table, at_table}
use Rattle.terms.specs.Plan.{within}
use Rattle.meaning.specs.Plan.{edges_of}
use Rattle.blocks.specs.Block.{header_length}
use Rattle.blocks.specs.Sheet.{block_at}
use Rattle.blocks.specs.Layout.{blocks_in}
use Rattle.blocks.specs.Placed.{number_at}
use Rattle.form.specs.declared.Form.{Form}
use Rattle.form.specs.declared.Head.{Head}
use Rattle.form.specs.Form.{colouring_layout, layouts, dues, head_in, contents_of, contents_in}
use Rattle.form.proofs.FormLaws.{laid_ones}
use Rattle.form.specs.Firsts.{colouring_first, count_first}
use Rattle.form.proofs.FirstLaws.{blocks_all}
use Rattle.form.specs.Accepted.{Opened}
use Rattle.form.specs.Recoloured.{ColouringOf}
use Rattle.mending.specs.MendedLaws.{length-mended, mended_in_lem}
use Rattle.salvage.specs.Surviving.{block_of_region, sound_at, survives, survivors, mended_in}

-- the block of a region is one of the colouring's
pub region_block : (f : Form) (h : Head) (v : ℕ) → In h.regions v → block_of_region f h v < count_first f h
region_block f h v i =
    let own : (v - 1) / (colouring_layout h).size < blocks_in (colouring_layout h) = omega (arith, i.low, i.high) in
    add-lt-add_of_le_of_lt (le_refl (colouring_first f h)) own

-- so it is one of those due
pub region_due : (f : Form) (h : Head) (v : ℕ) → In h.regions v → block_of_region f h v < length (dues f h)
region_due f h v i = lt_of_lt_of_le (region_block f h v i) (omega (arith, blocks_all f h))

-- the sector of a region is a byte of that block
pub sector-read : {f : Form} {sheet : List ℕ} → Opened f sheet → (v : ℕ) → In (head_in f sheet).regions v
    → at (contents_in f sheet).colouring v ≡ get_or (block_at sheet (block_of_region f (head_in f sheet) v)) (header_length + (v - 1) % (colouring_layout (head_in f sheet)).size) 0
unfolding contents_in contents_of layouts
sector-read {f} {sheet} o v i =
    let h = head_in f sheet in
    number_at (laid_ones 5 h.regions) refl (colouring_first f h) sheet (omega (arith, o.long, blocks_all f h)) (v - 1) (omega (arith, i.low, i.high))

module _ (f : Form) (sheet : List ℕ) where
  -- there is a number for each region
  pub length-survivors : length (survivors f sheet) ≡ (head_in f sheet).regions
  unfolding survivors
  length-survivors = length_table (head_in f sheet).regions _

  module _ (u : ℕ) (i : In (head_in f sheet).regions u) where
    -- the sector that the sheet has for it, whatever its block
    abbrev sector : ℕ
    sector = at (contents_in f sheet).colouring u

    -- that of a region that survives is its sector, and that of any other 0
    pub at-survivors : at (survivors f sheet) u ≡ cond (survives f sheet u) sector 0
    unfolding survivors
    at-survivors = at_table (head_in f sheet).regions (λ v. cond (survives f sheet v) (at (contents_in f sheet).colouring v) 0) u i

    -- a region that survives has a sector of 1..S
    surviving_in : survives f sheet u ≡ true → In (head_in f sheet).sectors sector
    unfolding survives
    surviving_in e =
        let h = head_in f sheet in
        let p = (and-eq-true_iff (sound_at f h sheet (block_of_region f h u)) (within 1 sector h.sectors)).0 e in
        let q = (and-eq-true_iff (leb 1 sector) (leb sector h.sectors)).0 p.1 in
        record { low = leb-true 1 sector q.0; high = leb-true sector h.sectors q.1 }

    -- so its number is that, and not 0
    pub survives-kept : survives f sheet u ≡ true → (at (survivors f sheet) u ≡ sector) × (at (survivors f sheet) u ≢ 0)
    survives-kept e =
        let k : at (survivors f sheet) u ≡ sector = at-survivors ∙ rw e in
        (k, λ z. omega (arith, (surviving_in e).low))

    -- and 0 is that of the lost regions alone
    pub lost_where : (at (survivors f sheet) u ≡ 0) ↔ (survives f sheet u ≡ false)
    lost_where = (λ z. go (survives f sheet u) refl z, λ e. at-survivors ∙ rw e)
      where
        go : (b : Bool) → survives f sheet u ≡ b → at (survivors f sheet) u ≡ 0 → b ≡ false
        go true e z = absurd ((survives-kept e).1 z)
        go false e z = refl

    -- any other is a sector of 1..S
    pub survivors_in : at (survivors f sheet) u ≢ 0 → In (head_in f sheet).sectors (at (survivors f sheet) u)
    survivors_in n = go (survives f sheet u) refl
      where
        go : (b : Bool) → survives f sheet u ≡ b → In (head_in f sheet).sectors (at (survivors f sheet) u)
        go true e = rw (survives-kept e).0 (surviving_in e)
        go false e = absurd (n (lost_where.1 e))

  -- mended, each region has one
  pub mended-coloured : Opened f sheet → ColouringOf (contents_in f sheet) (mended_in f sheet)
  unfolding contents_in contents_of
  mended-coloured o =
      let edges = edges_of (contents_in f sheet).edges in
      let kept = survivors f sheet in
      let l = length-survivors in
      record {
        size = length-mended edges kept ∙ l;
        sector = λ u i. mended_in_lem edges kept o.limits.sectors.low (λ w j. survivors_in w (rw l at j)) u (rw l i);
      }
