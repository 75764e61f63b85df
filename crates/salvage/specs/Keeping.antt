-- The survivors of a colouring, kept region by region: the sector of each is in the first block of the colouring or in the last.
-- Assumes nothing.
use Rattle.std.specs.Prelude.{ℕ, suc, ◌+◌, ◌-◌, ◌*◌, ◌/◌, ◌≤◌, ◌<◌, ◌≡◌, Bool, cond, ◌&&◌, List, map, leb, length, get_or}
use Rattle.std.proofs.Common.{add-zero, arith, sym, ap, ◌∙◌, le-leb}
use Rattle.std.proofs.Math.Nat.{div-eq_of_lt}
use Rattle.std.proofs.Math.Decide.{dec_lt}
use Rattle.std.proofs.lemmas.Bool.{lt-leb}
use Rattle.lists.specs.Sums.{In, at, up_to}
use Rattle.lists.specs.SumLaws.{every_up_to}
use Rattle.lists.specs.ListLaws.{map_ext}
use Rattle.terms.specs.Plan.{within}
use Rattle.meaning.specs.Plan.{most_regions}
use Rattle.blocks.specs.Block.{most_payload}
use Rattle.blocks.specs.Layout.{blocks_in}
use Rattle.form.specs.declared.Form.{Form}
use Rattle.form.specs.declared.Head.{Head}
use Rattle.form.specs.Form.{colouring_layout, dues, head_in, contents_in}
use Rattle.form.specs.FormLaws.{HeadLimits}
use Rattle.form.specs.Firsts.{colouring_first, count_first}
use Rattle.form.proofs.FirstLaws.{blocks_all, some_colouring}
use Rattle.form.proofs.ContentsLaws.{counted_in}
use Rattle.salvage.specs.Surviving.{block_of_region, sound_at, survives, survivors}

-- the sector of region v where its block, the first of the colouring or the last, is sound and it is one of 1..S; else 0
abbrev pub sector_kept : Bool → Bool → ℕ → List ℕ → ℕ → ℕ
sector_kept first last S colouring v = let x = at colouring v in cond (cond (leb most_payload (v - 1)) last first && within 1 x S) x 0

-- that of region i + 1 stands at index i
pub kept_next : (first last : Bool) (S : ℕ) (colouring : List ℕ) (i : ℕ) {sound : Bool} {r : ℕ} → sound ≡ cond (leb most_payload i) last first
    → r ≡ cond (sound && within 1 (get_or colouring i 0) S) (get_or colouring i 0) 0 → r ≡ sector_kept first last S colouring (i + 1)
kept_next first last S colouring i s e = let m : i + 1 - 1 ≡ i = omega arith in e ∙ rw (s, m)

-- the one before block m is one of n blocks, where m is not the first and at most all
before_end : (a m n : ℕ) → a + 1 ≤ m → m ≤ n → m - 1 < n
before_end a m n h k = omega arith

-- the last block of the colouring is one of those that are due
pub last-due : (f : Form) {h : Head} {m : ℕ} → HeadLimits f h → m ≡ count_first f h → m - 1 < length (dues f h)
last-due f {h} l e = rw e (before_end (colouring_first f h) (count_first f h) (length (dues f h)) (some_colouring f l) (omega (arith, blocks_all f h)))

-- the colouring that a sheet holds has a sector for each region
pub length-colouring : (f : Form) (sheet : List ℕ) {h : Head} {colouring : List ℕ} → h ≡ head_in f sheet → colouring ≡ (contents_in f sheet).colouring → length colouring ≡ h.regions
length-colouring f sheet i c = ap length c ∙ (counted_in f sheet).colouring ∙ ap (λ (h : Head). h.regions) (sym i)

-- where a region is not among as many as a full block holds, there are two blocks, and it is in the second
blocks_two : (R v : ℕ) → R ≤ most_regions → In R v → most_payload ≤ v - 1 → (R * 1 + most_payload - 1) / most_payload ≡ suc ((v - 1) / most_payload)
blocks_two R v h i k = omega (arith, i.high)

-- the last of x blocks after block a
last_block : (a x y : ℕ) → x ≡ suc y → a + x - 1 ≡ a + y
last_block a x y e = omega arith

module _ (f : Form) (sheet : List ℕ) {h : Head} (l : HeadLimits f h) (i : h ≡ head_in f sheet) {n m : ℕ} (a : n ≡ colouring_first f h) (b : m ≡ count_first f h)
    {first last : Bool} (s : first ≡ sound_at f h sheet n) (t : last ≡ sound_at f h sheet (m - 1))
  where
    -- at most two blocks hold a sector for each region, so that the block of region v is the first or the last
    own_block : (v : ℕ) → In h.regions v → cond (leb most_payload (v - 1)) last first ≡ sound_at f h sheet (block_of_region f h v)
    own_block v j = go (dec_lt (v - 1) most_payload)
      where
        go : Dec (v - 1 < most_payload) → cond (leb most_payload (v - 1)) last first ≡ sound_at f h sheet (block_of_region f h v)
        go (yes lt) = rw (lt-leb most_payload (v - 1) lt, div-eq_of_lt {n = v - 1} {m = most_payload} lt, add-zero (colouring_first f h), ← a) s
        go (no ge) =
            let two : blocks_in (colouring_layout h) ≡ suc ((v - 1) / most_payload) = blocks_two h.regions v l.regions.high j (omega arith) in
            rw (le-leb most_payload (v - 1) (omega arith)) (t ∙ ap (sound_at f h sheet) (ap (λ (k : ℕ). k - 1) b ∙ last_block (colouring_first f h) (blocks_in (colouring_layout h)) ((v - 1) / most_payload) two))

    -- the sectors that are kept are those that survive
    pub kept-all : {colouring out : List ℕ} → colouring ≡ (contents_in f sheet).colouring → out ≡ map (sector_kept first last h.sectors colouring) (up_to h.regions) → out ≡ survivors f sheet
    unfolding survives survivors
    kept-all {colouring} c e = e ∙ rw (← i, ← c) (map_ext (up_to h.regions) _ _ (every_up_to _ h.regions (λ v j. rw (own_block v j))))
