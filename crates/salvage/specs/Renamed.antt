-- Document 02, C-18 and C-21: of two sheets that differ in the names of sectors alone the same survives, but for names, and they are refused alike.
-- Assumes nothing.
use Rattle.std.specs.Prelude.{ℕ, ◌<◌, ◌≡◌, List, length}
use Rattle.std.proofs.Math.Path.{sym, ap}
use Rattle.std.proofs.Common.{◌∙◌}
use Rattle.std.proofs.Math.Bool.{cond}
use Rattle.std.proofs.lemmas.Simd.{map-map}
use Rattle.std.proofs.Math.Dec.{eqb}
use Rattle.lists.specs.Sums.{In, at, up_to}
use Rattle.lists.specs.SumLaws.{every_up_to}
use Rattle.lists.specs.ListLaws.{map_ext}
use Rattle.lists.specs.Tests.{cond_ap}
use Rattle.terms.specs.Plan.{within}
use Rattle.meaning.specs.Plan.{edges_of}
use Rattle.meaning.specs.Names.{Renaming, name, renamed}
use Rattle.meaning.proofs.NameLaws.{name-zero, at_renamed, name-eqb, name-within}
use Rattle.blocks.specs.Mapped.{part_mapped, block_wrong}
use Rattle.form.specs.declared.Form.{Form}
use Rattle.form.specs.declared.Head.{Head}
use Rattle.form.specs.Form.{letters, colouring_layout, dues, head_in, contents_of, contents_in}
use Rattle.form.specs.Firsts.{colouring_first, count_first}
use Rattle.form.proofs.Renamed.{RenamedSheet, refused-renamed, head_renamed, contents-renamed, open_renamed}
use Rattle.mending.specs.Mended.{lost}
use Rattle.mending.specs.Renamed.{KeptBeside, lost_mapped, mended_mapped, all_mapped}
use Rattle.salvage.specs.Surviving.{block_of_region, sound_at, survives, survivors, mended_in}
use Rattle.salvage.specs.SurvivingLaws.{region_due, length-survivors}
use Rattle.salvage.specs.Promise.{fault_between, other_table, salvage_refusal}

module _ {f : Form} {p : ℕ → ℕ} {a b : List ℕ} (s : RenamedSheet f p a b) where
  -- the head of the first
  abbrev h : Head
  h = head_in f a

  -- a block that is due is sound in both or in neither
  sound-renamed : (n : ℕ) → n < length (dues f h) → sound_at f h b n ≡ sound_at f h a n
  unfolding sound_at
  sound-renamed n l = ap (λ (w : ℕ). eqb w 0) (block_wrong (name h.sectors p) (colouring_layout h).kind (letters f) (dues f h) a b s.blocks n l)

  -- the same of the blocks between two is the first that is refused
  between_renamed : (start end : ℕ) → fault_between f h b start end ≡ fault_between f h a start end
  between_renamed = part_mapped (name h.sectors p) (colouring_layout h).kind (letters f) (dues f h) a b s.blocks

  module _ (r : Renaming (contents_in f a).S p) where
    -- the new names of the sectors
    abbrev new : ℕ → ℕ
    new = name (contents_in f a).S p

    -- a region has the new name of its sector
    at_held : (v : ℕ) → at (contents_in f b).colouring v ≡ new (at (contents_in f a).colouring v)
    at_held v = rw (contents-renamed s) (at_renamed (contents_in f a).S p (contents_in f a).colouring v)

    -- a new name is one of the head's sectors where the old one is
    within_new : (x : ℕ) → within 1 (new x) h.sectors ≡ within 1 x h.sectors
    unfolding contents_in contents_of
    within_new x = name-within r x

    -- so the sector of a region survives in both sheets or in neither
    pub survives-renamed : (v : ℕ) → In h.regions v → survives f b v ≡ survives f a v
    unfolding survives
    survives-renamed v i =
        rw (head_renamed s, sound-renamed (block_of_region f h v) (region_due f h v i), at_held v, within_new (at (contents_in f a).colouring v))

    -- and what survives is the same but for names
    pub survivors-renamed : survivors f b ≡ renamed (contents_in f a).S p (survivors f a)
    unfolding survivors
    survivors-renamed =
        rw (head_renamed s)
        (map_ext (up_to h.regions) _ _ (every_up_to _ h.regions (λ v i. rw (survives-renamed v i, at_held v) (own v))))
        ∙ sym (map-map new (λ v. cond (survives f a v) (at (contents_in f a).colouring v) 0) (up_to h.regions))
      where
        own : (v : ℕ) → cond (survives f a v) (new (at (contents_in f a).colouring v)) 0 ≡ new (cond (survives f a v) (at (contents_in f a).colouring v) 0)
        own v = sym (cond_ap new (survives f a v) (at (contents_in f a).colouring v) 0 ∙ rw (name-zero (contents_in f a).S p))

    -- 0, the sector of no region, is the new name of 0 alone
    same-zero : (x : ℕ) → eqb (new x) 0 ≡ eqb x 0
    same-zero x = rw (name-zero (contents_in f a).S p) at (name-eqb r x 0)

    -- so the same regions are lost
    pub lost-renamed : lost (survivors f b) ≡ lost (survivors f a)
    lost-renamed = rw survivors-renamed (lost_mapped new same-zero (survivors f a))

    -- the rows on the other blocks and on what they hold are the same
    other-renamed : other_table f b ≡ other_table f a
    unfolding other_table
    other-renamed = rw (head_renamed s, between_renamed 1 (colouring_first f h), between_renamed (count_first f h) (length (dues f h)), contents-renamed s, refused-renamed f (contents_in f a) r)

    -- so the two are refused alike
    pub salvage_renamed : (bytes room : ℕ) → salvage_refusal f b bytes room ≡ salvage_refusal f a bytes room
    unfolding salvage_refusal
    salvage_renamed bytes room = rw (open_renamed s, other-renamed, s.size, lost-renamed)

    -- a region that survives, or has a neighbour that does, has in the second sheet's colouring, mended, the new name of what it has in the first's
    pub mended-renamed : (v : ℕ) → In h.regions v → KeptBeside (edges_of (contents_in f a).edges) (survivors f a) v → at (mended_in f b) v ≡ new (at (mended_in f a) v)
    mended-renamed v i some =
        rw (contents-renamed s, survivors-renamed) (mended_mapped new same-zero (survivors f a) (edges_of (contents_in f a).edges) v (rw (length-survivors f a) i) some)

    -- where each region is so, all of it is the first's, mended, but for names
    pub all_renamed : ((v : ℕ) → In h.regions v → KeptBeside (edges_of (contents_in f a).edges) (survivors f a) v) → mended_in f b ≡ renamed (contents_in f a).S p (mended_in f a)
    all_renamed some =
        rw (contents-renamed s, survivors-renamed) (all_mapped new same-zero (survivors f a) (edges_of (contents_in f a).edges) (λ v i. some v (rw (length-survivors f a) at i)))
