-- Document 02, C-21, over salvaging's promise: what it leaves where it is not refused, and that a sound sheet is given back.
-- Assumes nothing.
use Rattle.std.specs.Prelude.{ℕ, ◌+◌, ◌-◌, ◌%◌, ◌≤◌, ◌<◌, ◌≡◌, refl, ◌⊎◌, ◌↔◌, Bool, true, false, List, length, get_or, take}
use Rattle.std.proofs.Common.{le-add_right, arith, sym, ap, ◌∙◌, inl, inr, eq-eqb, take_at}
use Rattle.std.proofs.Math.Decide.{ℕ_discrete}
use Rattle.std.proofs.Math.Logic.Iff
use Rattle.std.proofs.Math.Bool.{not-eq-not}
use Rattle.lists.specs.Sums.{In, at}
use Rattle.lists.specs.Among.{Among, Rising}
use Rattle.packing.specs.Numbers.{Bytes}
use Rattle.meaning.specs.Plan.{Edge, edges_of}
use Rattle.meaning.specs.Joined.{Neighbours}
use Rattle.refusals.specs.declared.Refusal.{Refusal}
use Rattle.refusals.specs.Table.{none}
use Rattle.blocks.specs.Block.{header_length}
use Rattle.blocks.specs.Sheet.{block_at}
use Rattle.form.specs.declared.Form.{Form}
use Rattle.form.specs.Form.{letters, form_in, colouring_layout, Contents, coloured, head_by, contents_of, contents_in, contents_by}
use Rattle.form.specs.Firsts.{colouring_first, count_first}
use Rattle.form.specs.Over.{over}
use Rattle.form.specs.Refusals.{refusal_by}
use Rattle.form.specs.Accepted.{Opened, Accepted}
use Rattle.form.proofs.AcceptedLaws.{accepted, accepted-none}
use Rattle.mending.specs.Mended.{lost, lowest_beside}
use Rattle.mending.specs.Lowest.{LowestNeighbour, lowest_neighbour}
use Rattle.mending.specs.MendedLaws as mending
use Rattle.salvage.specs.Surviving.{block_of_region, sound_at, survives, survivors, mended_in}
use Rattle.salvage.specs.SurvivingLaws as surviving
use Rattle.salvage.specs.SurvivingLaws.{region_block, length-survivors, survives-kept, lost_where, mended-coloured}
use Rattle.salvage.specs.Promise.{salvage_refusal, salvaged_sheet, Outcome, left, salvaged_answer, outcome_of, Promise, is_outcome}
use Rattle.salvage.specs.Anew.{length_anew, form_anew, contents_anew, kept_anew}
use Rattle.salvage.specs.Sound as sound
use Rattle.salvage.specs.Same as same
use Rattle.salvage.specs.Whole.{none-lost-accepted}
use Rattle.demands.specs.Tables.{All, told_none}
use Rattle.demands.specs.RuleLaws.{equal, one_of, both}
use Rattle.demands.specs.SheetRules.{due_at, rules_at}
use Rattle.demands.proofs.SheetLaws.{wrong_told}
use Rattle.demands.proofs.Salvages.{ButColouring, but_colouring, as_refused}

-- ---- definitions

-- the salvaged sheet: the front of the lent bytes
abbrev pub salvaged_by : List ℕ → Outcome → List ℕ
salvaged_by sheet o = take (length sheet) o.sheet

-- the list of the lost regions: the front of the lent list
abbrev pub lost_by : Outcome → List ℕ
lost_by o = take o.answer.lost o.list

-- v is a region of a sheet
abbrev pub RegionOf : List ℕ → ℕ → Type 0
RegionOf sheet v = In (head_by sheet).regions v

-- the sector that a sheet has for region v
abbrev pub sector_in : List ℕ → ℕ → ℕ
sector_in sheet v = at (contents_by sheet).colouring v

-- the block that it is said to be read from
abbrev pub sector_block : List ℕ → ℕ → ℕ
sector_block sheet v = block_of_region (form_in sheet) (head_by sheet) v

-- it is read from that block
pub record ReadIn (sheet : List ℕ) (v : ℕ) : Type 0 where
  -- which is one of the colouring's,
  pub low : colouring_first (form_in sheet) (head_by sheet) ≤ sector_block sheet v
  pub high : sector_block sheet v < count_first (form_in sheet) (head_by sheet)
  -- as the byte that is the region's after the block's header
  pub byte : sector_in sheet v ≡ get_or (block_at sheet (sector_block sheet v)) (header_length + (v - 1) % (colouring_layout (head_by sheet)).size) 0

-- that sector survived: it is read from a sound block, and is one of 1..S
abbrev pub survived : List ℕ → ℕ → Bool
survived sheet v = survives (form_in sheet) sheet v

-- w is a region of a sheet that shares an edge with v
abbrev pub NeighbourIn : List ℕ → ℕ → ℕ → Type 0
NeighbourIn sheet v w = RegionOf sheet w × Neighbours (edges_of (contents_by sheet).edges) v w

-- w is the lowest-numbered neighbour of v whose sector survived
pub record LowestKept (sheet : List ℕ) (v w : ℕ) : Type 0 where
  pub beside : NeighbourIn sheet v w
  pub kept : survived sheet w ≡ true
  pub lowest : (u : ℕ) → NeighbourIn sheet v u → survived sheet u ≡ true → w ≤ u

-- no neighbour's sector survived
abbrev pub NoneKept : List ℕ → ℕ → Type 0
NoneKept sheet v = (u : ℕ) → NeighbourIn sheet v u → survived sheet u ≡ false

-- region v is given sector c: that of its lowest-numbered neighbour whose sector survived, or sector 1 where there is none
abbrev pub GivenIn : List ℕ → ℕ → ℕ → Type 0
GivenIn sheet v c = ((w : ℕ) × (LowestKept sheet v w × (c ≡ sector_in sheet w))) ⊎ (NoneKept sheet v × (c ≡ 1))

-- a list has the lost regions of a sheet, in increasing order, and these alone
pub record LostIn (sheet list : List ℕ) : Type 0 where
  pub rising : Rising list
  pub exactly : (v : ℕ) → Among list v ↔ (RegionOf sheet v × (survived sheet v ≡ false))

-- ---- the theorems

module _ {sheet bytes list : List ℕ} {o : Outcome} (p : Promise sheet bytes list o) (z : o.answer.code ≡ 0) where
  -- what the sheet is, as its letters say
  abbrev f : Form
  f = form_in sheet

  -- what survives of its colouring, and its edges
  abbrev kept : List ℕ
  kept = survivors f sheet

  abbrev edges : List Edge
  edges = edges_of (contents_in f sheet).edges

  -- the salvaged sheet
  abbrev new : List ℕ
  new = salvaged_by sheet o

  -- nothing is refused
  refused_none : (salvage_refusal f sheet (length bytes) (length list)).code ≡ 0
  refused_none = ap (λ (r : Refusal). r.code) (sym (as_refused p)) ∙ z

  -- so the sheet is opened
  is_opened : Opened f sheet
  is_opened = sound.salvaged_opened f sheet (length bytes) (length list) refused_none

  -- and this is left
  is_left : o ≡ left (salvaged_answer (length (lost kept))) (over (salvaged_sheet f sheet) bytes) (over (lost kept) list)
  unfolding outcome_of
  is_left = is_outcome p ∙ rw (eq-eqb _ 0 refused_none)

  -- of which the front of the bytes is the salvaged sheet
  is_salvaged : new ≡ salvaged_sheet f sheet
  is_salvaged = ap (salvaged_by sheet) is_left ∙ take_at (salvaged_sheet f sheet) _ (length sheet) (length_anew is_opened)

  -- and the front of the list the lost regions
  is_lost : lost_by o ≡ lost kept
  is_lost = ap lost_by is_left ∙ take_at (lost kept) _ (length (lost kept)) refl

  -- reading the salvaged sheet is not refused
  pub salvaged_sound : refusal_by new ≡ none
  salvaged_sound = rw (is_salvaged, form_anew is_opened) (sound.salvaged_sound f sheet (length bytes) (length list) refused_none)

  -- it is the sheet but for the blocks of its colouring
  pub as_they_are : ButColouring f sheet new
  as_they_are = rw is_salvaged (but_colouring f sheet is_opened)

  -- it holds what the sheet does, with the colouring mended
  pub contents-mended : contents_by new ≡ coloured (contents_by sheet) (mended_in f sheet)
  contents-mended = rw (is_salvaged, form_anew is_opened) (contents_anew is_opened)

  -- so a region has the sector that it has in that
  pub sector_is : (v : ℕ) → sector_in new v ≡ at (mended_in f sheet) v
  sector_is v = ap (λ (k : Contents). at k.colouring v) contents-mended

  -- every region of it has a sector of 1..S
  pub mended_in_lem : (v : ℕ) → RegionOf sheet v → In (head_by sheet).sectors (sector_in new v)
  unfolding contents_in contents_of
  mended_in_lem v i = rw (sector_is v) ((mended-coloured f sheet is_opened).sector v i)

  module _ (v : ℕ) (i : RegionOf sheet v) where
    -- v is a region of what survives
    region : In (length kept) v
    region = rw (length-survivors f sheet) i

    -- its sector is read from the block that it is said to be read from
    pub sector-read : ReadIn sheet v
    sector-read =
        record {
          low = le-add_right (colouring_first f (head_by sheet)) _;
          high = region_block f (head_by sheet) v i;
          byte = surviving.sector-read is_opened v i;
        }

    -- a region whose sector survived has it
    pub mended-kept : survived sheet v ≡ true → sector_in new v ≡ sector_in sheet v
    mended-kept e = rw (is_salvaged, form_anew is_opened) (kept_anew is_opened v i e)

    -- any other is given that of its lowest-numbered neighbour whose sector survived, or sector 1 where there is none
    pub lowest_beside_lem : survived sheet v ≡ false → GivenIn sheet v (sector_in new v)
    lowest_beside_lem e = go (ℕ_discrete (lowest_beside edges kept v) 0)
      where
        found : LowestNeighbour edges kept v (lowest_beside edges kept v)
        found = lowest_neighbour edges kept v

        lost : at kept v ≡ 0
        lost = (lost_where f sheet v i).1 e

        low : (u : ℕ) → NeighbourIn sheet v u → survived sheet u ≡ true → In u (lowest_beside edges kept v)
        low u b s = found.lowest u b.0.low b.1 (survives-kept f sheet u b.0 s).1

        go : Dec (lowest_beside edges kept v ≡ 0) → GivenIn sheet v (sector_in new v)
        go (yes n) = inr (λ u b. not-eq-not.0 (λ s. omega (arith, (low u b s).low)), sector_is v ∙ mending.mended_one edges kept region lost found n)
        go (no n) =
            let w = lowest_beside edges kept v in
            let r : RegionOf sheet w = rw (length-survivors f sheet) at (found.region n) in
            let s : survived sheet w ≡ true = not-eq-not.0 (λ q. found.kept n ((lost_where f sheet w r).1 q)) in
            inl (
              w,
              (
                record { beside = (r, found.neighbour n); kept = s; lowest = λ u b t. (low u b t).high },
                sector_is v ∙ mending.mended_neighbour edges kept region lost found n ∙ (survives-kept f sheet w r s).0,
              ),
            )

  -- the number of lost regions is answered,
  pub lost_counted : o.answer.lost ≡ length (lost_by o)
  lost_counted = ap (λ (x : Outcome). x.answer.lost) is_left ∙ sym (ap length is_lost)

  -- and the list has them
  pub lost_listed : LostIn sheet (lost_by o)
  lost_listed =
      let own = mending.lost_listed kept in
      let l = length-survivors f sheet in
      rw is_lost
      (record {
        rising = own.rising;
        exactly =
            λ v. (
              λ m. let q = (own.exactly v).0 m in let r : RegionOf sheet v = rw l at q.0 in (r, (lost_where f sheet v r).0 q.1),
              λ q. (own.exactly v).1 (rw l q.0, (lost_where f sheet v q.0).1 q.1),
            );
      })

-- a sheet that reading takes is given back byte for byte where as many bytes are lent, 0 regions are lost, and the list stays
pub sound-same : {sheet bytes list : List ℕ} {o : Outcome} → Promise sheet bytes list o → Bytes sheet → (refusal_by sheet).code ≡ 0 → length sheet ≤ length bytes → o ≡ left (salvaged_answer 0) (over sheet bytes) list
sound-same {sheet} {bytes} {list} p b z enough = is_outcome p ∙ same.sound-same (accepted (form_in sheet) sheet z) b bytes list enough

-- where salvaging is not refused and answers 0 lost regions
module _ {sheet bytes list : List ℕ} {o : Outcome} (p : Promise sheet bytes list o) (z : o.answer.code ≡ 0) (e : o.answer.lost ≡ 0) where
  is_accepted : Accepted (form_in sheet) sheet
  is_accepted = none-lost-accepted (form_in sheet) sheet (length bytes) (length list) (refused_none p z) (sym (ap (λ (x : Outcome). x.answer.lost) (is_left p z)) ∙ e)

  -- reading refuses nothing of the sheet that was handed over
  pub none-lost-sound : refusal_by sheet ≡ none
  none-lost-sound = accepted-none is_accepted

  -- and it is given back byte for byte
  pub none-lost-same : Bytes sheet → salvaged_by sheet o ≡ sheet
  none-lost-same b = is_salvaged p z ∙ same.given_back is_accepted b

-- of every sheet: a region's sector survived exactly where its block keeps to all five rules of a block, those of codes 32 to 36, and the sector is one of 1..S
pub survived_exactly : (sheet : List ℕ) (v : ℕ) → let f = form_in sheet in
    survived sheet v ≡ true ↔ All (rules_at f sheet (block_of_region f (head_by sheet) v)) × In (head_by sheet).sectors (sector_in sheet v)
unfolding survives sound_at
survived_exactly sheet v =
    let f = form_in sheet in
    let n = block_of_region f (head_by sheet) v in
    let rules = told_none (rules_at f sheet n) tt (wrong_told (letters f) n (due_at f sheet n) (block_at sheet n)) in
    both (Iff.trans (equal _ 0) rules) (one_of (head_by sheet).sectors (sector_in sheet v))
