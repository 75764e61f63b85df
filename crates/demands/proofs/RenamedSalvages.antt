-- Document 02, C-18 and C-21, over salvaging's promise: two sheets that differ in the names of sectors alone are salvaged alike.
-- Assumes nothing.
use Rattle.std.specs.Prelude.{ℕ, ◌≡◌, refl, ◌⊎◌, true, false, cond, List, [], eqb, length}
use Rattle.std.proofs.Common.{arith, sym, ap, ◌∙◌, inl, inr, true≢false, take_at}
use Rattle.std.proofs.Math.Bool.{not-eq-not}
use Rattle.lists.specs.Tests.{cond_ap}
use Rattle.meaning.specs.Plan.{edges_of}
use Rattle.meaning.specs.Names.{Renaming, name}
use Rattle.form.specs.Form.{form_in, Contents, coloured, contents_by}
use Rattle.form.proofs.Renamed.{renamed_contents, RenamedSheet, form_first, same_first, head_renamed, contents-renamed}
use Rattle.mending.specs.Mended.{lost}
use Rattle.mending.specs.Lowest.{lowest_neighbour}
use Rattle.mending.specs.Renamed as mending
use Rattle.salvage.specs.declared.Salvaged.{Salvaged}
use Rattle.salvage.specs.Surviving.{survivors, mended_in}
use Rattle.salvage.specs.SurvivingLaws.{survives-kept}
use Rattle.salvage.specs.Promise.{salvage_refusal, Outcome, refused_answer, salvaged_answer, outcome_of, outcome, Promise, is_outcome}
use Rattle.salvage.specs.Renamed.{survives-renamed, lost-renamed, salvage_renamed, mended-renamed, all_renamed}
use Rattle.demands.proofs.Salvaged.{salvaged_by, lost_by, RegionOf, sector_in, survived, NeighbourIn, NoneKept, GivenIn, contents-mended, sector_is, lowest_beside_lem}

-- ---- definitions

-- the sector of region v survived, or that of a neighbour
abbrev pub Known : List ℕ → ℕ → Type 0
Known sheet v = (survived sheet v ≡ true) ⊎ ((w : ℕ) × (NeighbourIn sheet v w × (survived sheet w ≡ true)))

-- of two salvaged sheets the second is the first but for names, save that a region of which nothing is known is in sector 1 in both
pub record SalvagedAlike (p : ℕ → ℕ) (sheet new other : List ℕ) : Type 0 where
  -- they hold the same but for the colouring,
  pub held : contents_by other ≡ coloured (contents_by new) (contents_by other).colouring
  -- a region has the new name of its sector,
  pub known : (v : ℕ) → RegionOf sheet v → Known sheet v → sector_in other v ≡ name (contents_by sheet).S p (sector_in new v)
  -- but where neither its sector survived nor that of a neighbour, it is in sector 1 in both
  pub unknown : (v : ℕ) → RegionOf sheet v → (Known sheet v → ⊥) → (sector_in other v ≡ 1) × (sector_in new v ≡ 1)

-- ---- the parts of an outcome

module _ (sheet bytes list : List ℕ) where
  -- a salvaging's answer goes by its refusal and the number of lost regions
  salvage_answer : let r = salvage_refusal (form_in sheet) sheet (length bytes) (length list) in
      (outcome sheet bytes list).answer ≡ cond (eqb r.code 0) (salvaged_answer (length (lost (survivors (form_in sheet) sheet)))) (refused_answer r)
  unfolding outcome_of
  salvage_answer = cond_ap (λ (o : Outcome). o.answer) (eqb (salvage_refusal (form_in sheet) sheet (length bytes) (length list)).code 0) _ _

  -- and the list has them, or none where it is refused
  salvage_list : let gone = lost (survivors (form_in sheet) sheet) in
      lost_by (outcome sheet bytes list) ≡ cond (eqb (salvage_refusal (form_in sheet) sheet (length bytes) (length list)).code 0) gone []
  unfolding outcome_of
  salvage_list =
      let gone = lost (survivors (form_in sheet) sheet) in
      cond_ap lost_by (eqb (salvage_refusal (form_in sheet) sheet (length bytes) (length list)).code 0) _ _ ∙ rw (take_at gone _ (length gone) refl)

-- a lost region that has no neighbour whose sector survived is in sector 1
one : (sheet : List ℕ) (v : ℕ) {c : ℕ} → NoneKept sheet v → GivenIn sheet v c → c ≡ 1
one sheet v none (inl (w, (k, e))) = absurd (true≢false (sym k.kept ∙ none w k.beside))
one sheet v none (inr (_, e)) = e

-- ---- the theorems

module _ {p : ℕ → ℕ} {a b : List ℕ} (s : RenamedSheet (form_in a) p a b) (r : Renaming (contents_by a).S p)
    {bytes bytes' list list' : List ℕ} (l : length bytes' ≡ length bytes) (k : length list' ≡ length list)
    {o q : Outcome} (m : Promise a bytes list o) (n : Promise b bytes' list' q) where
  -- the second is a sheet of the same form
  form_same : form_in b ≡ form_in a
  form_same = form_first (same_first s)

  -- two salvagings are refused alike
  refusal-same : salvage_refusal (form_in b) b (length bytes') (length list') ≡ salvage_refusal (form_in a) a (length bytes) (length list)
  refusal-same = rw (form_same, l, k) (salvage_renamed s r (length bytes) (length list))

  -- and lose the same regions
  lost-same : lost (survivors (form_in b) b) ≡ lost (survivors (form_in a) a)
  lost-same = rw form_same (lost-renamed s r)

  -- so they answer alike, refused or not, and list the same regions
  pub salvaging_renamed : (q.answer ≡ o.answer) × (lost_by q ≡ lost_by o)
  salvaging_renamed = (
    n.answer ∙ salvage_answer b bytes' list' ∙ rw (refusal-same, lost-same) (sym (salvage_answer a bytes list)) ∙ sym m.answer,
    ap lost_by (is_outcome n) ∙ salvage_list b bytes' list' ∙ rw (refusal-same, lost-same) (sym (salvage_list a bytes list)) ∙ sym (ap lost_by (is_outcome m)),
  )

  module _ (z : o.answer.code ≡ 0) where
    -- the salvaged sheets
    abbrev new : List ℕ
    new = salvaged_by a o

    abbrev other : List ℕ
    other = salvaged_by b q

    -- the second salvaging is not refused either
    code_same : q.answer.code ≡ 0
    code_same = ap (λ (x : Salvaged). x.code) salvaging_renamed.0 ∙ z

    -- a region of which something is known has a sector that survived, or a neighbour that has
    some : (v : ℕ) → RegionOf a v → Known a v → mending.KeptBeside (edges_of (contents_by a).edges) (survivors (form_in a) a) v
    some v i (inl e) none = absurd ((survives-kept (form_in a) a v i e).1 none)
    some v i (inr (w, (b, e))) none =
        let least = (lowest_neighbour (edges_of (contents_by a).edges) (survivors (form_in a) a) v).lowest w b.0.low b.1 (survives-kept (form_in a) a w b.0 e).1 in
        λ x. omega (arith, least.low)

    -- of any other neither its sector nor a neighbour's survived, in the first sheet
    none_known : (v : ℕ) → (Known a v → ⊥) → (survived a v ≡ false) × NoneKept a v
    none_known v c = (not-eq-not.0 (λ e. c (inl e)), λ u b. not-eq-not.0 (λ e. c (inr (u, (b, e)))))

    -- nor in the second
    none-same : (v : ℕ) → RegionOf a v → (survived a v ≡ false) × NoneKept a v → (survived b v ≡ false) × NoneKept b v
    none-same v i (e, none) = (
      rw form_same (survives-renamed s r v i ∙ e),
      λ u x.
          let j : RegionOf a u = rw (form_same, head_renamed s) at x.0 in
          rw form_same (survives-renamed s r u j ∙ none u (j, rw (form_same, contents-renamed s) at x.1)),
    )

    -- the second salvaged sheet holds what the first sheet does, with the second's colouring mended
    held_same : contents_by other ≡ coloured (contents_by a) (mended_in (form_in a) b)
    held_same = contents-mended n code_same ∙ rw form_same (ap (λ (x : Contents). coloured x (mended_in (form_in a) b)) (contents-renamed s))

    -- so the salvaged sheets are the same but for names, save where nothing is known of a region
    pub salvaged_renamed : SalvagedAlike p a new other
    salvaged_renamed =
        record {
          held = rw (held_same, contents-mended m z);
          known = λ v i c. sector_is n code_same v ∙ rw form_same (mended-renamed s r v i (some v i c)) ∙ ap (name (contents_by a).S p) (sym (sector_is m z v));
          unknown =
              λ v i c.
              let here = none_known v c in
              let there = none-same v i here in (
                one b v there.1 (lowest_beside_lem n code_same v (rw (form_same, head_renamed s) i) there.0),
                one a v here.1 (lowest_beside_lem m z v i here.0),
              );
        }

    -- where something is known of each region, they hold the same but for names
    pub contents_salvaged : ((v : ℕ) → RegionOf a v → Known a v) → contents_by other ≡ renamed_contents p (contents_by new)
    contents_salvaged c = held_same ∙ ap (coloured (contents_by a)) (all_renamed s r (λ v i. some v i (c v i))) ∙ sym (ap (renamed_contents p) (contents-mended m z))
