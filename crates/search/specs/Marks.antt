-- Marks in a colouring: a number larger than every sector, in the place of the sector d of the regions that a search has reached.
-- Assumes nothing.
use Rattle.std.specs.Prelude.{ℕ, ◌-◌, ◌<◌, ◌≡◌, refl, ◌≢◌, Bool, true, false, cond, eqb, length}
use Rattle.std.proofs.Common.{arith, ◌∙◌, eqb-true, ne_eqb}
use Rattle.std.proofs.Math.Path.{sym, ap}
use mathlib.Core.List.{List, map}
use Rattle.std.proofs.lemmas.Bool.{eqb-false}
use Rattle.std.proofs.lemmas.List.{length-map}
use Rattle.std.proofs.Math.ListN.{get_or-map}
use Rattle.std.proofs.Math.Seq.{map-set_same}
use Rattle.lists.specs.Tests.{by_eqb, cond_same}
use Rattle.lists.specs.Sums.{In, at, bit}
use Rattle.lists.specs.Places.{ext_at, by_set}
use Rattle.meaning.specs.Joined.{instead}
use Rattle.meaning.specs.Moves.{recolour}

-- the mark
abbrev pub mark : ℕ
mark = 255

-- the colouring with the marks taken off, where all that is marked has sector d
unfoldable pub unmask : ℕ → List ℕ → List ℕ
unmask d cur = map (instead mark d) cur

-- there are as many regions without the marks
pub length-unmask : (d : ℕ) (cur : List ℕ) → length (unmask d cur) ≡ length cur
unfolding unmask
length-unmask d cur = length-map cur (instead mark d)

module _ (d : ℕ) (cur : List ℕ) {col : List ℕ} (same : unmask d cur ≡ col) where
  -- the sector of a region is what it shows, or d in the place of the mark
  unmask-at : (w : ℕ) → at col w ≡ instead mark d (at cur w)
  unfolding unmask
  unmask-at w = ap (λ (l : List ℕ). at l w) (sym same) ∙ get_or-map (instead mark d) cur (w - 1) 0

  -- a marked region has sector d
  pub marked-sector : (w : ℕ) → at cur w ≡ mark → at col w ≡ d
  marked-sector w m = unmask-at w ∙ ap (instead mark d) m

  -- and so has one that shows it
  pub open_sector : (w : ℕ) → at cur w ≡ d → at col w ≡ d
  open_sector w o = unmask-at w ∙ ap (instead mark d) o ∙ cond_same (eqb d mark) d

  -- a region of sector d that does not show it is marked
  pub sector-marked : (w : ℕ) → at col w ≡ d → at cur w ≢ d → at cur w ≡ mark
  sector-marked w h n =
      by_eqb (at cur w) mark (λ (x : ℕ). x ≡ d → at cur w ≡ mark) d (at cur w) (λ m _. m) (λ _ o. absurd (n o)) (sym (unmask-at w) ∙ h)

  -- a region of sector d may show the mark or d
  unmask-set : (z x : ℕ) → instead mark d x ≡ d → at col z ≡ d → unmask d (recolour cur z x) ≡ col
  unfolding unmask
  unmask-set z x e h = map-set_same (instead mark d) cur (z - 1) x 0 (e ∙ sym h ∙ unmask-at z) ∙ same

  -- a mark is put on one
  pub unmask-put : (z : ℕ) → at col z ≡ d → unmask d (recolour cur z mark) ≡ col
  unmask-put z h = unmask-set z mark refl h

  -- a mark is taken off one
  pub unmask_off : (z : ℕ) → at col z ≡ d → unmask d (recolour cur z d) ≡ col
  unmask_off z h = unmask-set z d (cond_same (eqb d mark) d) h

  -- where no region is marked each shows its sector
  pub unmask-plain : {R : ℕ} → length cur ≡ R → ((w : ℕ) → In R w → at cur w ≢ mark) → cur ≡ col
  unmask-plain size plain =
      ext_at cur col size (ap length (sym same) ∙ length-unmask d cur ∙ size)
      (λ w i. sym (unmask-at w ∙ ap (λ (t : Bool). cond t d (at cur w)) (ne_eqb (at cur w) mark (plain w i))))

-- a region that does not show d does not show it once more regions are marked
pub shut_still : (d : ℕ) (cur cur' : List ℕ) → d < mark → unmask d cur' ≡ unmask d cur → (w : ℕ) → (at cur w ≡ mark → at cur' w ≡ mark) → at cur w ≢ d → at cur' w ≢ d
shut_still d cur cur' low same w still n o = omega (arith, still (sector-marked d cur refl w (open_sector d cur' same w o) n))

-- what is marked stays marked where z is marked too
pub mark_keep : (cur : List ℕ) (z w : ℕ) → at cur w ≡ mark → at (recolour cur z mark) w ≡ mark
mark_keep cur z w m = by_set (λ (x : ℕ). x ≡ mark) cur (z - 1) (w - 1) mark refl m

-- what does not show d does not show it then
pub mark_shut : (d : ℕ) (cur : List ℕ) (z w : ℕ) → d < mark → at cur w ≢ d → at (recolour cur z mark) w ≢ d
mark_shut d cur z w low n = by_set (λ (x : ℕ). x ≢ d) cur (z - 1) (w - 1) mark (λ q. omega arith) n

-- a turn without a branch stores the mark and counts 1 where x is d, and otherwise stores x and counts 0
pub by_test : (Q : ℕ → ℕ → Type 0) (x d : ℕ) {m b : ℕ} → m ≡ instead d mark x → b ≡ bit (eqb x d) → (x ≡ d → Q mark 1) → (x ≢ d → Q x 0) → Q m b
by_test Q x d em eb f g = rw (em, eb) (go (eqb x d) refl)
  where
    go : (t : Bool) → eqb x d ≡ t → Q (cond t mark x) (bit t)
    go true e = f (eqb-true x d e)
    go false e = g (eqb-false x d e)
