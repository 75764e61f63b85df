-- Two regions of different sectors are given each other's sector: two recolourings in turn, whose changes make one.
-- Assumes nothing.
use Rattle.std.specs.Prelude.{ℕ, ◌≡◌, List, ◌++◌, ◌≢◌, length, take}
use Rattle.std.proofs.Common.{sym, ◌∙◌, set-set}
use Rattle.std.proofs.Math.Path.{ap}
use Rattle.std.proofs.Math.Seq.{take_at}
use Rattle.lists.specs.Sums.{In, at}
use Rattle.lists.specs.Places.{at_set_other}
use Rattle.meaning.specs.Plan.{Plan, Coloured}
use Rattle.meaning.specs.Joined.{labels}
use Rattle.meaning.specs.Moves.{recolour, swap, differing, relabelled}
use Rattle.meaning.proofs.MoveLaws.{recolour-own}
use Rattle.meaning.proofs.Recoloured.{coloured-recolour}
use Rattle.change.specs.declared.Sides.{Sides}
use Rattle.change.specs.declared.Change.{Change}
use Rattle.change.specs.Shift.{turned_round, in_turn}
use Rattle.change.specs.Small.{Addable}
use Rattle.change.specs.Changed.{sides_of, Changed, Single, changed_addable, changed_in_turn}
use Rattle.engine.specs.declared.turn.Turned.{Turned}
use Rattle.engine.specs.Memory.{labels_length}
use Rattle.engine.specs.Turning.{Ground, Turning, Turns, Followed, followed_turns}

-- what is found: two regions of different sectors
pub record Swapping (P : Plan) (start near areas col q : List ℕ) (a b : ℕ) : Type 0 where
  pub basis : Ground P start near areas col q
  pub first : In P.R a
  pub second : In P.R b
  pub other : at col a ≢ at col b

module _ {P : Plan} {start near areas col q : List ℕ} {a b : ℕ} (k : Swapping P start near areas col q a b) where
  -- the first is given to the sector of the second
  pub swapping_first : Turning P start near areas col q a (at col b)
  swapping_first =
      record { basis = k.basis; region = k.first; sector = k.basis.coloured.sector b k.second; other = λ e. k.other (sym e) }

  -- the second has its sector still
  still : at (recolour col a (at col b)) b ≡ at col b
  still = at_set_other col (at col b) k.basis.coloured.size k.first k.second (λ e. k.other (ap (at col) (sym e)))

  -- the colouring between the two
  pub swapping_between : {col₁ : List ℕ} → col₁ ≡ col → recolour col₁ a (at col b) ≡ recolour col a (at col b)
  swapping_between same = rw same

  module _ {mid : List ℕ} (e : mid ≡ recolour col a (at col b)) where
    -- each region has a sector in it
    pub swapping_coloured : Coloured P mid
    swapping_coloured = rw e (coloured-recolour k.basis.coloured k.first (k.basis.coloured.sector b k.second))

    -- the second is given to the old sector of the first
    pub swapping_second : {q' : List ℕ} → length q' ≡ length q → Turning P start near areas mid q' b (at col a)
    swapping_second long =
        record {
          basis = record { limits = k.basis.limits; coloured = swapping_coloured; table = k.basis.table; queue = rw long k.basis.queue };
          region = k.second;
          sector = k.basis.coloured.sector a k.first;
          other = λ s. k.other (s ∙ ap (λ (l : List ℕ). at l b) e ∙ still);
        }

    -- after a look the first is given back to its sector
    pub swapping_back : recolour mid a (at col a) ≡ col
    swapping_back = rw e (set-set col _ (at col b) (at col a) ∙ recolour-own col a)

    -- what the two sectors have after the first is, the other way round, what they have before the second
    pub swapping_sides : {once : Change} {between : Sides} → Changed P col (recolour col a (at col b)) (at col a) (at col b) once → between ≡ turned_round once.after → between ≡ sides_of P mid (at mid b) (at col a)
    swapping_sides f s = s ∙ rw (f.after, e, still)

    module _ {once twice : Change} (f : Turns P col a (at col b) once) (s : Turns P mid b (at col a) twice) where
      -- the change of the second
      second : Changed P (recolour col a (at col b)) (swap col a b) (at col b) (at col a) twice
      second = rw still at (rw e at s.changed)

      -- what both gain and lose can be added up
      pub swapping_addable : Addable once twice
      swapping_addable = changed_addable f.changed second f.single s.single k.basis.limits

      -- both make one change
      pub swapping_changed : Changed P col (swap col a b) (at col a) (at col b) (in_turn once twice)
      swapping_changed = changed_in_turn f.changed second f.single s.single

  module _ {ls : List ℕ} (labelled : ls ≡ labels P.edges col) where
    -- there is a label for each region
    pub swapping_size : length ls ≡ P.R
    swapping_size = ap length labelled ∙ labels_length k.basis.limits k.basis.coloured

    module _ {mid ls₁ : List ℕ} {once : Turned} (f : Followed P col (recolour col a (at col b)) (at col a) (at col b) mid ls₁ once) where
      -- the labels after the first are those of the colouring between
      pub between_labelled : ls₁ ≡ labels P.edges mid
      between_labelled = f.labelled ∙ ap (labels P.edges) (sym f.colouring)

      -- both make one change, and the labels before and after both are compared
      pub swapping_followed : {col₂ ls₂ old : List ℕ} (r : List ℕ) {twice both : Turned} {n : ℕ} → Followed P mid (recolour mid b (at col a)) (at mid b) (at col a) col₂ ls₂ twice
          → Single once.change → Single twice.change
          → old ≡ ls ++ r → n ≡ differing (length (take P.R old)) (take P.R old) ls₂
          → (both.change ≡ in_turn once.change twice.change) × (both.relabelled ≡ n)
          → Followed P col (swap col a b) (at col a) (at col b) col₂ ls₂ both
      unfolding relabelled
      swapping_followed r s g h o e c =
          let before = ap (take P.R) o ∙ take_at ls r P.R swapping_size in
          let last = rw f.colouring at s.labelled in
          record {
            colouring = rw f.colouring at s.colouring;
            labelled = last;
            changed = rw c.0 (swapping_changed f.colouring (followed_turns f g) (followed_turns s h));
            relabelled = c.1 ∙ rw (before, swapping_size, labelled, last) at e;
          }
