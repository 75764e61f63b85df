-- What stands follows a change: the figures and the total before it can be brought up to date, and are then those of the new colouring.
-- Assumes nothing.
use Rattle.std.specs.Prelude.{ℕ, ◌≡◌, List}
use Rattle.std.proofs.Common.{◌∙◌}
use Rattle.meaning.specs.Plan.{Constraint, Plan, Limits, Coloured, constraints_of}
use Rattle.meaning.specs.Kinds.{whole, total}
use Rattle.meaning.specs.Prices.{shared, prices}
use Rattle.kinds.specs.Constraints.{Paying}
use Rattle.judge.specs.declared.Figures.{Figures}
use Rattle.judge.specs.Figures.{total_by}
use Rattle.judge.specs.Small.{SmallFigures}
use Rattle.change.specs.declared.Change.{Change}
use Rattle.change.specs.Shift.{figures_after}
use Rattle.change.specs.Small.{Shifting}
use Rattle.change.specs.Changed.{Changed}
use Rattle.change.specs.Following.{shifting, figures_after_lem, figures_after_small, total-after}
use Rattle.engine.specs.declared.Standing.{Standing}
use Rattle.engine.specs.State.{standing_of, Setting, Ready}
use Rattle.engine.specs.Sorted.{sorted_paying}

-- the prices and what stands are those of a colouring from which there is a change to another
pub record Changing (P : Plan) (W : ℕ) (col after ps : List ℕ) (s : Standing) (own d : ℕ) (c : Change) : Type 0 where
  pub limits : Limits P
  pub whole : W ≡ whole P
  pub coloured : Coloured P col
  pub prices : ps ≡ prices P col
  pub standing : s ≡ standing_of P col
  pub changed : Changed P col after own d c

-- so it is where a move finds a change
pub ready_changing : {P : Plan} {W : ℕ} {start near areas q col after w ps : List ℕ} {s : Standing} {own d : ℕ} {c : Change} → Setting P W start near areas q → Ready P col w ps s → Changed P col after own d c → Changing P W col after ps s own d c
ready_changing k r ch = record { limits = k.limits; whole = k.whole; coloured = r.coloured; prices = r.prices; standing = r.standing; changed = ch }

module _ {P : Plan} {W : ℕ} {col after ps : List ℕ} {s : Standing} {own d : ℕ} {c : Change} (k : Changing P W col after ps s own d c) where
  -- the figures can follow
  pub changing_shifting : Shifting P.S W s.figures c
  changing_shifting = rw (k.whole, k.standing) (shifting k.limits k.coloured k.changed)

  module _ {F : Figures} (f : F ≡ figures_after P.S W s.figures c) where
    -- those after it make a total
    pub changing_totalling : {sh : List ℕ} → constraints_of sh ≡ shared P.constraints → SmallFigures F × Paying sh
    changing_totalling sorted =
        (rw (f, k.whole, k.standing) (figures_after_small k.limits k.coloured k.changed), sorted_paying k.limits 1 3 sorted)

    module _ {ks : List Constraint} (sorted : ks ≡ shared P.constraints) {t : ℕ} (p : t ≡ total_by F ks) where
      -- that of the new colouring
      pub total_changed : t ≡ total P after
      total_changed = p ∙ rw (sorted, f, k.whole, k.standing) (total-after k.limits k.coloured k.changed)

      -- so what stands is
      pub standing_changed : ◌≡◌ {A = Standing} (record { figures = F; total = t }) (standing_of P after)
      standing_changed = rw (total_changed, f, k.whole, k.standing, figures_after_lem k.limits k.coloured k.changed)
