-- A change is settled that the colouring and the labels have followed: the numbers of the two sectors are put down, and all is that of the new colouring.
-- Assumes nothing.
use Rattle.std.specs.Prelude.{ℕ, ◌-◌, ◌≤◌, ◌≡◌, refl, length, take}
use Rattle.std.proofs.Math.Path.{sym, ap}
use Rattle.std.proofs.Common.{◌∙◌, take-append-drop}
use mathlib.Core.List.{List, ◌++◌}
use Rattle.std.proofs.Math.ListN.{drop}
use Rattle.meaning.specs.Plan.{Plan}
use Rattle.meaning.specs.Joined.{labels}
use Rattle.meaning.specs.Kinds.{counts, loads}
use Rattle.meaning.proofs.Components.{counts-length, loads-length}
use Rattle.change.specs.declared.Change.{Change}
use Rattle.change.specs.Changed.{changed_counts, changed_loads, changed_prices}
use Rattle.engine.specs.declared.Standing.{Standing}
use Rattle.engine.specs.declared.turn.Turned.{Turned}
use Rattle.engine.specs.State.{memory, memory_length, standing_of, Setting, Ready}
use Rattle.engine.specs.Memory.{Placed, plan_placed, pair_put, sides_put, sides-put, labels_length, relabelled_room, relabelled-front, relabelled-beyond}
use Rattle.engine.specs.Remade.{Left, Remade, ready_kept}
use Rattle.engine.specs.Turning.{Followed}
use Rattle.engine.specs.Changing.{Changing, ready_changing}

-- what is found: the labels are those of the colouring, and all else is still that of the colouring before the change
pub record Settling (P : Plan) (W : ℕ) (after w ps : List ℕ) (s : Standing) (own d : ℕ) (c : Change) : Type 0 where
  pub col : List ℕ
  pub changing : Changing P W col after ps s own d c
  pub room : memory_length P ≤ length w
  pub work : take (memory_length P) w ≡ labels P.edges after ++ counts P col ++ loads P col

module _ {P : Plan} {W : ℕ} {after w ps : List ℕ} {s : Standing} {own d : ℕ} {c : Change} (k : Settling P W after w ps s own d c) where
  -- the two sectors have their numbers there
  pub settling_placed : Placed w ps P.R P.S own d
  settling_placed = let ch = k.changing.changed in plan_placed P k.col k.room k.changing.prices ch.old ch.new

  -- with those after the change put down, the lent memory is that of the new colouring
  pub settling_left : {w' ps' : List ℕ} → w' ≡ sides_put w P.R P.S own d c.after → ps' ≡ pair_put ps (own - 1) (d - 1) c.after.prices → Left P w after after w' ps'
  unfolding memory
  settling_left put paid =
      let ch = k.changing.changed in
      let col = k.col in
      let front = sym (take-append-drop (memory_length P) w) ∙ ap (λ (m : List ℕ). m ++ drop (memory_length P) w) k.work in
      record {
        colouring = refl;
        work =
            put
            ∙ ap (λ (m : List ℕ). sides_put m P.R P.S own d c.after) front
            ∙ sides-put (labels P.edges after) (counts P col) (loads P col) (drop (memory_length P) w) (labels_length k.changing.limits ch.coloured) (counts-length P col) (loads-length P col) ch.old ch.new c.after
            ∙ rw (ch.after, changed_counts ch, changed_loads ch);
        prices = paid ∙ rw (k.changing.prices, ch.after, changed_prices ch);
      }

module _ {P : Plan} {W : ℕ} {start near areas q col w ps : List ℕ} {s : Standing} (k : Setting P W start near areas q) (r : Ready P col w ps s)
    {after : List ℕ} {own d : ℕ} {col' ls : List ℕ} {t : Turned} (f : Followed P col after own d col' ls t) where
  -- there is a label for each region
  size : length ls ≡ P.R
  size = ap length f.labelled ∙ labels_length k.limits f.changed.coloured

  -- a change that the colouring and the labels have followed can be settled
  pub followed_settling : Settling P W col' (ls ++ drop P.R w) ps s own d t.change
  followed_settling =
      let m = ready_kept k.limits r in
      rw f.colouring
      (record {
        col = col;
        changing = ready_changing k r f.changed;
        room = relabelled_room m ls size;
        work = relabelled-front m ls size ∙ rw f.labelled;
      })

  -- which makes the move
  pub followed_remade : {s' : Standing} {w' ps' : List ℕ} → Left P (ls ++ drop P.R w) col' col' w' ps' → s' ≡ standing_of P col' → Remade P col w after col' w' ps' (record { standing = s'; relabelled = t.relabelled })
  followed_remade l e =
      let beyond = relabelled-beyond (ready_kept k.limits r) ls size in
      record {
        left = record { colouring = f.colouring; work = rw (f.colouring, beyond) at l.work; prices = rw f.colouring at l.prices };
        standing = rw f.colouring at e;
        relabelled = f.relabelled;
      }
