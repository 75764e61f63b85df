-- The marks are taken off again: each region of the queue in its turn gets its sector back.
-- Assumes nothing.
use Rattle.std.specs.Prelude.{ℕ, ◌+◌, ◌-◌, ◌≤◌, ◌<◌, ◌≡◌, refl, List, ◌≢◌, length, get_or}
use Rattle.std.proofs.Common.{arith, sym, ap, ◌∙◌, length-set}
use Rattle.std.proofs.Math.Decide.{ℕ_discrete}
use Rattle.lists.specs.Sums.{at}
use Rattle.meaning.specs.Moves.{recolour}
use Rattle.lists.specs.Places.{at_set, at_set_other}
use Rattle.search.specs.Marks.{unmask, marked-sector, unmask_off, unmask-plain}
use Rattle.search.specs.Flood.{Reached, Queued, Flood, flood_top}

-- the marks that came with cur are off the first k regions of the queue: what is still marked stands from there on
pub record Restoring (R d : ℕ) (cur queue : List ℕ) (e : ℕ) (cur' : List ℕ) (k : ℕ) : Type 0 where
  pub flood : Flood R d cur queue e
  pub size : length cur' ≡ R
  pub same : unmask d cur' ≡ unmask d cur
  pub left : (w : ℕ) → Reached R cur' w → Queued queue k e w

-- none is off yet
pub restoring_start : {R d : ℕ} {cur queue : List ℕ} {e : ℕ} → Flood R d cur queue e → Restoring R d cur queue e cur 0
restoring_start f = record { flood = f; size = f.size; same = refl; left = f.place }

module _ {R d : ℕ} {cur queue : List ℕ} {e : ℕ} {cur' : List ℕ} {k : ℕ} (r : Restoring R d cur queue e cur' k) where
  -- the queue lies within its array
  pub restoring_room : e ≤ length queue
  restoring_room = omega (arith, flood_top r.flood, r.flood.room)

  -- where none is left, each region has its sector again
  pub restoring_end : e ≤ k → cur' ≡ unmask d cur
  restoring_end h = unmask-plain d cur' r.same r.size (λ w i m. let q = r.left w (record { inside = i; marked = m }) in omega (arith, q.low, q.high))

  -- the next is taken off
  pub restoring_turn : k < e → Restoring R d cur queue e (recolour cur' (get_or queue k 0) d) (k + 1)
  restoring_turn h =
      record { flood = r.flood; size = length-set cur' (x - 1) d ∙ r.size; same = unmask_off d cur' r.same x (marked-sector d cur refl x reached.marked); left = λ w m. left w m (ℕ_discrete w x) }
    where
      x : ℕ
      x = get_or queue k 0

      reached : Reached R cur x
      reached = r.flood.queued k h

      left : (w : ℕ) → Reached R (recolour cur' x d) w → Dec (w ≡ x) → Queued queue (k + 1) e w
      left w m (yes q) = absurd (omega (arith, r.flood.low, m.marked, ap (at (recolour cur' x d)) q, at_set cur' d r.size reached.inside))
      left w m (no n) =
          let q = r.left w (record { inside = m.inside; marked = sym (at_set_other cur' d r.size reached.inside m.inside n) ∙ m.marked }) in
          let ne : q.place ≢ k = λ z. n (sym q.is ∙ ap (λ (t : ℕ). get_or queue t 0) z) in
          record { place = q.place; low = omega (arith, q.low); high = q.high; is = q.is }
