-- A search marks the regions that it reaches and keeps them in a queue: what holds of the marks and of the queue.
-- Assumes nothing.
use Rattle.std.specs.Prelude.{ℕ, ◌+◌, ◌-◌, ◌≤◌, ◌<◌, ◌≡◌, refl, List, ◌⊎◌, Bool, length, get_or, set}
use Rattle.std.proofs.Common.{arith, ◌∙◌, inl, inr, eq-eqb, ne_eqb, get_or-set_same, get_or-set_other}
use Rattle.std.proofs.Math.Decide.{ℕ_discrete}
use Rattle.std.proofs.Math.Path.{sym, ap}
use Rattle.std.proofs.Math.Logic.{⊎_elim}
use Rattle.std.proofs.Math.Dec.{eqb}
use Rattle.std.proofs.Math.ListN.{length-set}
use Rattle.lists.specs.Sums.{In, at, up_to, count}
use Rattle.lists.specs.Places.{at_set, at_set_other}
use Rattle.lists.specs.Counts.{count_none, count_more, count-le, count_less}
use Rattle.meaning.specs.Moves.{recolour}
use Rattle.search.specs.Marks.{mark, unmask, unmask-plain, mark_keep}

-- what a search starts from: R regions, none of them marked, and room in the queue for one more than all of them
pub record Ready (R : ℕ) (col queue : List ℕ) : Type 0 where
  pub size : length col ≡ R
  pub room : R < length queue
  pub plain : (w : ℕ) → In R w → at col w < mark

-- each region shows its sector
pub ready_same : (d : ℕ) {R : ℕ} {col queue : List ℕ} → Ready R col queue → unmask d col ≡ col
ready_same d {col} r = sym (unmask-plain d col refl r.size (λ w i m. omega (arith, r.plain w i)))

-- region w is marked
pub record Reached (R : ℕ) (cur : List ℕ) (w : ℕ) : Type 0 where
  pub inside : In R w
  pub marked : at cur w ≡ mark

-- it still is where z is marked too
pub reached_keep : {R : ℕ} {cur : List ℕ} {w : ℕ} (z : ℕ) → Reached R cur w → Reached R (recolour cur z mark) w
reached_keep {cur = cur} {w = w} z r = record { inside = r.inside; marked = mark_keep cur z w r.marked }

module _ {R : ℕ} (cur : List ℕ) {z : ℕ} (size : length cur ≡ R) (i : In R z) where
  -- z is marked then
  pub reached_here : Reached R (recolour cur z mark) z
  reached_here = record { inside = i; marked = at_set cur mark size i }

  -- what is marked then is z, or was marked before
  pub reached_cases : {w : ℕ} → Reached R (recolour cur z mark) w → (w ≡ z) ⊎ Reached R cur w
  reached_cases {w} r = go (ℕ_discrete w z)
    where
      go : Dec (w ≡ z) → (w ≡ z) ⊎ Reached R cur w
      go (yes e) = inl e
      go (no n) = inr (record { inside = r.inside; marked = sym (at_set_other cur mark size i r.inside n) ∙ r.marked })

-- w stands in the queue, from place `first` up to `end`
pub record Queued (queue : List ℕ) (first end w : ℕ) : Type 0 where
  pub place : ℕ
  pub low : first ≤ place
  pub high : place < end
  pub is : get_or queue place 0 ≡ w

-- it stands there still in a longer queue with the same cells up to `end`
queued_longer : {queue queue' : List ℕ} {first end end' w : ℕ} → Queued queue first end w → ((k : ℕ) → k < end → get_or queue' k 0 ≡ get_or queue k 0) → end ≤ end' → Queued queue' first end' w
queued_longer q keep more = record { place = q.place; low = q.low; high = omega (arith, q.high); is = keep q.place q.high ∙ q.is }

-- the test whether a region is marked
unfoldable pub marked : List ℕ → ℕ → Bool
marked cur w = eqb (at cur w) mark

-- in place of their sector d some regions of cur are marked: they are the first e of the queue, each of them once
pub record Flood (R d : ℕ) (cur queue : List ℕ) (e : ℕ) : Type 0 where
  pub size : length cur ≡ R
  pub room : R < length queue
  pub low : d < mark
  -- as many as are marked
  pub full : e ≡ count (up_to R) (marked cur)
  -- each is marked
  pub queued : (k : ℕ) → k < e → Reached R cur (get_or queue k 0)
  -- each that is marked is among them
  pub place : (w : ℕ) → Reached R cur w → Queued queue 0 e w

-- before anything is marked the queue is empty
pub flood_none : {R d : ℕ} {cur queue : List ℕ} → Ready R cur queue → d < mark → Flood R d cur queue 0
unfolding marked
flood_none {R} {d} {cur} r low =
    record {
      size = r.size;
      room = r.room;
      low = low;
      full = sym (count_none R (λ u. eqb (at cur u) mark) (λ u i. ne_eqb (at cur u) mark (λ m. omega (arith, r.plain u i))));
      queued = λ k h. absurd (omega arith);
      place = λ w h. absurd (omega (arith, h.marked, r.plain w h.inside));
    }

module _ {R d : ℕ} {cur queue : List ℕ} {e : ℕ} (f : Flood R d cur queue e) where
  -- no more than R regions are marked
  pub flood_top : e ≤ R
  flood_top = omega (arith, f.full, count-le R (marked cur))

  -- what stands past the end of the queue is no matter
  pub flood_past : (x : ℕ) → Flood R d cur (set queue e x) e
  flood_past x =
      record {
        size = f.size;
        room = rw (length-set queue e x) f.room;
        low = f.low;
        full = f.full;
        queued = λ k h. rw (get_or-set_other queue e k x 0 (omega arith)) (f.queued k h);
        place = λ w h. queued_longer (f.place w h) (λ k b. get_or-set_other queue e k x 0 (omega arith)) (omega arith);
      }

  module _ {z : ℕ} (i : In R z) (o : at cur z ≡ d) where
    -- fewer than R regions are marked where one shows d
    pub flood_room : e < R
    unfolding marked
    flood_room = omega (arith, f.full, count_less R z (marked cur) i (ne_eqb (at cur z) mark (λ m. omega (arith, f.low))))

    -- such a region is marked, and put into the queue
    pub flood_push : Flood R d (recolour cur z mark) (set queue e z) (e + 1)
    unfolding marked
    flood_push =
        record {
          size = length-set cur (z - 1) mark ∙ f.size;
          room = rw (length-set queue e z) f.room;
          low = f.low;
          full = omega (arith, f.full, count_more R z (marked (recolour cur z mark)) (marked cur) i (eq-eqb _ _ here.marked) (ne_eqb (at cur z) mark (λ m. omega (arith, f.low))) (λ u j n. ap (λ (x : ℕ). eqb x mark) (at_set_other cur mark f.size i j n)));
          queued = λ k h. queued k h (ℕ_discrete k e);
          place = λ w h. ⊎_elim (λ q. record { place = e; low = omega arith; high = omega arith; is = last ∙ sym q }) (λ r. queued_longer (f.place w r) before (omega arith)) (reached_cases cur f.size i h);
        }
      where
        here : Reached R (recolour cur z mark) z
        here = reached_here cur f.size i

        last : get_or (set queue e z) e 0 ≡ z
        last = get_or-set_same queue e z 0 (omega (arith, flood_room, f.room))

        before : (k : ℕ) → k < e → get_or (set queue e z) k 0 ≡ get_or queue k 0
        before k h = get_or-set_other queue e k z 0 (omega arith)

        queued : (k : ℕ) → k < e + 1 → Dec (k ≡ e) → Reached R (recolour cur z mark) (get_or (set queue e z) k 0)
        queued k h (yes q) = rw (q, last) here
        queued k h (no n) =
            let b : k < e = omega arith in
            rw (before k b) (reached_keep z (f.queued k b))
