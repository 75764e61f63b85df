-- The regions of a part of the queue are given one label.
-- Assumes nothing.
use Rattle.std.specs.Prelude.{ℕ, ◌+◌, ◌-◌, ◌≤◌, ◌<◌, ◌≡◌, refl, List, ◌≢◌, ◌⊎◌, not, eqb, length, get_or}
use Rattle.std.proofs.Common.{arith, sym, ap, ◌∙◌, inl, inr, length-set}
use Rattle.std.proofs.Math.Decide.{ℕ_discrete}
use Rattle.lists.specs.Sums.{In, at, bit}
use Rattle.lists.specs.Places.{at_set, at_set_other}
use Rattle.meaning.specs.Moves.{recolour, differing}
use Rattle.search.specs.Flood.{Queued}
use Rattle.search.specs.Scan.{Span}
use Rattle.relabel.specs.Differing.{differing-none, differing-le, differing-add, differing-set}

-- the regions that stand in the queue from place `first` up to `end` have label m, and every other the one that it had; n labels are new
pub record Written (R : ℕ) (queue : List ℕ) (first end m : ℕ) (ls ls' : List ℕ) (n : ℕ) : Type 0 where
  pub size : length ls' ≡ R
  pub given : (w : ℕ) → Queued queue first end w → at ls' w ≡ m
  pub kept : (w : ℕ) → In R w → (Queued queue first end w → ⊥) → at ls' w ≡ at ls w
  pub number : n ≡ differing R ls ls'

-- those before place k have it
pub record Writing (R : ℕ) (queue : List ℕ) (first end m : ℕ) (ls ls' : List ℕ) (n k : ℕ) : Type 0 where
  pub span : Span R queue first end
  pub written : Written R queue first k m ls ls' n
  pub low : first ≤ k
  pub high : k ≤ end

-- none has it yet
pub writing_start : {R : ℕ} {queue : List ℕ} {first end m : ℕ} {ls : List ℕ} → length ls ≡ R → Span R queue first end → Writing R queue first end m ls ls 0 first
writing_start {R} {ls = ls} size s =
    record {
      span = s;
      written = record { size = size; given = λ w q. absurd (omega (arith, q.low, q.high)); kept = λ w i n. refl; number = sym (differing-none R ls) };
      low = omega arith;
      high = s.order;
    }

module _ {R : ℕ} {queue : List ℕ} {first end m : ℕ} {ls ls' : List ℕ} {n k : ℕ} (s : Writing R queue first end m ls ls' n k) where
  -- the next of the queue is a region
  pub writing_in : k < end → In R (get_or queue k 0)
  writing_in h = s.span.inside k s.low h

  -- no more labels are new than there are regions
  pub writing_few : n ≤ R
  writing_few = omega (arith, s.written.number, differing-le R ls ls')

  -- the region is given the label
  pub writing_turn : {r : ℕ} → k < end → r ≡ bit (not (eqb (at ls' (get_or queue k 0)) m)) → Writing R queue first end m ls (recolour ls' (get_or queue k 0) m) (n + r) (k + 1)
  writing_turn {r} h e =
      record {
        span = s.span;
        written = record {
          size = length-set ls' (x - 1) m ∙ s.written.size;
          given = λ w q. given w q (ℕ_discrete w x);
          kept = λ w j q. at_set_other ls' m s.written.size i j (λ z. q (last w z)) ∙ s.written.kept w j (λ p. q (longer p));
          number = rw (s.written.number, e, ← differing-set ls' m s.written.size i) (differing-add R ls ls' (recolour ls' x m) (λ w j. once w j (ℕ_discrete w x)));
        };
        low = omega (arith, s.low);
        high = omega arith;
      }
    where
      x : ℕ
      x = get_or queue k 0

      i : In R x
      i = writing_in h

      last : (w : ℕ) → w ≡ x → Queued queue first (k + 1) w
      last w z = record { place = k; low = s.low; high = omega arith; is = sym z }

      longer : {w : ℕ} → Queued queue first k w → Queued queue first (k + 1) w
      longer p = record { place = p.place; low = p.low; high = omega (arith, p.high); is = p.is }

      shorter : {w : ℕ} → w ≢ x → Queued queue first (k + 1) w → Queued queue first k w
      shorter n p =
          let ne : p.place ≢ k = λ z. n (sym p.is ∙ ap (λ (t : ℕ). get_or queue t 0) z) in
          record { place = p.place; low = p.low; high = omega (arith, p.high); is = p.is }

      inside : {w : ℕ} → Queued queue first (k + 1) w → In R w
      inside p = rw (← p.is) (s.span.inside p.place p.low (omega (arith, p.high)))

      given : (w : ℕ) → Queued queue first (k + 1) w → Dec (w ≡ x) → at (recolour ls' x m) w ≡ m
      given w q (yes z) = rw z (at_set ls' m s.written.size i)
      given w q (no z) = at_set_other ls' m s.written.size i (inside q) z ∙ s.written.given w (shorter z q)

      once : (w : ℕ) → In R w → Dec (w ≡ x) → (at ls' w ≡ at ls w) ⊎ (at (recolour ls' x m) w ≡ at ls' w)
      once w j (no z) = inr (at_set_other ls' m s.written.size i j z)
      once w j (yes z) = again (ℕ_discrete (at ls' w) m)
        where
          again : Dec (at ls' w ≡ m) → (at ls' w ≡ at ls w) ⊎ (at (recolour ls' x m) w ≡ at ls' w)
          again (yes q) = inr (given w (last w z) (yes z) ∙ sym q)
          again (no q) = inl (s.written.kept w j (λ p. q (s.written.given w p)))

  -- all have the label
  pub writing_end : end ≤ k → Written R queue first end m ls ls' n
  writing_end h = let e : k ≡ end = omega (arith, s.high) in rw e at s.written
