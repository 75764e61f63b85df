-- The smallest of a part of a list.
-- Assumes nothing.
use Rattle.std.specs.Prelude.{ℕ, ◌+◌, ◌≤◌, ◌<◌, min, ◌≡◌, refl, List, get_or}
use Rattle.std.proofs.Common.{arith, ap}
use Rattle.std.proofs.Math.Decide.{ℕ_discrete, dec_lt}
use Rattle.search.specs.Flood.{Queued}

-- m stands in the queue from place `first` up to `end`, and nothing smaller does
pub record Minimum (queue : List ℕ) (first end m : ℕ) : Type 0 where
  pub stands : Queued queue first end m
  pub least : (k : ℕ) → first ≤ k → k < end → m ≤ get_or queue k 0

-- m is the smallest up to place k
pub record Minimising (queue : List ℕ) (first end m k : ℕ) : Type 0 where
  pub smallest : Minimum queue first k m
  pub low : first < k
  pub high : k ≤ end

-- the first alone is the smallest
pub minimising_start : (queue : List ℕ) (first : ℕ) {end : ℕ} → first < end → Minimising queue first end (get_or queue first 0) (first + 1)
minimising_start queue first h =
    record {
      smallest = record {
        stands = record { place = first; low = omega arith; high = omega arith; is = refl };
        least = λ k a b. let e : k ≡ first = omega arith in rw e (omega arith);
      };
      low = omega arith;
      high = omega arith;
    }

module _ {queue : List ℕ} {first end m k : ℕ} (s : Minimising queue first end m k) where
  -- the next is looked at
  pub minimising_turn : {r : ℕ} → k < end → r ≡ min m (get_or queue k 0) → Minimising queue first end r (k + 1)
  minimising_turn {r} h e =
      record { smallest = record { stands = stands (dec_lt (get_or queue k 0) m); least = λ i a b. least i a b (ℕ_discrete i k) }; low = omega (arith, s.low); high = omega arith }
    where
      stands : Dec (get_or queue k 0 < m) → Queued queue first (k + 1) r
      stands (yes l) = record { place = k; low = omega (arith, s.low); high = omega arith; is = omega arith }
      stands (no l) = let p = s.smallest.stands in record { place = p.place; low = p.low; high = omega (arith, p.high); is = omega (arith, p.is) }

      least : (i : ℕ) → first ≤ i → i < k + 1 → Dec (i ≡ k) → r ≤ get_or queue i 0
      least i a b (yes q) = omega (arith, ap (λ (t : ℕ). get_or queue t 0) q)
      least i a b (no n) = omega (arith, s.smallest.least i a (omega arith))

  -- all are looked at
  pub minimising_end : end ≤ k → Minimum queue first end m
  minimising_end h = let e : k ≡ end = omega (arith, s.high) in rw e at s.smallest
