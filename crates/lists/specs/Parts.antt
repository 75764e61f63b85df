-- A part of a list that is gone through cell by cell.
-- Assumes nothing.
use Rattle.std.specs.Prelude.{ℕ, ◌+◌, ◌≤◌, ◌<◌, ◌≡◌, List, get_or}
use Rattle.std.proofs.Common.{arith}
use Rattle.std.proofs.Math.Decide.{ℕ_discrete, dec_lt}

-- of the cells from index `first` up to `end` those before i are passed: each of them has P
pub record Passed (P : ℕ → Type 0) (xs : List ℕ) (first end i : ℕ) : Type 0 where
  pub low : first ≤ i
  pub high : i ≤ end
  pub each : (j : ℕ) → first ≤ j → j < i → P (get_or xs j 0)

-- none is passed
pub passed_start : {P : ℕ → Type 0} {xs : List ℕ} {first end : ℕ} → first ≤ end → Passed P xs first end first
passed_start h = record { low = omega arith; high = h; each = λ j lo hi. absurd (omega arith) }

-- the next one is passed
pub passed_turn : {P : ℕ → Type 0} {xs : List ℕ} {first end i : ℕ} → Passed P xs first end i → i < end → P (get_or xs i 0) → Passed P xs first end (i + 1)
passed_turn {P} {xs} {first} {end} {i} a h p = record { low = omega (arith, a.low); high = omega arith; each = λ j lo hi. each j lo hi (ℕ_discrete j i) }
  where
    each : (j : ℕ) → first ≤ j → j < i + 1 → Dec (j ≡ i) → P (get_or xs j 0)
    each j lo hi (yes e) = rw e p
    each j lo hi (no n) = a.each j lo (omega arith)

-- those from i up to k are passed next
pub passed_join : {P : ℕ → Type 0} {xs : List ℕ} {first end i k : ℕ} → Passed P xs first end i → Passed P xs i end k → Passed P xs first end k
passed_join {P} {xs} {first} {end} {i} {k} a b = record { low = omega (arith, a.low, b.low); high = b.high; each = λ j lo hi. each j lo hi (dec_lt j i) }
  where
    each : (j : ℕ) → first ≤ j → j < k → Dec (j < i) → P (get_or xs j 0)
    each j lo hi (yes l) = a.each j lo l
    each j lo hi (no l) = b.each j (omega arith) hi

-- what has P has Q
pub passed_map : {P Q : ℕ → Type 0} {xs : List ℕ} {first end i : ℕ} → ((x : ℕ) → P x → Q x) → Passed P xs first end i → Passed Q xs first end i
passed_map f a = record { low = a.low; high = a.high; each = λ j lo hi. f _ (a.each j lo hi) }
