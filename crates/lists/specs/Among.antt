-- A number that is one of a list, and a list whose numbers rise.
-- Assumes nothing.
use Rattle.std.specs.Prelude.{ℕ, zero, suc, ◌-◌, ◌<◌, ◌≡◌, refl, List, [], ◌∷◌, ◌⊎◌, ◌↔◌, length, get_or}
use Rattle.std.proofs.Common.{le_of_suc-le-suc, not-suc-le-zero, arith, sym, ◌∙◌, inl, inr}
use Rattle.lists.specs.Sums.{In, from, up_to, Every}
use Rattle.lists.specs.SumLaws.{length_from, get_or-from, every_from, at-up_to}

-- x is one of a list
pub record Among (l : List ℕ) (x : ℕ) : Type 0 where
  -- where it stands
  pub index : ℕ
  -- within the list
  pub below : index < length l
  -- and there it is
  pub is : get_or l index 0 ≡ x

-- nothing is one of the empty list
pub among_none : {x : ℕ} → Among [] x → ⊥
among_none m = not-suc-le-zero m.below

module _ {y : ℕ} {l : List ℕ} where
  -- what stands first is one
  pub among_first : Among (y ∷ l) y
  among_first = record { index = 0; below = omega arith; is = refl }

  -- and so is what is one of the others
  pub among_later : {x : ℕ} → Among l x → Among (y ∷ l) x
  among_later m = record { index = suc m.index; below = omega arith; is = m.is }

  -- there is nothing else
  pub among_cases : {x : ℕ} → Among (y ∷ l) x → (x ≡ y) ⊎ Among l x
  among_cases {x} m = go m.index m.below m.is
    where
      go : (i : ℕ) → i < length (y ∷ l) → get_or (y ∷ l) i 0 ≡ x → (x ≡ y) ⊎ Among l x
      go zero h e = inl (sym e)
      go (suc i) h e = inr (record { index = i; below = le_of_suc-le-suc h; is = e })

-- one of a list has what each of it has
pub among_every : (P : ℕ → Type 0) (l : List ℕ) {x : ℕ} → Every P l → Among l x → P x
among_every P [] e m = absurd (among_none m)
among_every P (y ∷ l) {x} e m = go (among_every P l e.1) (among_cases m)
  where
    go : (Among l x → P x) → (x ≡ y) ⊎ Among l x → P x
    go later (inl q) = rw q e.0
    go later (inr k) = later k

-- one of 1, 2, .., n is one of 1..n, and the other way
pub among_up_to : (n u : ℕ) → Among (up_to n) u ↔ In n u
among_up_to n u = (
  λ m. let b : m.index < n = rw (length_from 1 n) at m.below in let e = sym (get_or-from 1 n m.index b) ∙ m.is in record { low = omega arith; high = omega arith },
  λ i. record { index = u - 1; below = rw (length_from 1 n) (omega arith); is = at-up_to n u i },
)

-- each number of a list is below all that stand after it
abbrev pub Rising : List ℕ → Type 0
Rising [] = Unit {0}
Rising (x ∷ xs) = Every (λ y. x < y) xs × Rising xs

-- k, k + 1, .. do
rising_from : (k n : ℕ) → Rising (from k n)
rising_from k zero = tt
rising_from k (suc n) = (every_from (λ y. k < y) (suc k) n (λ u lo hi. lo), rising_from (suc k) n)

-- and so do 1, 2, .., n
pub rising_up_to : (n : ℕ) → Rising (up_to n)
rising_up_to n = rising_from 1 n
