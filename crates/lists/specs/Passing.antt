-- Those of a list that pass a test: which they are, how many, and how a loop puts them down.
-- Assumes nothing.
use Rattle.std.specs.Prelude.{ℕ, suc, ◌+◌, ◌≤◌, ◌<◌, ◌≡◌, ◌⊎◌, ◌↔◌, Bool, cond, set, drop}
use Rattle.std.proofs.Common.{zero-add, add-one, sym, ◌∙◌, inl, inr, ⊎_elim, length-set, drop_of_length-le}
use native.Mathlib.Omega.{arith}
use Rattle.std.proofs.Math.Path.{refl, ap}
use mathlib.Core.List.{List, [], ◌∷◌, ◌++◌}
use Rattle.std.proofs.Math.Bool.{true, false}
use Rattle.std.proofs.lemmas.Bool.{false≢true}
use Rattle.std.proofs.Math.ListN.{length}
use Rattle.std.proofs.lemmas.List.Edits.{sets, sets-eq}
use Rattle.lists.specs.Sums.{In, bit, up_to, sum, count, passing, Every}
use Rattle.lists.specs.Among.{Among, among_none, among_first, among_later, among_cases, among_up_to, Rising}

-- ---- of any list

module _ {A : Type 0} (test : A → Bool) where
  -- one that passes comes in front of the others
  pub passing_yes : {x : A} (xs : List A) → test x ≡ true → passing test (x ∷ xs) ≡ x ∷ passing test xs
  unfolding passing
  passing_yes xs t = rw t

  -- one that fails is left out
  pub passing_no : {x : A} (xs : List A) → test x ≡ false → passing test (x ∷ xs) ≡ passing test xs
  unfolding passing
  passing_no xs f = rw f

  -- there are as many as the test counts
  pub length-passing : (xs : List A) → length (passing test xs) ≡ count xs test
  unfolding passing
  length-passing [] = refl
  length-passing (x ∷ xs) = go (test x) (length-passing xs)
    where
      go : (b : Bool) → length (passing test xs) ≡ count xs test → length (cond b (x ∷ passing test xs) (passing test xs)) ≡ bit b + count xs test
      go true e = omega arith
      go false e = omega arith

  -- a sum to which only those bring something that pass it is the sum over them
  pub sum-passing : (f : A → ℕ) → ((x : A) → test x ≡ false → f x ≡ 0) → (xs : List A) → sum (passing test xs) f ≡ sum xs f
  unfolding passing
  sum-passing f h [] = refl
  sum-passing f h (x ∷ xs) = go (test x) refl (sum-passing f h xs)
    where
      go : (b : Bool) → test x ≡ b → sum (passing test xs) f ≡ sum xs f → sum (cond b (x ∷ passing test xs) (passing test xs)) f ≡ f x + sum xs f
      go true e r = omega (arith, r)
      go false e r = omega (arith, r, h x e)

  -- none, where each fails
  pub passing-none : (xs : List A) → Every (λ x. test x ≡ false) xs → passing test xs ≡ []
  unfolding passing
  passing-none [] e = refl
  passing-none (x ∷ xs) e = passing_no xs e.0 ∙ passing-none xs e.1

  -- what each of the list has, each of these has
  pub passing_every : (P : A → Type 0) (xs : List A) → Every P xs → Every P (passing test xs)
  unfolding passing
  passing_every P [] e = tt
  passing_every P (x ∷ xs) e = go (test x) (passing_every P xs e.1)
    where
      go : (b : Bool) → Every P (passing test xs) → Every P (cond b (x ∷ passing test xs) (passing test xs))
      go true r = (e.0, r)
      go false r = r

-- ---- of a list of numbers

module _ (test : ℕ → Bool) where
  -- one of these is one of the list, and passes
  passing-own : {u : ℕ} (xs : List ℕ) → Among (passing test xs) u → Among xs u × (test u ≡ true)
  unfolding passing
  passing-own [] m = absurd (among_none m)
  passing-own {u} (x ∷ xs) m = go (test x) refl (passing-own xs) m
    where
      later : Among xs u × (test u ≡ true) → Among (x ∷ xs) u × (test u ≡ true)
      later p = (among_later p.0, p.1)

      go : (b : Bool) → test x ≡ b → (Among (passing test xs) u → Among xs u × (test u ≡ true)) → Among (cond b (x ∷ passing test xs) (passing test xs)) u
          → Among (x ∷ xs) u × (test u ≡ true)
      go true e r k = ⊎_elim (λ q. (rw q among_first, ap test q ∙ e)) (λ o. later (r o)) (among_cases k)
      go false e r k = later (r k)

  -- and the other way
  passing-all : {u : ℕ} (xs : List ℕ) → Among xs u → test u ≡ true → Among (passing test xs) u
  unfolding passing
  passing-all [] m t = absurd (among_none m)
  passing-all {u} (x ∷ xs) m t = go (test x) refl (λ o. passing-all xs o t) (among_cases m)
    where
      go : (b : Bool) → test x ≡ b → (Among xs u → Among (passing test xs) u) → (u ≡ x) ⊎ Among xs u → Among (cond b (x ∷ passing test xs) (passing test xs)) u
      go true e r (inl q) = rw q among_first
      go true e r (inr o) = among_later (r o)
      go false e r (inl q) = absurd (false≢true (sym e ∙ ap test (sym q) ∙ t))
      go false e r (inr o) = r o

  -- they are exactly those of the list that pass
  pub passing_among : (xs : List ℕ) (u : ℕ) → Among (passing test xs) u ↔ (Among xs u × (test u ≡ true))
  passing_among xs u = (passing-own xs, λ p. passing-all xs p.0 p.1)

  -- of 1, 2, .., n they are those of 1..n that pass
  pub passing-up_to : (n u : ℕ) → Among (passing test (up_to n)) u ↔ (In n u × (test u ≡ true))
  passing-up_to n u = (
    λ m. let p = (passing_among (up_to n) u).0 m in ((among_up_to n u).0 p.0, p.1),
    λ p. (passing_among (up_to n) u).1 ((among_up_to n u).1 p.0, p.1),
  )

  -- they rise where the list does
  pub passing_rising : (xs : List ℕ) → Rising xs → Rising (passing test xs)
  unfolding passing
  passing_rising [] h = tt
  passing_rising (x ∷ xs) h = go (test x) (passing_rising xs h.1)
    where
      go : (b : Bool) → Rising (passing test xs) → Rising (cond b (x ∷ passing test xs) (passing test xs))
      go true r = (passing_every test (λ y. x < y) xs h.0, r)
      go false r = r

-- ---- by a loop

-- those before index i that pass are put down, and k is where the next goes: with those of the rest put down from there on all are, and then comes what out₀ has
pub record Listed (test : ℕ → Bool) (xs out₀ : List ℕ) (i k : ℕ) (out : List ℕ) : Type 0 where
  pub size : length out ≡ length out₀
  pub room : k + length (passing test (drop i xs)) ≤ length out₀
  pub rest : sets out k (passing test (drop i xs)) ≡ passing test xs ++ drop (length (passing test xs)) out₀

module _ {test : ℕ → Bool} {xs out₀ : List ℕ} where
  -- before the first number out is out₀
  pub listed_start : length (passing test xs) ≤ length out₀ → Listed test xs out₀ 0 0 out₀
  listed_start h =
      record { size = refl; room = omega arith; rest = sets-eq (passing test xs) out₀ 0 (omega arith) ∙ rw (zero-add (length (passing test xs))) }

  module _ {i k x : ℕ} {out : List ℕ} (l : Listed test xs out₀ i k out) (next : drop i xs ≡ x ∷ drop (suc i) xs) where
    module _ (t : test x ≡ true) where
      -- those of the rest, where the next number passes
      passes : passing test (drop i xs) ≡ x ∷ passing test (drop (suc i) xs)
      passes = ap (passing test) next ∙ passing_yes test (drop (suc i) xs) t

      -- then there is room for it
      pub listed_room : k < length out₀
      listed_room = omega (arith, l.room, ap length passes)

      -- and it is put down
      pub listed_own : Listed test xs out₀ (i + 1) (k + 1) (set out k x)
      listed_own =
          record {
            size = length-set out k x ∙ l.size;
            room = rw (add-one i) (omega (arith, l.room, ap length passes));
            rest = rw (add-one i, add-one k) (rw passes at l.rest);
          }

    -- a number that fails is left out
    pub listed_other : test x ≡ false → Listed test xs out₀ (i + 1) k out
    listed_other f =
        let e = ap (passing test) next ∙ passing_no test (drop (suc i) xs) f in
        record { size = l.size; room = rw (add-one i) (omega (arith, l.room, ap length e)); rest = rw (add-one i) (rw e at l.rest) }

  -- past the last number all are put down
  pub listed_end : {i k : ℕ} {out : List ℕ} → Listed test xs out₀ i k out → length xs ≤ i → out ≡ passing test xs ++ drop (length (passing test xs)) out₀
  unfolding passing
  listed_end l h = rw (drop_of_length-le xs h) at l.rest
