-- The test that two lists are the same, and a loop that makes it.
-- Assumes nothing.
use Rattle.std.specs.Prelude.{ℕ, suc, ◌+◌, ◌≤◌, ◌<◌, ◌≡◌, refl, List, [], ◌∷◌, ◌≢◌, Bool, true, false, ◌&&◌, eqb, length, get_or, drop}
use Rattle.std.proofs.Common.{add-one, arith, sym, ap, ap₂, ◌∙◌, eqb-true, eq-eqb, ne_eqb, drop_of_length-le, drop-cons}
use Rattle.std.proofs.Math.Bool.{and-eq-true_iff}

-- two lists have the same elements
abbrev pub same : List ℕ → List ℕ → Bool
same [] [] = true
same [] (y ∷ ys) = false
same (x ∷ xs) [] = false
same (x ∷ xs) (y ∷ ys) = eqb x y && same xs ys

-- lists that pass are equal
pub same-eq : (xs ys : List ℕ) → same xs ys ≡ true → xs ≡ ys
same-eq [] [] e = refl
same-eq [] (y ∷ ys) e = let z : ◌≡◌ {A = ℕ} 0 1 = cc in absurd (omega arith)
same-eq (x ∷ xs) [] e = let z : ◌≡◌ {A = ℕ} 0 1 = cc in absurd (omega arith)
same-eq (x ∷ xs) (y ∷ ys) e =
    let p = (and-eq-true_iff (eqb x y) (same xs ys)).0 e in
    ap₂ (λ (a : ℕ) (l : List ℕ). a ∷ l) (eqb-true x y p.0) (same-eq xs ys p.1)

same-own : (xs : List ℕ) → same xs xs ≡ true
same-own [] = refl
same-own (x ∷ xs) = rw (eq-eqb x x refl, same-own xs)

-- and equal lists pass
pub eq-same : {xs ys : List ℕ} → xs ≡ ys → same xs ys ≡ true
eq-same {xs} e = ap (same xs) (sym e) ∙ same-own xs

-- ---- one element after the other

-- the elements before index i are the same: the test on the others is the test on all
pub record Alike (xs ys : List ℕ) (i : ℕ) : Type 0 where
  pub few : i ≤ length xs
  pub long : length ys ≡ length xs
  pub rest : same (drop i xs) (drop i ys) ≡ same xs ys

-- nothing is compared
pub alike_start : {xs ys : List ℕ} → length ys ≡ length xs → Alike xs ys 0
alike_start l = record { few = omega arith; long = l; rest = refl }

module _ {xs ys : List ℕ} {i : ℕ} (s : Alike xs ys i) where
  alike_next : i < length xs → same (drop i xs) (drop i ys) ≡ eqb (get_or xs i 0) (get_or ys i 0) && same (drop (suc i) xs) (drop (suc i) ys)
  alike_next h = rw (drop-cons xs i 0 h, drop-cons ys i 0 (rw s.long h))

  -- so is the next
  pub alike_turn : i < length xs → get_or xs i 0 ≡ get_or ys i 0 → Alike xs ys (i + 1)
  alike_turn h e =
      record { few = omega arith; long = s.long; rest = rw (add-one i) (sym (alike_next h ∙ rw (eq-eqb _ _ e)) ∙ s.rest) }

  -- the next is not
  pub alike_off : i < length xs → get_or xs i 0 ≢ get_or ys i 0 → false ≡ same xs ys
  alike_off h e = sym (alike_next h ∙ rw (ne_eqb _ _ e)) ∙ s.rest

  -- there is no next
  pub alike_end : length xs ≤ i → true ≡ same xs ys
  alike_end h = rw (drop_of_length-le xs h, drop_of_length-le ys {i = i} (rw s.long h)) at s.rest
