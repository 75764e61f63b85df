-- Constraints turned in place, one after the other.
-- Assumes nothing.
use Rattle.std.specs.Prelude.{ℕ, suc, ◌+◌, ◌≤◌, ◌<◌, ◌≡◌, refl, List, [], ◌∷◌, ◌++◌, length, take, drop, get_or, set}
use Rattle.std.proofs.Common.{arith, sym, ap, ◌∙◌, append_assoc, length-append, length-set, length-drop, take-append-drop, drop-cons, take_at, drop_at, length-take-le}
use Rattle.std.proofs.lemmas.List.{set_at}
use Rattle.meaning.specs.Plan.{constraint_length}
use Rattle.form.specs.Form.{turned}
use Rattle.form.proofs.FormLaws.{length-turned}
use Rattle.form.specs.Over.{over}

-- fewer numbers than a constraint has stay
turned_few : (xs : List ℕ) → length xs < constraint_length → turned xs ≡ xs
unfolding turned
turned_few [] h = refl
turned_few (a ∷ []) h = refl
turned_few (a ∷ b ∷ []) h = refl
turned_few (a ∷ b ∷ x ∷ []) h = refl
turned_few (a ∷ b ∷ x ∷ y ∷ xs) h = absurd (omega arith)

-- a list from index i on: the numbers of a constraint, and the others
four : (xs : List ℕ) (i : ℕ) → i + constraint_length ≤ length xs
    → drop i xs ≡ get_or xs i 0 ∷ get_or xs (i + 1) 0 ∷ get_or xs (i + 2) 0 ∷ get_or xs (i + 3) 0 ∷ drop (i + constraint_length) xs
four xs i h =
    let next : (j k : ℕ) → suc j ≡ k → j < length xs → drop j xs ≡ get_or xs j 0 ∷ drop k xs = λ j k e l. drop-cons xs j 0 l ∙ rw e in
    rw (
      next i (i + 1) (omega arith) (omega arith),
      next (i + 1) (i + 2) (omega arith) (omega arith),
      next (i + 2) (i + 3) (omega arith) (omega arith),
      next (i + 3) (i + constraint_length) (omega arith) (omega arith),
    )

-- two numbers after a list change places
swapped : (p : List ℕ) (a b x y : ℕ) (rest : List ℕ) (i : ℕ) → length p ≡ i
    → set (set (p ++ a ∷ b ∷ x ∷ y ∷ rest) (i + 2) y) (i + 3) x ≡ p ++ a ∷ b ∷ y ∷ x ∷ rest
swapped p a b x y rest i h =
    let m : length (p ++ a ∷ b ∷ []) ≡ i + 2 = length-append p (a ∷ b ∷ []) ∙ omega arith in
    let n : length (p ++ a ∷ b ∷ y ∷ []) ≡ i + 3 = length-append p (a ∷ b ∷ y ∷ []) ∙ omega arith in
    rw (
      ← append_assoc p (a ∷ b ∷ []) (x ∷ y ∷ rest),
      set_at (p ++ a ∷ b ∷ []) x (y ∷ rest) y (i + 2) m,
      append_assoc p (a ∷ b ∷ []) (y ∷ y ∷ rest),
      ← append_assoc p (a ∷ b ∷ y ∷ []) (y ∷ rest),
      set_at (p ++ a ∷ b ∷ y ∷ []) y rest x (i + 3) n,
      append_assoc p (a ∷ b ∷ y ∷ []) (x ∷ rest),
    )

-- the constraints before index i are turned: with those from there on turned too, all are
pub record Turning (out₀ out : List ℕ) (i : ℕ) : Type 0 where
  pub size : length out ≡ length out₀
  pub room : i ≤ length out
  pub whole : take i out ++ turned (drop i out) ≡ turned out₀

-- none is turned
pub turning_start : {out : List ℕ} → Turning out out 0
turning_start = record { size = refl; room = omega arith; whole = refl }

-- a constraint more
pub turning_more : {out₀ out : List ℕ} {i : ℕ} → Turning out₀ out i → i + constraint_length ≤ length out
    → Turning out₀ (set (set out (i + 2) (get_or out (i + 3) 0)) (i + 3) (get_or out (i + 2) 0)) (i + constraint_length)
unfolding turned
turning_more {out₀} {out} {i} t h =
    let p = take i out in
    let a = get_or out i 0 in
    let b = get_or out (i + 1) 0 in
    let x = get_or out (i + 2) 0 in
    let y = get_or out (i + 3) 0 in
    let rest = drop (i + constraint_length) out in
    let n : length p ≡ i = length-take-le i out (omega arith) in
    let m : length (p ++ a ∷ b ∷ y ∷ x ∷ []) ≡ i + constraint_length = length-append p (a ∷ b ∷ y ∷ x ∷ []) ∙ omega arith in
    let e : out ≡ p ++ a ∷ b ∷ x ∷ y ∷ rest = sym (take-append-drop i out) ∙ ap (λ (l : List ℕ). p ++ l) (four out i h) in
    let f : set (set out (i + 2) y) (i + 3) x ≡ (p ++ a ∷ b ∷ y ∷ x ∷ []) ++ rest =
    ap (λ (l : List ℕ). set (set l (i + 2) y) (i + 3) x) e ∙ swapped p a b x y rest i n ∙ sym (append_assoc p (a ∷ b ∷ y ∷ x ∷ []) rest) in
    record {
      size = simp length-set t.size;
      room = simp length-set h;
      whole =
          rw (f, take_at (p ++ a ∷ b ∷ y ∷ x ∷ []) rest _ m, drop_at (p ++ a ∷ b ∷ y ∷ x ∷ []) rest _ m)
          (append_assoc p (a ∷ b ∷ y ∷ x ∷ []) (turned rest) ∙ ap (λ (l : List ℕ). p ++ turned l) (sym (four out i h)) ∙ t.whole);
    }

-- all are
pub turning_end : {out₀ out : List ℕ} {i : ℕ} → Turning out₀ out i → length out < i + constraint_length → out ≡ turned out₀
turning_end {out₀} {out} {i} t h =
    sym (take-append-drop i out) ∙ ap (λ (l : List ℕ). take i out ++ l) (sym (turned_few (drop i out) (simp length-drop (omega arith)))) ∙ t.whole

-- constraints turned at the front of a list
pub turned-front : {out' last : List ℕ} {n : ℕ} (xs out : List ℕ) → out' ≡ over xs out → length xs ≡ n → last ≡ turned (take n out') → last ++ drop n out' ≡ over (turned xs) out
turned-front {n = n} xs out e m h = rw (h, e, take_at xs _ n m, drop_at xs _ n m, length-turned xs)
