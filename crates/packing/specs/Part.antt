-- A part of a list, as a part of a slice shows it.
-- Assumes nothing.
use Rattle.std.specs.Prelude.{ℕ, zero, suc, ◌+◌, ◌-◌, ◌≤◌, ◌<◌, ◌≡◌, refl, List, [], ◌∷◌, ◌++◌, length, get_or, take, drop}
use Rattle.std.proofs.Common.{add-one, arith, ap, ◌∙◌, length-take, length-drop, take-add, take_all, take_at, take-take, drop_at, drop-cons, drop-drop}

module _ {A : Type 0} where
  -- the elements from index f up to index t, which is not among them: what `&s[f..t]` shows
  abbrev pub part : ℕ → ℕ → List A → List A
  part f t l = take (t - f) (drop f l)

  -- it has as many elements as lie between the two
  pub length_part : (f t : ℕ) (l : List A) → f ≤ t → t ≤ length l → length (part f t l) ≡ t - f
  length_part f t l h k = simp (length-take, length-drop) (omega arith)

  -- from an index up to itself, or to an earlier one, there is nothing
  pub part_none : (f t : ℕ) (l : List A) → t ≤ f → part f t l ≡ []
  part_none f t l h = let e : t - f ≡ 0 = omega arith in rw e

  -- its first element, and the others
  pub part-cons : (f t : ℕ) (l : List A) (d : A) → f < t → t ≤ length l → part f t l ≡ get_or l f d ∷ part (f + 1) t l
  part-cons f t l d h k =
      let e : t - f ≡ suc (t - (f + 1)) = omega arith in
      let m : f < length l = omega arith in
      rw (e, drop-cons l f d m, ← add-one f)

  -- up to the end it is the rest of the list
  pub part_rest : (f t : ℕ) (l : List A) → length l ≤ t → part f t l ≡ drop f l
  part_rest f t l h = take_all (t - f) (drop f l) (simp length-drop (omega arith))

  -- a part, cut in two
  pub part_cut : (f m t : ℕ) (l : List A) → f ≤ m → m ≤ t → part f t l ≡ part f m l ++ part m t l
  part_cut f m t l h k =
      let e : t - f ≡ (m - f) + (t - m) = omega arith in
      let g : f + (m - f) ≡ m = omega arith in
      rw (e, take-add (m - f) (t - m) (drop f l), drop-drop (m - f) f l, g)

  take-drop-take : (m f n : ℕ) (l : List A) → f + m ≤ n → take m (drop f (take n l)) ≡ take m (drop f l)
  take-drop-take m zero n l h = take-take m n l (omega arith)
  take-drop-take m (suc f) zero l h = absurd (omega arith)
  take-drop-take m (suc f) (suc n) [] h = refl
  take-drop-take m (suc f) (suc n) (x ∷ l) h = take-drop-take m f n l (omega arith)

  -- a part of a list's front is that part of the list
  pub part-take : (f t n : ℕ) (l : List A) → f ≤ t → t ≤ n → part f t (take n l) ≡ part f t l
  part-take f t n l h k = take-drop-take (t - f) f n l (omega arith)

  -- the middle one of three lists
  pub part_middle : (p q r : List A) (f t : ℕ) → length p ≡ f → length q ≡ t - f → part f t (p ++ (q ++ r)) ≡ q
  part_middle p q r f t h k = ap (take (t - f)) (drop_at p (q ++ r) f h) ∙ take_at q r (t - f) k
