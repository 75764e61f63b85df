-- Lists put down in another: in the place of a part, one over another, and one after the other.
-- Assumes nothing.
use Rattle.std.specs.Prelude.{ℕ, ◌+◌, ◌-◌, ◌≤◌, ◌≡◌, refl, List, [], ◌∷◌, ◌++◌, length, take, drop}
use Rattle.std.proofs.Common.{arith, sym, ap, ◌∙◌, append_assoc, length-append, length-drop, take-append-drop, length-take-le, take_at, take-take, take-add, drop_at, drop-drop}
use Rattle.std.proofs.lemmas.List.{take-append-le, drop-append-le}
use borrow.Rule.Slice.PartMut.{put_mid, Post-is}
use Rattle.lists.specs.Sums.{sum}
use Rattle.packing.specs.Part.{part, part-take}
use Rattle.packing.specs.Put.{put, length-put, part-put}

-- what a slice has after a part of it was lent: the list that came back is put down there
pub put-part : (a e : ℕ) (d xs : List ℕ) → a ≤ e → length xs ≡ e - a → put_mid a (e - a) d xs ≡ put d a xs
unfolding put
put-part a e d xs h n =
    let m : a + length xs ≡ e = omega arith in
    rw (Post-is a e d h, m, append_assoc (take a d) xs (drop e d))

-- what lies before stays
pub take_put : (d : List ℕ) (at : ℕ) (xs : List ℕ) → at ≤ length d → take at (put d at xs) ≡ take at d
unfolding put
take_put d at xs h = rw (append_assoc (take at d) xs (drop (at + length xs) d)) (take_at (take at d) _ at (length-take-le at d h))

-- then comes what is put down, and what lies beyond
pub drop-put : (d : List ℕ) (at : ℕ) (xs : List ℕ) → at ≤ length d → drop at (put d at xs) ≡ xs ++ drop (at + length xs) d
unfolding put
drop-put d at xs h = rw (append_assoc (take at d) xs (drop (at + length xs) d)) (drop_at (take at d) _ at (length-take-le at d h))

-- which stays
pub beyond-put : (d : List ℕ) (at : ℕ) (xs : List ℕ) → at ≤ length d → drop (at + length xs) (put d at xs) ≡ drop (at + length xs) d
beyond-put d at xs h =
    sym (drop-drop (length xs) at (put d at xs)) ∙ ap (drop (length xs)) (drop-put d at xs h) ∙ drop_at xs (drop (at + length xs) d) (length xs) refl

-- what stands there put down again changes nothing
pub put-own : (d : List ℕ) (at n : ℕ) → at + n ≤ length d → put d at (take n (drop at d)) ≡ d
unfolding put
put-own d at n h =
    let m : length (take n (drop at d)) ≡ n = length-take-le n (drop at d) (simp length-drop (omega arith)) in
    rw (m, ← take-add at n d) (take-append-drop (at + n) d)

-- what is put down in the first of two lists
pub put-append : (d more : List ℕ) (at : ℕ) (xs : List ℕ) → at + length xs ≤ length d → put (d ++ more) at xs ≡ put d at xs ++ more
unfolding put
put-append d more at xs h =
    rw (take-append-le at d more (omega arith), drop-append-le (at + length xs) d more h, append_assoc (take at d ++ xs) (drop (at + length xs) d) more)

-- a list put down over one of its length
pub put-over : (d : List ℕ) (at : ℕ) (xs ys : List ℕ) → at + length xs ≤ length d → length ys ≡ length xs → put (put d at xs) at ys ≡ put d at ys
unfolding put
put-over d at xs ys h n =
    let rest = drop (at + length xs) d in
    let front : length (take at d ++ xs) ≡ at + length xs = rw (length-append (take at d) xs, length-take-le at d (omega arith)) in
    rw (n, drop_at (take at d ++ xs) rest (at + length xs) front, append_assoc (take at d) xs rest, take_at (take at d) (xs ++ rest) at (length-take-le at d (omega arith)))

-- ---- one after the other

-- lists put down from index `at` on, each where the last one ends
unfoldable pub put_all : List ℕ → ℕ → List (List ℕ) → List ℕ
put_all d at [] = d
put_all d at (xs ∷ xss) = put_all (put d at xs) (at + length xs) xss

-- lists stand in another from index `at` on, each where the last one ends
abbrev pub Standing : List ℕ → ℕ → List (List ℕ) → Type 0
Standing d at [] = Unit {0}
Standing d at (xs ∷ xss) = (part at (at + length xs) d ≡ xs) × Standing d (at + length xs) xss

-- what lies before them stays
take_all : (d : List ℕ) (at : ℕ) (xss : List (List ℕ)) → at + sum xss length ≤ length d → take at (put_all d at xss) ≡ take at d
unfolding put_all
take_all d at [] h = refl
take_all d at (xs ∷ xss) h =
    let e = at + length xs in
    let k = length-put d at xs (omega arith) in
    sym (take-take at e (put_all (put d at xs) e xss) (omega arith))
    ∙ ap (take at) (take_all (put d at xs) e xss (omega arith))
    ∙ take-take at e (put d at xs) (omega arith)
    ∙ take_put d at xs (omega arith)

-- lists that were put down stand there
pub standing : (d : List ℕ) (at : ℕ) (xss : List (List ℕ)) → at + sum xss length ≤ length d → Standing (put_all d at xss) at xss
unfolding put_all
standing d at [] h = tt
standing d at (xs ∷ xss) h =
    let e = at + length xs in
    let d' = put d at xs in
    let k = length-put d at xs (omega arith) in (
      sym (part-take at e e (put_all d' e xss) (omega arith) (omega arith))
          ∙ ap (part at e) (take_all d' e xss (omega arith))
          ∙ part-take at e e d' (omega arith) (omega arith)
          ∙ part-put d at xs (omega arith),
      standing d' e xss (omega arith),
    )
