-- Laws of lists of moves and of their rows: flat lists, three and four numbers at a time, and lists one after the other.
-- Assumes nothing.
use Prim.Native.Nat.{ℕ, zero, suc, ◌+◌, ◌*◌, ◌/◌, ◌%◌, ◌<◌}
use native.Mathlib.Omega.{arith}
use Rattle.std.specs.Prelude.{◌≡◌, refl, ℤ, pos, get_or, take, drop}
use Rattle.std.proofs.Common.{sym, ap, ◌∙◌, take-append-drop, length-take-le, drop-cons}
use mathlib.Core.List.{List, [], ◌∷◌, ◌++◌, map, append_assoc}
use Rattle.std.proofs.Math.ListN.{length}
use Rattle.std.proofs.Math.Seq.{take-add, get_or-append-add}
use Rattle.lists.specs.Sums.{from}
use Rattle.lists.specs.SumLaws.{every_all}
use Rattle.lists.specs.ListLaws.{map_ext}
use Rattle.terms.specs.Moves.{move_of}
use Rattle.terms.specs.declared.Move.{Move}
use Rattle.meaning.specs.Plan.{Plan}
use Rattle.meaning.specs.Moves.{move_length, row_length, move_at, moves_of, next, Row, row, cells, rows, last}
use Rattle.meaning.proofs.MoveLaws.{length-rows, length_moves}

-- ---- definitions

-- a flat list in whole moves, three numbers each
abbrev pub Whole : List ℕ → Type 0
Whole [] = Unit {0}
Whole (kind ∷ []) = ⊥
Whole (kind ∷ a ∷ []) = ⊥
Whole (kind ∷ a ∷ b ∷ xs) = Whole xs

-- row k, from 0, of the flat list
abbrev pub row_at : List ℤ → ℕ → Row
row_at rs k =
    record {
      status = get_or rs (row_length * k) (pos 0);
      delta = get_or rs (row_length * k + 1) (pos 0);
      total = get_or rs (row_length * k + 2) (pos 0);
      relabelled = get_or rs (row_length * k + 3) (pos 0);
    }

-- ---- the flat list

-- a list whose length is a multiple of three is in whole moves
pub whole : (xs : List ℕ) → length xs % move_length ≡ 0 → Whole xs
whole [] e = tt
whole (kind ∷ []) e = absurd (omega arith)
whole (kind ∷ a ∷ []) e = absurd (omega arith)
whole (kind ∷ a ∷ b ∷ xs) e = whole xs (omega arith)

-- f along k + 1, k + 2, .. is f of the next number along k, k + 1, ..
map_next : {A : Type 0} (f : ℕ → A) (k n : ℕ) → map f (from (suc k) n) ≡ map (λ j. f (suc j)) (from k n)
map_next f k zero = refl
map_next f k (suc n) = ap (λ l. f (suc k) ∷ l) (map_next f (suc k) n)

-- three numbers in front of a flat list are one move in front of its moves
pub moves_cons : (P : Plan) (kind a b : ℕ) (xs : List ℕ) → moves_of P (kind ∷ a ∷ b ∷ xs) ≡ move_of P.R P.S kind a b ∷ moves_of P xs
unfolding moves_of
moves_cons P kind a b xs =
    let n = length xs / move_length in
    let e : suc (suc (suc (length xs))) / move_length ≡ suc n = omega arith in
    rw e
    (ap (λ l. move_of P.R P.S kind a b ∷ l)
    (map_next (move_at P (kind ∷ a ∷ b ∷ xs)) 0 n ∙ map_ext (from 0 n) _ _ (every_all _ same (from 0 n))))
  where
    same : (k : ℕ) → move_at P (kind ∷ a ∷ b ∷ xs) (suc k) ≡ move_at P xs k
    same k =
        let e0 : move_length * suc k ≡ suc (suc (suc (move_length * k))) = omega arith in
        let e1 : move_length * suc k + 1 ≡ suc (suc (suc (move_length * k + 1))) = omega arith in
        let e2 : move_length * suc k + 2 ≡ suc (suc (suc (move_length * k + 2))) = omega arith in
        rw (e1, e2, e0)

-- the moves of two flat lists put together are those of the first, and then those of the second
pub moves_append : (P : Plan) (xs ys : List ℕ) → Whole xs → moves_of P (xs ++ ys) ≡ moves_of P xs ++ moves_of P ys
unfolding moves_of
moves_append P [] ys w = refl
moves_append P (kind ∷ a ∷ b ∷ xs) ys w =
    moves_cons P kind a b (xs ++ ys)
    ∙ ap (λ l. move_of P.R P.S kind a b ∷ l) (moves_append P xs ys w)
    ∙ rw (moves_cons P kind a b xs)
moves_append P (kind ∷ []) ys w = elim w [ ]
moves_append P (kind ∷ (a ∷ [])) ys w = elim w [ ]

-- ---- the moves

-- two lists of moves put together lead to where the second leads from the last colouring of the first
pub last-append : (col : List ℕ) (ms ns : List Move) → last col (ms ++ ns) ≡ last (last col ms) ns
unfolding last
last-append col [] ns = refl
last-append col (m ∷ ms) ns = last-append (next col m) ms ns

-- their rows are those of the first, and then those of the second on the last colouring of the first
pub rows_append : (P : Plan) (col : List ℕ) (ms ns : List Move) → rows P col (ms ++ ns) ≡ rows P col ms ++ rows P (last col ms) ns
unfolding rows last
rows_append P col [] ns = refl
rows_append P col (m ∷ ms) ns =
    ap (λ l. cells (row P col m) ++ l) (rows_append P (next col m) ms ns)
    ∙ rw (append_assoc (cells (row P col m)))

-- ---- move k, and its row

module _ (P : Plan) (xs : List ℕ) (k : ℕ) (h : k < length xs / move_length) where
  -- the numbers from move k on are its three numbers and those after it
  numbers-from : drop (move_length * k) xs ≡ get_or xs (move_length * k) 0 ∷ get_or xs (move_length * k + 1) 0 ∷ get_or xs (move_length * k + 2) 0 ∷ drop (move_length * suc k) xs
  numbers-from =
      let e0 : suc (move_length * k) ≡ move_length * k + 1 = omega arith in
      let e1 : suc (move_length * k + 1) ≡ move_length * k + 2 = omega arith in
      let e2 : suc (move_length * k + 2) ≡ move_length * suc k = omega arith in
      rw (drop-cons xs (move_length * k) 0 (omega arith), e0, drop-cons xs (move_length * k + 1) 0 (omega arith), e1, drop-cons xs (move_length * k + 2) 0 (omega arith), e2)

  -- the numbers before move k are three a move
  pub length_before : length (take (move_length * k) xs) ≡ move_length * k
  length_before = length-take-le (move_length * k) xs (omega arith)

  -- and so in whole moves
  pub whole_before : Whole (take (move_length * k) xs)
  whole_before = whole (take (move_length * k) xs) (omega (arith, length_before))

  -- the moves of a flat list are those before move k, move k, and those after it
  pub moves_at : moves_of P xs ≡ moves_of P (take (move_length * k) xs) ++ move_at P xs k ∷ moves_of P (drop (move_length * suc k) xs)
  moves_at =
      ap (moves_of P) (sym (take-append-drop (move_length * k) xs))
      ∙ moves_append P (take (move_length * k) xs) (drop (move_length * k) xs) whole_before
      ∙ rw (numbers-from, moves_cons)

  -- the first k + 1 moves are the first k, and move k
  pub moves_next : moves_of P (take (move_length * suc k) xs) ≡ moves_of P (take (move_length * k) xs) ++ (move_at P xs k ∷ [])
  unfolding moves_of
  moves_next =
      let e : move_length * suc k ≡ move_length * k + 3 = omega arith in
      rw (e, take-add (move_length * k) 3 xs)
      (moves_append P (take (move_length * k) xs) (take 3 (drop (move_length * k) xs)) whole_before
      ∙ rw (numbers-from, moves_cons))

  -- row k is that of move k, on the colouring that the moves before it lead to
  pub row-at : (col : List ℕ) (beyond : List ℤ) → row_at (rows P col (moves_of P xs) ++ beyond) k ≡ row P (last col (moves_of P (take (move_length * k) xs))) (move_at P xs k)
  unfolding rows cells
  row-at col beyond =
      let ms = moves_of P (take (move_length * k) xs) in
      let e : row_length * k ≡ length (rows P col ms) + 0 = omega (arith, length-rows P col ms, length_moves P (take (move_length * k) xs), length_before) in
      let e1 : row_length * k + 1 ≡ length (rows P col ms) + 1 = omega arith in
      let e2 : row_length * k + 2 ≡ length (rows P col ms) + 2 = omega arith in
      let e3 : row_length * k + 3 ≡ length (rows P col ms) + 3 = omega arith in
      rw (
        moves_at,
        rows_append P col ms (move_at P xs k ∷ moves_of P (drop (move_length * suc k) xs)),
        append_assoc (rows P col ms),
        e1,
        e2,
        e3,
        e,
        get_or-append-add (rows P col ms) _ 0 (pos 0),
        get_or-append-add (rows P col ms) _ 1 (pos 0),
        get_or-append-add (rows P col ms) _ 2 (pos 0),
        get_or-append-add (rows P col ms) _ 3 (pos 0),
      )
