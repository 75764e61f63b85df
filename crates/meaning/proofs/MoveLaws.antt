-- What moves do, and how many numbers they answer: an exchange is two recolourings in turn, what is not made changes nothing, and what is made changes the total by its delta.
-- Assumes nothing.
use Rattle.std.specs.Prelude.{ℕ, ◌-◌, ◌*◌, ◌/◌, ◌≡◌, refl, List, [], ◌∷◌, Bool, true, false, not, eqb, ℤ, pos, neg_ℤ, ◌+ℤ◌, ◌-ℤ◌, length}
use Rattle.std.proofs.Common.{arith, sym, ap, ◌∙◌, eq-eqb}
use Rattle.std.proofs.lemmas.Bool.{false≢true}
use Rattle.std.proofs.Math.IntN.{+ℤ_assoc, +ℤ_comm, -ℤ-+ℤ_cancel}
use Rattle.std.proofs.lemmas.List.{set-get_or}
use Rattle.lists.specs.Sums.{at, bit, up_to}
use Rattle.lists.specs.SumLaws.{sum-zero, every_all}
use Rattle.lists.specs.ListLaws.{length-list_of}
use Rattle.terms.specs.Moves.{status}
use Rattle.terms.specs.declared.Region.{Region}
use Rattle.terms.specs.declared.Sector.{Sector}
use Rattle.terms.specs.declared.Move.{Move}
use Rattle.terms.specs.declared.Move.TheVariants.{Recolour, Exchange, Ask, Refused}
use Rattle.meaning.specs.Plan.{Constraint, Plan}
use Rattle.meaning.specs.Joined.{labels}
use Rattle.meaning.specs.Kinds.{total}
use Rattle.meaning.specs.Moves.{move_length, row_length, verdict_length, recolour, swap, made, next, delta, differing, relabelled, Row, row, cells, rows, last, move_at, moves_of, verdict, verdicts_of}

-- the sector of a region
abbrev sector_of : List ℕ → Region → Sector
sector_of col v = record { 0 = at col v.0 }

-- a region given to the sector that it has leaves the colouring as it was
pub recolour-own : (col : List ℕ) (v : ℕ) → recolour col v (at col v) ≡ col
recolour-own col v = set-get_or col (v - 1) 0

-- ---- how much there is

-- a row has four numbers
pub length-cells : (r : Row) → length (cells r) ≡ row_length
unfolding cells
length-cells r = refl

-- there is a row for each move
pub length-rows : (P : Plan) (col : List ℕ) (ms : List Move) → length (rows P col ms) ≡ row_length * length ms
unfolding rows cells
length-rows P col [] = refl
length-rows P col (m ∷ ms) = omega (arith, length-rows P (next col m) ms)

-- a flat list has a move for every three numbers
pub length_moves : (P : Plan) (xs : List ℕ) → length (moves_of P xs) ≡ length xs / move_length
unfolding moves_of
length_moves P xs = length-list_of (length xs / move_length) (move_at P xs)

-- verdicts have two numbers for each constraint
pub length-verdicts : (P : Plan) (col : List ℕ) (ks : List Constraint) → length (verdicts_of P col ks) ≡ verdict_length * length ks
unfolding verdicts_of verdict
length-verdicts P col [] = refl
length-verdicts P col (k ∷ ks) = omega (arith, length-verdicts P col ks)

-- ---- an exchange

-- making an exchange is making two recolourings in turn
pub exchange_in_turn : (col : List ℕ) (a b : Region) → next col (Exchange true a b) ≡ last col (Recolour true a (sector_of col b) ∷ Recolour true b (sector_of col a) ∷ [])
unfolding next last
exchange_in_turn col a b = refl

between : (x y z : ℤ) → (y -ℤ x) +ℤ (z -ℤ y) ≡ z -ℤ x
between x y z =
    +ℤ_comm (y -ℤ x) (z -ℤ y)
    ∙ sym (+ℤ_assoc (z -ℤ y) y (neg_ℤ x))
    ∙ ap (λ (n : ℤ). n -ℤ x) (-ℤ-+ℤ_cancel z y)

-- its delta is that of the first, and that of the second on the colouring that the first leaves
pub exchange-delta : (P : Plan) (col : List ℕ) (make : Bool) (a b : Region) → delta P col (Exchange make a b) ≡ delta P col (Recolour make a (sector_of col b)) +ℤ delta P (recolour col a.0 (at col b.0)) (Recolour make b (sector_of col a))
unfolding delta
exchange-delta P col make a b =
    sym (between (pos (total P col)) (pos (total P (recolour col a.0 (at col b.0)))) (pos (total P (swap col a.0 b.0))))

-- regions of one sector, or a region and itself: an exchange leaves the colouring as it was
pub exchange-alike : (col : List ℕ) (a b : ℕ) → at col a ≡ at col b → swap col a b ≡ col
exchange-alike col a b e =
    ap (λ (c : ℕ). recolour (recolour col a c) b (at col a)) (sym e)
    ∙ ap (λ (l : List ℕ). recolour l b (at col a)) (recolour-own col a)
    ∙ ap (recolour col b) e
    ∙ recolour-own col b

-- ---- what is made, and what is not

-- the total after a made move is the total before and its delta
pub made-total : (P : Plan) (col : List ℕ) (m : Move) → made m ≡ true → delta P col m +ℤ pos (total P col) ≡ pos (total P (next col m))
unfolding delta next
made-total P col (Recolour true v c) e = -ℤ-+ℤ_cancel (pos (total P (recolour col v.0 c.0))) (pos (total P col))
made-total P col (Recolour false v c) e = absurd (false≢true e)
made-total P col (Exchange true a b) e = -ℤ-+ℤ_cancel (pos (total P (swap col a.0 b.0))) (pos (total P col))
made-total P col (Exchange false a b) e = absurd (false≢true e)
made-total P col (Ask v) e = absurd (false≢true e)
made-total P col (Refused s) e = absurd (false≢true e)

-- where the colouring is as it was, no label differs
pub relabelled-none : (P : Plan) (col : List ℕ) → relabelled P col col ≡ 0
unfolding relabelled differing
relabelled-none P col =
    sum-zero (up_to P.R) (λ u. bit (not (eqb (at (labels P.edges col) u) (at (labels P.edges col) u))))
    (every_all _ (λ u. ap (λ (t : Bool). bit (not t)) (eq-eqb (at (labels P.edges col) u) _ refl)) (up_to P.R))

-- a move that leaves the colouring as it was reports the total as it was, and no region relabelled
pub row-still : (P : Plan) (col : List ℕ) (m : Move) → next col m ≡ col → row P col m ≡ record { status = pos (status m); delta = delta P col m; total = pos (total P col); relabelled = pos 0 }
unfolding row
row-still P col m e = rw (e, relabelled-none P col)

-- probes, questions and refused moves change nothing
pub not_made : (col : List ℕ) (m : Move) → made m ≡ false → next col m ≡ col
unfolding next
not_made col m e = rw e
