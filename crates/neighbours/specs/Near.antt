-- The row of a region has its neighbours, all of them and nothing else.
-- Assumes nothing.
use Rattle.std.specs.Prelude.{ℕ, zero, suc, ◌<◌, ◌≡◌, refl, List, [], ◌∷◌, Bool, true, false, eqb, length, get_or}
use Rattle.std.proofs.Common.{le_of_suc-le-suc, not-suc-le-zero, sym, inl, inr, eqb-true, eq-eqb}
use Rattle.std.proofs.lemmas.Bool.{false≢true}
use Rattle.lists.specs.Among.{Among, among_first, among_later}
use Rattle.meaning.specs.Plan.{Edge}
use Rattle.meaning.specs.Joined.{Neighbours}
use Rattle.neighbours.specs.Table.{when, sides, near}

-- where each of a list has P, and x has it if the test passes, each has it once x is in front
each-when : (P : ℕ → Type 0) (t : Bool) (x : ℕ) (l : List ℕ) → (t ≡ true → P x) → ((k : ℕ) → k < length l → P (get_or l k 0)) → (k : ℕ)
    → k < length (when t x l) → P (get_or (when t x l) k 0)
each-when P true x l h a zero q = h refl
each-when P true x l h a (suc k) q = a k (le_of_suc-le-suc q)
each-when P false x l h a k q = a k q

-- each entry of the row of v is a neighbour of v
pub near_neighbours : (edges : List Edge) (v k : ℕ) → k < length (near edges v) → Neighbours edges v (get_or (near edges v) k 0)
unfolding sides
near_neighbours [] v k q = absurd (not-suc-le-zero q)
near_neighbours (e ∷ es) v k q =
    each-when (Neighbours (e ∷ es) v) (eqb e.a v) e.b (when (eqb e.b v) e.a (near es v))
    (λ t. inl (sym (eqb-true e.a v t), refl))
    (each-when (Neighbours (e ∷ es) v) (eqb e.b v) e.a (near es v)
    (λ t. inr (inl (sym (eqb-true e.b v t), refl)))
    (λ j r. inr (inr (near_neighbours es v j r))))
    k
    q

-- what is put in front is one of the list
among_front : (t : Bool) (x : ℕ) (l : List ℕ) → t ≡ true → Among (when t x l) x
among_front true x l h = among_first
among_front false x l h = absurd (false≢true h)

-- what was one still is
among_behind : {x : ℕ} (t : Bool) (y : ℕ) (l : List ℕ) → Among l x → Among (when t y l) x
among_behind true y l m = among_later m
among_behind false y l m = m

-- each neighbour of v is in the row of v
pub neighbours_near : (edges : List Edge) (v x : ℕ) → Neighbours edges v x → Among (near edges v) x
unfolding sides
neighbours_near (e ∷ es) v x (inl h) =
    rw h.1 (among_front (eqb e.a v) e.b (when (eqb e.b v) e.a (near es v)) (eq-eqb e.a v (sym h.0)))
neighbours_near (e ∷ es) v x (inr (inl h)) =
    rw h.1
    (among_behind (eqb e.a v) e.b (when (eqb e.b v) e.a (near es v))
    (among_front (eqb e.b v) e.a (near es v) (eq-eqb e.b v (sym h.0))))
neighbours_near (e ∷ es) v x (inr (inr h)) =
    among_behind (eqb e.a v) e.b (when (eqb e.b v) e.a (near es v))
    (among_behind (eqb e.b v) e.a (near es v) (neighbours_near es v x h))
neighbours_near [] v x x3 = elim x3 [ ]
