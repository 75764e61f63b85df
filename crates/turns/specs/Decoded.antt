-- Every move that three numbers ask for is a move of the plan, and leads from one colouring of the plan to another.
-- Assumes nothing.
use Rattle.std.specs.Prelude.{ℕ, ◌-◌, ◌<◌, ◌≡◌, Bool, cond, List, eqb, leb, T}
use Rattle.std.proofs.Common.{arith, ◌∙◌, length-set}
use Rattle.std.proofs.Math.Decide.{ℕ_discrete}
use Rattle.std.proofs.Math.Bool.{true, false}
use Rattle.lists.specs.Sums.{In, at}
use Rattle.lists.specs.Places.{at_set, at_set_other}
use Rattle.terms.specs.Plan.{within}
use Rattle.terms.specs.Moves.{recolouring, exchange, question, of_region, move_of, status}
use Rattle.terms.specs.declared.Move.{Move}
use Rattle.terms.specs.declared.Move.TheVariants.{Recolour, Exchange, Ask, Refused}
use Rattle.meaning.specs.Plan.{Plan, Coloured}
use Rattle.meaning.specs.Moves.{recolour, next}
use Rattle.refusals.specs.Passed.{in_limits}
use Rattle.engine.specs.State.{Within}

-- what a test picks of a and b has Q, if a has it where the test passes, and b has it
pick : {A : Type 0} (Q : A → Type 0) (t : Bool) {a b : A} → (T t → Q a) → Q b → Q (cond t a b)
pick Q true f q = f tt
pick Q false f q = q

module _ (P : Plan) where
  -- a move made of three numbers is one of the plan
  pub move_within : (kind a b : ℕ) → Within P (move_of P.R P.S kind a b)
  unfolding move_of of_region recolouring exchange question
  move_within kind a b =
      pick (Within P) (within 1 kind 5)
      (λ _. pick (λ r. Within P (of_region P.R P.S kind r b)) (within 1 a P.R)
      (λ v. let i = in_limits P.R a v in
      pick (Within P) (leb kind 2)
      (λ _. pick (λ c. Within P (recolouring (eqb kind 2) (record { 0 = a }) c)) (within 1 b P.S) (λ c. (i, in_limits P.S b c)) (omega arith))
      (pick (Within P) (leb kind 4)
      (λ _. pick (λ w. Within P (exchange (eqb kind 4) (record { 0 = a }) w)) (within 1 b P.R) (λ w. (i, in_limits P.R b w)) (omega arith))
      (pick (Within P) (eqb b 0) (λ _. i) (omega arith))))
      (omega arith))
      (omega arith)

  -- the status of a move of the plan is below 64
  pub status_small : (m : Move) → Within P m → status m < 64
  status_small (Recolour make v c) w = omega arith
  status_small (Exchange make a b) w = omega arith
  status_small (Ask v) w = omega arith
  status_small (Refused s) w = w

  module _ (col : List ℕ) (k : Coloured P col) where
    -- a region given to a sector: each region has a sector still
    coloured-recolour : {v c : ℕ} → In P.R v → In P.S c → Coloured P (recolour col v c)
    coloured-recolour {v} {c} i j = record { size = length-set col (v - 1) c ∙ k.size; sector = λ u h. go u h (ℕ_discrete u v) }
      where
        go : (u : ℕ) → In P.R u → Dec (u ≡ v) → In P.S (at (recolour col v c) u)
        go u h (yes e) = rw (e, at_set col c k.size i) j
        go u h (no ne) = rw (at_set_other col c k.size i h ne) (k.sector u h)

  -- after a move of the plan each region has a sector
  pub coloured-next : (col : List ℕ) → Coloured P col → (m : Move) → Within P m → Coloured P (next col m)
  unfolding next
  coloured-next col k (Recolour true v c) w = coloured-recolour col k w.0 w.1
  coloured-next col k (Recolour false v c) w = k
  coloured-next col k (Exchange true a b) w =
      coloured-recolour (recolour col a.0 (at col b.0)) (coloured-recolour col k w.0 (k.sector b.0 w.1)) w.1 (k.sector a.0 w.0)
  coloured-next col k (Exchange false a b) w = k
  coloured-next col k (Ask v) w = k
  coloured-next col k (Refused s) w = k
