-- Laws of neighbours and of joined regions.
-- Assumes nothing.
use Rattle.std.specs.Prelude.{ℕ, ◌≡◌, refl, List, [], ◌∷◌}
use Rattle.std.proofs.Common.{arith, sym, ◌∙◌, inl, inr}
use Rattle.lists.specs.Sums.{In, at, Every}
use Rattle.lists.specs.SumLaws.{every_turn}
use Rattle.meaning.specs.Plan.{Edge, Plan, Limits}
use Rattle.meaning.specs.Joined.{Neighbours, Joined, itself, along}

-- both ends of every edge are among 1..R
abbrev pub Ends : ℕ → List Edge → Type 0
Ends R edges = Every (λ e. In R e.a × In R e.b) edges

-- they are in a plan that keeps to its limits
pub limits_ends : (P : Plan) → Limits P → Ends P.R P.edges
limits_ends P l = every_turn (λ e h. omega arith) P.edges l.edge

-- if w is a neighbour of u, then u is one of w
pub neighbours_sym : (edges : List Edge) (u w : ℕ) → Neighbours edges u w → Neighbours edges w u
neighbours_sym [] u w h = elim h [ ]
neighbours_sym (e ∷ es) u w (inl h) = inr (inl (h.1, h.0))
neighbours_sym (e ∷ es) u w (inr (inl h)) = inl (h.1, h.0)
neighbours_sym (e ∷ es) u w (inr (inr h)) = inr (inr (neighbours_sym es u w h))

-- a region that has a neighbour is one of 1..R
pub neighbours_in : {R : ℕ} (edges : List Edge) (u w : ℕ) → Ends R edges → Neighbours edges u w → In R u
neighbours_in {R = R} [] u w i h = elim h [ ]
neighbours_in (e ∷ es) u w i (inl h) = rw h.0 i.0.0
neighbours_in (e ∷ es) u w i (inr (inl h)) = rw h.0 i.0.1
neighbours_in (e ∷ es) u w i (inr (inr h)) = neighbours_in es u w i.1 h

-- and so is its neighbour
pub neighbours_far : {R : ℕ} (edges : List Edge) (u w : ℕ) → Ends R edges → Neighbours edges u w → In R w
neighbours_far edges u w ends n = neighbours_in edges w u ends (neighbours_sym edges u w n)

module _ {edges : List Edge} {col : List ℕ} where
  -- if u is joined to w, and w to v, then u is joined to v
  pub joined_trans : {u w v : ℕ} → Joined edges col u w → Joined edges col w v → Joined edges col u v
  joined_trans itself q = q
  joined_trans (along n s p) q = along n s (joined_trans p q)

  -- if u is joined to w, then w is joined to u
  pub joined_sym : {u w : ℕ} → Joined edges col u w → Joined edges col w u
  joined_sym itself = itself
  joined_sym (along n s p) = joined_trans (joined_sym p) (along (neighbours_sym edges _ _ n) (sym s) itself)

  -- whatever one of 1..R is joined to is one of 1..R
  pub joined_in : {R u w : ℕ} → Ends R edges → Joined edges col u w → In R u → In R w
  joined_in e itself i = i
  joined_in e (along n s p) i = joined_in e p (neighbours_far edges _ _ e n)

  -- joined regions have one sector
  pub joined-sector : {u w : ℕ} → Joined edges col u w → at col u ≡ at col w
  joined-sector itself = refl
  joined-sector (along n s p) = s ∙ joined-sector p
