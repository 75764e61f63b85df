-- Two lists that are related place by place.
-- Assumes nothing.
use Rattle.std.specs.Prelude.{List, [], ◌∷◌}

-- two lists are as long, and each of the one is related to that at its place in the other
pub data Pairs {A : Type 0} (R : A → A → Type 0) : List A → List A → Type 0 where
  none : Pairs R [] []
  one : {x y : A} {xs ys : List A} → R x y → Pairs R xs ys → Pairs R (x ∷ xs) (y ∷ ys)

-- what follows for each pair follows for all
pub pairs_turn : {A : Type 0} {R Q : A → A → Type 0} {xs ys : List A} → ((x y : A) → R x y → Q x y) → Pairs R xs ys → Pairs Q xs ys
pairs_turn h none = none
pairs_turn h (one {x} {y} p ps) = one (h x y p) (pairs_turn h ps)
