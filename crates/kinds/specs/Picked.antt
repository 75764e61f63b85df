-- The constraints of some kinds, as a loop puts them down one after another.
-- Assumes nothing.
use Rattle.std.specs.Prelude.{ℕ, ◌+◌, ◌-◌, ◌*◌, ◌/◌, ◌≤◌, ◌<◌, ◌≡◌, refl, List, [], ◌∷◌, ◌++◌, Bool, true, false, cond, get_or, take, drop}
use Rattle.std.proofs.Common.{add-one, arith, sym, ap, ◌∙◌, append-nil, append_assoc, length-append, length-drop, drop_of_length-le, length-take-le, take-suc, take_at, get_or-take, get_or-drop, get_or-append-add}
use Rattle.std.proofs.Math.ListN.{length, get_or-append}
use Rattle.terms.specs.Plan.{within}
use Rattle.meaning.specs.Plan.{Constraint, constraint_length, constraint_at, constraints_of}
use Rattle.meaning.specs.Prices.{of_kinds}
use Rattle.kinds.specs.Constraints.{length_constraints, constraint_at_lem, constraint_next, constraint_same, constraints_take}

-- those among one and others
kinds_cons : (low high : ℕ) (k : Constraint) (ks : List Constraint) → of_kinds low high (k ∷ ks) ≡ of_kinds low high (k ∷ []) ++ of_kinds low high ks
unfolding of_kinds
kinds_cons low high k ks = go (within low k.kind high)
  where
    go : (t : Bool) → cond t (k ∷ of_kinds low high ks) (of_kinds low high ks) ≡ cond t (k ∷ []) [] ++ of_kinds low high ks
    go true = refl
    go false = refl

-- ---- one put down after the others

-- constraint k of a flat list, and a place for it after n others
pub record Picking (cs before : List ℕ) (k n : ℕ) : Type 0 where
  pub fits : length cs ≤ length before
  pub few : n ≤ k
  pub below : k < length cs / constraint_length

-- it is put down there where it is of the kinds low to high, and then there are r
pub record Picks (low high : ℕ) (cs before : List ℕ) (k n : ℕ) (after : List ℕ) (r : ℕ) : Type 0 where
  pub few : r ≤ n + 1
  pub are : take r (constraints_of after) ≡ take n (constraints_of before) ++ of_kinds low high (constraint_at cs k ∷ [])

module _ {cs before : List ℕ} {k n : ℕ} (g : Picking cs before k n) where
  -- one of another kind is not put down
  pub picks_other : {low high : ℕ} → within low (constraint_at cs k).kind high ≡ false → Picks low high cs before k n before n
  unfolding of_kinds
  picks_other e = record { few = omega arith; are = rw (e, append-nil) }

  -- how many numbers it has, from its first to its last
  abbrev width : ℕ
  width = constraint_length * k + constraint_length - constraint_length * k

  -- its numbers
  abbrev numbers : List ℕ
  numbers = take width (drop (constraint_length * k) cs)

  numbers-length : length numbers ≡ width
  numbers-length = length-take-le width (drop (constraint_length * k) cs) (omega (arith, length-drop (constraint_length * k) cs, g.below))

  numbers-at : (j : ℕ) → j < constraint_length → get_or numbers j 0 ≡ get_or cs (constraint_length * k + j) 0
  numbers-at j b = get_or-take width (drop (constraint_length * k) cs) j 0 (omega arith) ∙ get_or-drop (constraint_length * k) cs j 0

  -- the numbers of the others
  abbrev others : List ℕ
  others = take (constraint_length * n) before

  others-length : length others ≡ constraint_length * n
  others-length = length-take-le (constraint_length * n) before (omega (arith, g.fits, g.few, g.below))

  -- its numbers are the first of those put down after the others
  module _ (put beyond past : List ℕ) (is : put ≡ numbers ++ beyond) where
    abbrev after : List ℕ
    after = others ++ (put ++ past)

    after-length : constraint_length * n + constraint_length ≤ length after
    after-length =
        omega (arith, length-append others (put ++ past), length-append put past, ap length is, length-append numbers beyond, numbers-length, others-length)

    -- the others are the same
    after-others : take n (constraints_of after) ≡ take n (constraints_of before)
    after-others =
        sym (constraints_take n after (omega (arith, after-length)))
        ∙ ap constraints_of (take_at others (put ++ past) (constraint_length * n) others-length)
        ∙ constraints_take n before (omega (arith, g.fits, g.few, g.below))

    -- and it comes after them
    after-own : constraint_at after n ≡ constraint_at cs k
    after-own =
        constraint_same after cs n k
        (λ j b.
        ap (λ i. get_or after (i + j) 0) (sym others-length)
        ∙ get_or-append-add others (put ++ past) j 0
        ∙ rw (is, append_assoc) (get_or-append numbers (beyond ++ past) 0 j (omega (arith, numbers-length)))
        ∙ numbers-at j b)

    -- one of these kinds is put down
    pub picks_own : {low high : ℕ} → within low (constraint_at cs k).kind high ≡ true → Picks low high cs before k n (take (constraint_length * n) before ++ (put ++ past)) (n + 1)
    unfolding of_kinds
    picks_own e =
        let h : n < length after / constraint_length = omega (arith, after-length) in
        record {
          few = omega arith;
          are =
              rw (add-one n, e, ← after-others, ← after-own, ← constraint_at_lem after h (constraint_at cs k))
              (take-suc (constraints_of after) n (constraint_at cs k) (omega (arith, length_constraints after)));
        }

-- ---- all of them

-- the constraints before index k are gone through: the n picked, with those of the kinds low to high among the rest, are all of these kinds
pub record Picked (low high : ℕ) (cs out₀ : List ℕ) (k n : ℕ) (out : List ℕ) : Type 0 where
  pub size : length out ≡ length out₀
  pub fits : length cs ≤ length out₀
  pub few : n ≤ k
  pub within : k ≤ length cs / constraint_length
  pub rest : take n (constraints_of out) ++ of_kinds low high (drop k (constraints_of cs)) ≡ of_kinds low high (constraints_of cs)

module _ {low high : ℕ} {cs out₀ : List ℕ} where
  -- before the first none is picked
  pub picked_start : length cs ≤ length out₀ → Picked low high cs out₀ 0 0 out₀
  picked_start h = record { size = refl; fits = h; few = omega arith; within = omega arith; rest = refl }

  module _ {k n : ℕ} {out : List ℕ} (p : Picked low high cs out₀ k n out) where
    -- those picked stand in the front
    pub picked_room : constraint_length * n ≤ length out
    picked_room = omega (arith, p.size, p.fits, p.few, p.within)

    -- past the last they are all of these kinds
    pub picked_end : length cs / constraint_length ≤ k → constraints_of (take (constraint_length * n) out) ≡ of_kinds low high (constraints_of cs)
    unfolding of_kinds
    picked_end h =
        constraints_take n out picked_room
        ∙ (rw (drop_of_length-le (constraints_of cs) {i = k} (omega (arith, length_constraints cs)), append-nil) at p.rest)

    module _ (h : k < length cs / constraint_length) where
      -- the next has a place
      pub picked_place : Picking cs out k n
      picked_place = record { fits = omega (arith, p.size, p.fits); few = p.few; below = h }

      -- it is gone through
      pub picked_turn : {r : ℕ} {out' : List ℕ} → length out' ≡ length out → Picks low high cs out k n out' r → Picked low high cs out₀ (k + 1) r out'
      picked_turn l q =
          record {
            size = l ∙ p.size;
            fits = p.fits;
            few = omega (arith, q.few, p.few);
            within = omega arith;
            rest = rw (add-one k, q.are, append_assoc, ← kinds_cons, ← constraint_next cs h) p.rest;
          }
