-- How many of R regions have another label.
-- Assumes nothing.
use Rattle.std.specs.Prelude.{ℕ, ◌+◌, ◌≤◌, ◌≡◌, refl, List, ◌⊎◌, not, eqb, length}
use Rattle.std.proofs.Common.{arith, sym, ap, ◌∙◌, inl, inr, eq-eqb}
use Rattle.lists.specs.Sums.{In, at, bit, up_to}
use Rattle.lists.specs.SumLaws.{sum_same, sum-add, sum_one}
use Rattle.lists.specs.Places.{at_set, at_set_other}
use Rattle.meaning.specs.Moves.{recolour, differing}
use Rattle.lists.specs.Counts.{count_none, count-le}
use Rattle.relabel.specs.ListSums.{differ_none}

-- no label differs from itself
pub differing-none : (R : ℕ) (ls : List ℕ) → differing R ls ls ≡ 0
unfolding differing
differing-none R ls = count_none R (λ u. not (eqb (at ls u) (at ls u))) (λ u i. ap not (eq-eqb (at ls u) (at ls u) refl))

-- no more labels differ than there are
pub differing-le : (R : ℕ) (ls ls' : List ℕ) → differing R ls ls' ≤ R
unfolding differing
differing-le R ls ls' = count-le R (λ u. not (eqb (at ls u) (at ls' u)))

-- where no label is changed twice, those of two changes add up
pub differing-add : (R : ℕ) (a b c : List ℕ) → ((w : ℕ) → In R w → (at b w ≡ at a w) ⊎ (at c w ≡ at b w)) → differing R a b + differing R b c ≡ differing R a c
unfolding differing
differing-add R a b c h =
    sym (sum-add (up_to R) (λ u. bit (not (eqb (at a u) (at b u)))) (λ u. bit (not (eqb (at b u) (at c u)))))
    ∙ sum_same R _ _ (λ u i. one u (h u i))
  where
    one : (u : ℕ) → (at b u ≡ at a u) ⊎ (at c u ≡ at b u) → bit (not (eqb (at a u) (at b u))) + bit (not (eqb (at b u) (at c u))) ≡ bit (not (eqb (at a u) (at c u)))
    one u (inl e) = rw e (omega (arith, differ_none (at a u) (at a u) refl))
    one u (inr e) = rw e (omega (arith, differ_none (at b u) (at b u) refl))

-- one label is set anew
pub differing-set : {R : ℕ} (ls : List ℕ) {x : ℕ} (m : ℕ) → length ls ≡ R → In R x → differing R ls (recolour ls x m) ≡ bit (not (eqb (at ls x) m))
unfolding differing
differing-set {R} ls {x} m size i =
    sum_one R x (λ u. bit (not (eqb (at ls u) (at (recolour ls x m) u)))) i (λ u j n. differ_none _ _ (sym (at_set_other ls m size i j n)))
    ∙ ap (λ (y : ℕ). bit (not (eqb (at ls x) y))) (at_set ls m size i)
