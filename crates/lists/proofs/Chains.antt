-- What a chain of iterators adds up, in the library's words, is the sum over a list.
-- Assumes nothing.
use Rattle.std.specs.Prelude.{ℕ, ◌+◌, ◌<◌, ◌≡◌, refl, List, sum_by, Option}
use Rattle.std.specs.Bool.{⊤}
use Rattle.std.specs.Fn.{Called}
use Rattle.std.specs.Iterator.{Drains}
use Rattle.std.specs.Iterator.Adapters.{map_source, map_callee}
use Rattle.std.specs.Iterator.Runs.{EachRunFrom}
use Rattle.std.specs.List.{fold}
use Rattle.std.specs.declared.iter.Map.{Map}
use Rattle.std.proofs.lemmas.Iterator.{YieldsList, YieldsList-from_map, maps}
use Rattle.std.proofs.lemmas.Iterator.Consumers.{sum_by_from_yields_List, fits_by_from_yields_list}
use Rattle.std.proofs.lemmas.List.Recursion.{is_sum_by}
use denote.Param.Members.{Mut}
use Rattle.lists.specs.Sums.{sum}

-- the library's sum is the sum
pub sum_is : {A : Type 0} (xs : List A) (f : A → ℕ) → sum xs f ≡ sum_by f xs
sum_is xs f = is_sum_by (λ ys. sum ys f) f refl (λ x ys. refl) xs

-- a closure gives h of each of the items that an iterator yields
module _ {S A B F : Type 0} {steps : S → Option A → S → Type 0} {v : A → B} {xs : List B} {t : Map S F} {g : Mut F (A × Unit {0}) ℕ} {f : F} (h : B → ℕ)
    (road : YieldsList steps v (map_source t) xs) (callee : map_callee t ≡ f) (law : (x : A) (r : ℕ) (q : F) → Called g f (x, tt) r q → (q ≡ f) × (r ≡ h (v x))) where
  -- the chain adds up the sum of h over all
  pub sum_from_chain : {r : ℕ} → ((ns : List ℕ) × (⊤ → Drains (maps steps g) t ns) × (r ≡ fold (λ a n. a + n) 0 ns)) → r ≡ sum xs h
  sum_from_chain {r} ran = rw sum_is (sum_by_from_yields_List h xs t r ran (YieldsList-from_map g h road callee law))

  -- which fits where that sum does
  pub fits_from_chain : {top : ℕ} → sum xs h < top → EachRunFrom (maps steps g) t (λ p. fold (λ a n. a + n) 0 p.items < top)
  fits_from_chain {top} b = fits_by_from_yields_list h xs t top (YieldsList-from_map g h road callee law) (rw sum_is at b)
