-- Which codes make a relation.
-- Assumes nothing.
use Rattle.std.specs.Prelude.{ℕ, zero, suc, ◌≡◌, refl, Option, Some, None}
use Rattle.std.proofs.Common.{arith, sym, ap, ◌∙◌}
use Rattle.lists.specs.Sums.{In}
use Rattle.terms.specs.Plan.{relation_of, code_of}
use Rattle.terms.specs.declared.Relation.{Relation}
use Rattle.terms.specs.declared.Relation.TheVariants.{AtMost, Below, Equal, NotEqual, Above, AtLeast}

-- a code of 1..6 makes a relation that has the code
made : (code : ℕ) → In 6 code → (r : Relation) × (relation_of code ≡ Some r) × (code_of r ≡ code)
made zero i = absurd (omega (arith, i.low))
made (suc zero) i = (AtMost, refl, refl)
made (suc (suc zero)) i = (Below, refl, refl)
made (suc (suc (suc zero))) i = (Equal, refl, refl)
made (suc (suc (suc (suc zero)))) i = (NotEqual, refl, refl)
made (suc (suc (suc (suc (suc zero))))) i = (Above, refl, refl)
made (suc (suc (suc (suc (suc (suc zero)))))) i = (AtLeast, refl, refl)
made (suc (suc (suc (suc (suc (suc (suc code))))))) i = absurd (omega (arith, i.high))

module _ {code : ℕ} (i : In 6 code) {m : Option Relation} (e : m ≡ relation_of code) where
  -- the relation that a code of 1..6 makes has the code
  pub relation_made : {r : Relation} → m ≡ Some r → code_of r ≡ code
  relation_made h = let k = made code i in let s : k.0 ≡ _ = cc in ap code_of (sym s) ∙ k.2

  -- it is not refused
  pub relation_refused : m ≡ None → ⊥
  relation_refused h = let k = made code i in cc
