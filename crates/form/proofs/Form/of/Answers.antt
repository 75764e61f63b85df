-- The comparison with the second's letters decides.
use Rattle.std.proofs.Common.{ℕ, ◌≡◌, List, [], ◌∷◌, Bool, arith, take, sym, ap, ap₂, ◌∙◌, refl}
use Rattle.std.specs.Prelude.{cond, eqb, ◌&&◌}
use lib.Pointwise.{pointwise}
use Rattle.blocks.specs.Block.{letters_length}
use Rattle.blocks.specs.Same.{same}
use Rattle.form.specs.declared.Form.TheVariants.{First, Second}
use Rattle.form.specs.Form.{letters}
use Rattle.form.specs.Formed.{formed}
use Rattle.form.proofs.Form.of.Goals as goal

turned : (y x : ℕ) → eqb y x ≡ eqb x y
turned y x = grind arith

-- two lists are the same as the second is as the first
flipped : (ys xs : List ℕ) → pointwise eqb ys xs ≡ same xs ys
flipped [] [] = refl
flipped [] (x ∷ xs) = refl
flipped (y ∷ ys) [] = refl
flipped (y ∷ ys) (x ∷ xs) = ap₂ (λ (a b : Bool). a && b) (turned y x) (flipped ys xs)

pub returns-then-starts_with : goal.returns-then-starts_with
returns-then-starts_with c = ap (λ (b : Bool). cond b Second First) (sym c.if-starts_with.true) ∙ formed _ (c.starts_with.ensures.value ∙ flipped (letters Second) (take letters_length c.args.sheet.now))

pub returns-else-starts_with : goal.returns-else-starts_with
returns-else-starts_with c = ap (λ (b : Bool). cond b Second First) (sym c.if-starts_with.false) ∙ formed _ (c.starts_with.ensures.value ∙ flipped (letters Second) (take letters_length c.args.sheet.now))
