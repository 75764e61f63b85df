-- Which of the two sheets bytes are, test by test.
-- Assumes nothing.
use Rattle.std.specs.Prelude.{ℕ, ◌<◌, ◌≡◌, refl, Bool, true, false, cond, List, length, take}
use Rattle.std.proofs.Common.{arith, sym, ap, ◌∙◌, length-take}
use Rattle.blocks.specs.Same.{same, same-eq}
use Rattle.blocks.specs.Block.{letters_length}
use Rattle.form.specs.declared.Form.TheVariants.{First, Second}
use Rattle.form.specs.Form.{letters, form_in}

module _ (sheet : List ℕ) where
  -- by whether it starts with the second's letters
  pub formed : {b : Bool} → b ≡ same (take letters_length sheet) (letters Second) → cond b Second First ≡ form_in sheet
  unfolding form_in
  formed e = rw e

  -- too few bytes don't
  pub formed_short : length sheet < letters_length → First ≡ form_in sheet
  formed_short h = ap (λ (b : Bool). cond b Second First) (sym (go (same (take letters_length sheet) (letters Second)) refl)) ∙ formed refl
    where
      go : (b : Bool) → same (take letters_length sheet) (letters Second) ≡ b → b ≡ false
      go true e = absurd (omega (arith, ap length (same-eq (take letters_length sheet) (letters Second) e), length-take letters_length sheet))
      go false e = refl
