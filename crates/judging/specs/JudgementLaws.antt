-- What a sheet comes to, by whether it is refused.
-- Assumes nothing.
use Rattle.std.specs.Prelude.{ℕ, ◌≡◌, refl, List}
use Rattle.std.proofs.Math.Path.{sym}
use Rattle.std.proofs.Common.{eq-eqb, ne_eqb}
use Rattle.lists.specs.Tests.{by_eqb}
use Rattle.form.specs.Refusals.{refusal_by}
use Rattle.judging.specs.Judgement.{Judgement, judged, refused_for, judgement}

module _ (sheet : List ℕ) where
  -- a sheet that is refused is judged so
  pub judgement-refused : ((refusal_by sheet).code ≡ 0 → ⊥) → judgement sheet ≡ refused_for (refusal_by sheet)
  unfolding judgement
  judgement-refused n = rw (ne_eqb (refusal_by sheet).code 0 n)

  -- and one that is not, by its contents
  pub judgement-judged : (refusal_by sheet).code ≡ 0 → judgement sheet ≡ judged sheet
  unfolding judgement
  judgement-judged z = rw (eq-eqb (refusal_by sheet).code 0 z)

  -- its code is that of its refusal
  pub judgement-code : (judgement sheet).refusal.code ≡ (refusal_by sheet).code
  unfolding judgement judged refused_for
  judgement-code =
      by_eqb (refusal_by sheet).code 0 (λ (j : Judgement). j.refusal.code ≡ (refusal_by sheet).code) (judged sheet) (refused_for (refusal_by sheet)) sym (λ n. refl)
