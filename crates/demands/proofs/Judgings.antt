-- When the calls on a sheet's bytes answer each code, and with which place: as reading does of the sheet, before it looks at the lent lists.
-- Assumes nothing.
use Rattle.std.specs.Prelude.{ℕ, ◌≡◌, ◌↔◌}
use Rattle.std.proofs.Math.Path.{refl, sym}
use Rattle.std.proofs.Common.{ap, subst}
use mathlib.Core.List.{List, [], ◌++◌, append-nil}
use Rattle.lists.specs.Tests.{by_eqb}
use Rattle.refusals.specs.declared.Refusal.{Refusal}
use Rattle.refusals.specs.Table.{refused, refusal}
use Rattle.form.specs.Form.{form_in}
use Rattle.form.specs.Refusals.{open_table, held_table, sheet_refusal, refusal_by}
use Rattle.judging.specs.Judgement.{Judgement, judged, refused_for, judgement}
use Rattle.judgement.specs.Promise.{code, place, Promise}
use Rattle.demands.specs.Parts.{Part, AllParts, Refused, parts_none, none-refused}
use Rattle.demands.specs.SheetRules.{sheet_parts, SheetCodes}
use Rattle.demands.proofs.SheetLaws.{sheet_refused}
use Rattle.demands.proofs.SheetCodes.{sheet_codes}

module _ (sheet : List ℕ) where
  -- what is asked of a sheet, as the one that its letters say it is, and nothing after it
  abbrev asked : List Part
  asked = sheet_parts (form_in sheet) sheet ++ []

  -- what it is refused for is what its parts are
  parts_refused : Refused asked (refusal_by sheet)
  unfolding sheet_refusal refusal open_table held_table
  parts_refused = sheet_refused (form_in sheet) sheet [] [] refl

  -- and that is what it comes to
  as_refused : (judgement sheet).refusal ≡ refusal_by sheet
  unfolding judgement judged refused_for
  as_refused =
      by_eqb (refusal_by sheet).code 0 (λ (j : Judgement). j.refusal ≡ refusal_by sheet) (judged sheet) (refused_for (refusal_by sheet))
      (λ e. sym (none-refused (refusal_by sheet) asked parts_refused e))
      (λ ne. refl)

  module _ {c p : ℕ} (answered : Promise (code sheet) c) (named : Promise (place sheet) p) where
    -- codes 31 to 38 are answered as `SheetCodes` says, with their places, of the sheet as the one that its letters say it is
    pub codes_31_38 : SheetCodes (form_in sheet) sheet (refused c p)
    codes_31_38 = rw (answered.answer, named.answer, as_refused) (sheet_codes (form_in sheet) sheet [] (refusal_by sheet) parts_refused (λ l. absurd l))

    -- code 0 is answered exactly when all that is asked of the sheet holds
    pub code_0 : c ≡ 0 ↔ AllParts (sheet_parts (form_in sheet) sheet)
    code_0 =
        subst (λ (parts : List Part). c ≡ 0 ↔ AllParts parts) (append-nil (sheet_parts (form_in sheet) sheet))
        (rw (answered.answer, ap (λ (r : Refusal). r.code) as_refused) (parts_none (refusal_by sheet) asked parts_refused))
