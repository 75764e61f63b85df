-- Of a first sheet, which has no flights and no outside areas, none is refused: 37 never names 13 or 14.
-- Assumes nothing.
use Rattle.std.specs.Prelude.{ℕ, ◌≤◌, ◌≡◌, refl, List, length, get_or}
use Rattle.std.proofs.Common.{arith, subst, ⊎_elim}
use Rattle.std.proofs.lemmas.List.{length-replicate, get_or-replicate}
use Rattle.meaning.specs.Plan.{most_area, no_outside}
use Rattle.refusals.specs.declared.Refusal.{Refusal}
use Rattle.refusals.specs.Table.{refused}
use Rattle.form.specs.declared.Form.TheVariants.{First}
use Rattle.form.specs.Form.{Contents, carried, head_in, contents_in}
use Rattle.form.proofs.ContentsLaws.{carried_in}
use Rattle.demands.specs.Rules.{Each, OutsideFits, CountsFit, VisitsFit}
use Rattle.demands.specs.SheetRules.{HeadFlightsFit, as_given, SheetCodes}

-- its head has no flights
head_flights : (sheet : List ℕ) → HeadFlightsFit First (head_in First sheet)
unfolding head_in
head_flights sheet = (omega arith, (omega arith, omega arith))

module _ (k : Contents) where
  -- what it carries has no flights
  pub carried_flights : CountsFit (as_given (carried First k)) × VisitsFit (as_given (carried First k))
  carried_flights = ((omega arith, λ j h. absurd (omega arith)), (refl, λ j h. absurd (omega arith)))

  -- and zeros for outside areas
  pub carried_outside : OutsideFits (as_given (carried First k))
  carried_outside = (length-replicate {A = ℕ} k.R 0, small)
    where
      small : Each (length (no_outside k.R)) (λ j. get_or (no_outside k.R) j 0 ≤ most_area)
      small j h = rw (get_or-replicate {A = ℕ} k.R j 0 0 (rw (length-replicate {A = ℕ} k.R 0) at h)) (omega arith)

-- a first sheet is never refused by 37 with place 13, nor with place 14
pub first_sheet : {sheet : List ℕ} {r : Refusal} → SheetCodes First sheet r → (r ≡ refused 37 13 → ⊥) × (r ≡ refused 37 14 → ⊥)
first_sheet {sheet} s =
    let k = contents_in First sheet in
    let flights = subst (λ (x : Contents). CountsFit (as_given x) × VisitsFit (as_given x)) (carried_in First sheet) (carried_flights k) in
    let outside = subst (λ (x : Contents). OutsideFits (as_given x)) (carried_in First sheet) (carried_outside k) in (
      λ e. ⊎_elim (λ q. q.1 (head_flights sheet)) (λ q. q.1 flights) (s.code_37_13.0 e),
      λ e. (s.code_37_14.0 e).1 outside,
    )
