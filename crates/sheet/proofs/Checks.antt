-- What an answer that may refuse says: of a table's rows taken in turn, and of a code.
use Rattle.std.specs.Prelude.{◌≡◌, ◌≢◌, refl, Bool, true, false, cond, not, eqb, List, [], ◌∷◌, T, Result, Ok, Err, is_err, IsErrAnd}
use Rattle.std.proofs.Common.{sym, ap, ◌∙◌, eqb-true, true≢false}
use Rattle.std.proofs.lemmas.Bool.{eqb-false}
use Rattle.refusals.specs.declared.Refusal.{Refusal}
use Rattle.refusals.specs.Table.{Row, refused, none, refusal}
use Rattle.refusals.specs.Turn.{coded}
use Rattle.refusals.specs.Checked.{checked, checked_none, checked_some, checked_stops, checked_goes_on}

module _ (r : Row) where
  module _ (more : List Row) {out : Result Unit Refusal} where
    -- what the first row refuses the table does
    pub row_stops : {e : Refusal} → IsErrAnd out (λ y. y ≡ e) → Err e ≡ checked (cond r.given (refused r.code r.place) none) → out ≡ checked (refusal (r ∷ more))
    unfolding refusal
    row_stops is h = checked_stops (r ∷ []) more is h

    -- where it refuses nothing, the others settle it
    pub row_goes_on : T (coded (r ∷ [])) → Ok tt ≡ checked (cond r.given (refused r.code r.place) none) → out ≡ checked (refusal more) → out ≡ checked (refusal (r ∷ more))
    unfolding refusal
    row_goes_on t h q = checked_goes_on (r ∷ []) more t h q

  -- the last row
  pub row_last : {out : Result Unit Refusal} → out ≡ checked (cond r.given (refused r.code r.place) none) → out ≡ checked (refusal (r ∷ []))
  unfolding refusal
  row_last h = h

-- a test that refuses nothing passes
pub passes : (b : Bool) → Ok tt ≡ checked (cond (not b) (refused 31 0) none) → b ≡ true
passes true e = refl
passes false e = absurd (true≢false (ap is_err (sym e)))

module _ (r : Refusal) where
  -- an Err has a code
  pub err_code : is_err (checked r) ≡ true → r.code ≢ 0
  err_code e z = true≢false (sym e ∙ ap is_err (checked_none r z))

  -- and what is no Err has none
  pub no-err : is_err (checked r) ≡ false → r.code ≡ 0
  no-err e = go (eqb r.code 0) refl
    where
      go : (b : Bool) → eqb r.code 0 ≡ b → r.code ≡ 0
      go true q = eqb-true r.code 0 q
      go false q = absurd (true≢false (ap is_err (sym (checked_some r (eqb-false r.code 0 q))) ∙ e))
