-- What a function answers that may refuse: Ok where nothing is refused, else the refusal. A `?` hands the refusal on.
-- Assumes nothing.
use Rattle.std.specs.Prelude.{◌≡◌, ◌≢◌, refl, Bool, true, false, cond, List, ◌++◌, eqb, T, Result, Ok, Err, IsErrAnd}
use Rattle.std.proofs.Common.{sym, ◌∙◌, ap, eq-eqb, ne_eqb, eqb-true}
use Rattle.std.proofs.lemmas.Bool.{eqb-false}
use Rattle.std.proofs.lemmas.Result.{err_from_is_err_and}
use Rattle.refusals.specs.declared.Refusal.{Refusal}
use Rattle.refusals.specs.Table.{Row, refusal}
use Rattle.refusals.specs.Turn.{coded}
use Rattle.refusals.specs.Passed.{Passed, passed, front-given, front_passed}

-- code 0 refuses nothing
abbrev pub checked : Refusal → Result Unit Refusal
checked r = cond (eqb r.code 0) (Ok tt) (Err r)

-- what is refused by such an answer: nothing, code 0, by an Ok
abbrev pub answer : Result Unit Refusal → Refusal
answer (Ok _) = record { code = 0; place = 0 }
answer (Err r) = r

pub checked_none : (r : Refusal) → r.code ≡ 0 → checked r ≡ Ok tt
checked_none r e = rw (eq-eqb _ _ e)

pub checked_some : (r : Refusal) → r.code ≢ 0 → checked r ≡ Err r
checked_some r e = rw (ne_eqb _ _ e)

by : Refusal → Bool → Result Unit Refusal
by r true = Ok tt
by r false = Err r

passed_by : (r : Refusal) (b : Bool) → eqb r.code 0 ≡ b → by r b ≡ Ok tt → r.code ≡ 0
unfolding by
passed_by r true e h = eqb-true _ _ e
passed_by r false e h = absurd (cc)

refused_by : (r e : Refusal) (b : Bool) → eqb r.code 0 ≡ b → by r b ≡ Err e → (r ≡ e) × (e.code ≢ 0)
unfolding by
refused_by r e true q h = absurd (cc)
refused_by r e false q h = let same : r ≡ e = cc in (same, rw same at (eqb-false _ _ q))

by_checked : (r : Refusal) (b : Bool) → eqb r.code 0 ≡ b → checked r ≡ by r b
unfolding by
by_checked r true e = rw e
by_checked r false e = rw e

-- an Ok refuses nothing
pub checked_ok : (r : Refusal) → checked r ≡ Ok tt → r.code ≡ 0
checked_ok r h = passed_by r (eqb r.code 0) refl (sym (by_checked r (eqb r.code 0) refl) ∙ h)

-- an Err has what is refused, by its code
pub checked_err : (r e : Refusal) → checked r ≡ Err e → (r ≡ e) × (e.code ≢ 0)
checked_err r e h = refused_by r e (eqb r.code 0) refl (sym (by_checked r (eqb r.code 0) refl) ∙ h)

-- ---- a `?` after the first rows of a table

module _ (rows : List Row) where
  -- where nothing is refused, no row is given
  pub checked_passed : T (coded rows) → Ok tt ≡ checked (refusal rows) → Passed rows
  checked_passed t h = passed rows t (checked_ok (refusal rows) (sym h))

  module _ (more : List Row) {r : Result Unit Refusal} where
    -- what the first rows refuse the table does: the `?` hands it on
    pub checked_stops : {e : Refusal} → IsErrAnd r (λ y. y ≡ e) → Err e ≡ checked (refusal rows) → r ≡ checked (refusal (rows ++ more))
    checked_stops {e} is h =
        let q = err_from_is_err_and r is in
        let p = checked_err (refusal rows) e (sym h) in
        q.1 ∙ ap Err q.2 ∙ h ∙ ap checked (front-given rows more (rw p.0 p.1))

    -- where they refuse nothing, the others settle it
    pub checked_goes_on : T (coded rows) → Ok tt ≡ checked (refusal rows) → r ≡ checked (refusal more) → r ≡ checked (refusal (rows ++ more))
    checked_goes_on t h q = q ∙ ap checked (front_passed rows more (checked_passed t h))
