-- The total is zero exactly when all constraints hold: over what a call answers and leaves, and over a sheet's bytes.
-- Assumes nothing.
use Rattle.std.specs.Prelude.{ℕ, suc, ◌-◌, ◌*◌, ◌/◌, ◌<◌, ◌≡◌, refl, ◌↔◌, true, List, length, get_or, take}
use Rattle.std.proofs.Common.{sub-one, arith, sym, ◌∙◌, get_or-take}
use Rattle.std.proofs.Math.Logic.Iff
use Rattle.lists.specs.Sums.{In, Every}
use Rattle.lists.specs.SumLaws.{every_turn}
use Rattle.lists.specs.ListLaws.{length-list_of}
use Rattle.lists.specs.Tests.{by_eqb}
use Rattle.meaning.specs.Plan.{Plan, Limits, constraint_length, constraint_at, constraints_of}
use Rattle.meaning.specs.Kinds.{holds, total}
use Rattle.meaning.specs.Moves.{verdict_length}
use Rattle.meaning.proofs.Holds.{SayHolds, total-zero, verdicts_hold}
use Rattle.call.specs.Promise.{Input, Outcome, Promise, plan_in}
use Rattle.form.specs.Form.{form_in, contents_by}
use Rattle.form.proofs.ContentsLaws.{valid_contents}
use Rattle.form.specs.Refusals.{refusal_by}
use Rattle.form.proofs.AcceptedLaws.{accepted}
use Rattle.judging.specs.Judgement.{Judgement, plan_held, judged, refused_for, judgement}
use Rattle.judgement.specs.Promise.{code, total_of, constraint_count}
use Rattle.judgement.specs.Promise as judgement
use Rattle.judgement.specs.Places.{holds-said}
use Rattle.demands.specs.Calls.{SamePlan, same_plan, call_valid, first_total, last-total, verdicts-left}

-- ---- definitions

-- all constraints of a plan hold of a colouring
abbrev pub AllHold : Plan → List ℕ → Type 0
AllHold P col = Every (λ k. holds P col k ≡ true) P.constraints

-- how many constraints a call is given
abbrev pub constraints_given : Input → ℕ
constraints_given i = length i.constraints / constraint_length

-- ---- a plan

-- within the limits each constraint weighs something, so that the total is 0 exactly when all hold
zero-holds : {P : Plan} → Limits P → (col : List ℕ) → total P col ≡ 0 ↔ AllHold P col
zero-holds {P} l col = total-zero P col (every_turn (λ k h. h.weight.low) P.constraints l.constraint)

-- what verdicts say is said by the front of them that is written
say_front : (n : ℕ) (vs : List ℕ) → SayHolds n (take (verdict_length * n) vs) ↔ SayHolds n vs
say_front n vs = (λ f k h. sym (front k h) ∙ f k h, λ f k h. front k h ∙ f k h)
  where
    front : (k : ℕ) → k < n → get_or (take (verdict_length * n) vs) (verdict_length * k) 0 ≡ get_or vs (verdict_length * k) 0
    front k h = get_or-take (verdict_length * n) vs (verdict_length * k) 0 (omega arith)

-- ---- a call

module _ {i : Input} {o : Outcome} (p : Promise i o) (z : o.answer.code ≡ 0) where
  -- the last total is 0 exactly when each constraint holds of the last colouring
  pub last-zero : o.answer.last ≡ 0 ↔ AllHold (plan_in i) o.colouring
  last-zero = rw (last-total p z) (zero-holds (call_valid p z).plan.limits o.colouring)

  -- the last total is 0 exactly when each verdict left in the lent memory says 1
  pub last-zero-verdicts : o.answer.last ≡ 0 ↔ SayHolds (constraints_given i) o.verdicts
  unfolding constraints_of
  last-zero-verdicts =
      let n = constraints_given i in
      Iff.trans last-zero
      (Iff.trans (verdicts_hold (plan_in i) o.colouring (plan_in i).constraints)
      (rw (length-list_of n (constraint_at i.constraints), ← verdicts-left p z) (say_front n o.verdicts)))

  -- the first total is 0 exactly when each constraint holds of the colouring lent
  pub first_zero : o.answer.first ≡ 0 ↔ AllHold (plan_in i) i.colouring
  first_zero = rw (first_total p z) (zero-holds (call_valid p z).plan.limits i.colouring)

-- the first total is 0 exactly when each verdict says 1 that a call on the same plan leaves for the colouring lent, as one without moves does
pub first_zero-verdicts : {i j : Input} {o q : Outcome} (p : Promise i o) (z : o.answer.code ≡ 0) (p₁ : Promise j q) (z₁ : q.answer.code ≡ 0) → SamePlan i j → q.colouring ≡ i.colouring
    → o.answer.first ≡ 0 ↔ SayHolds (constraints_given j) q.verdicts
first_zero-verdicts {i} {j} {o} {q} p z p₁ z₁ s e =
    let t : o.answer.first ≡ q.answer.last = first_total p z ∙ rw (← e, same_plan s, ← last-total p₁ z₁) in
    rw t (last-zero-verdicts p₁ z₁)

-- ---- the bytes of a sheet

-- a sheet that is not refused has total 0 exactly when each of its constraints holds of its colouring
sheet_holds : (sheet : List ℕ) → (refusal_by sheet).code ≡ 0 → let k = contents_by sheet in total (plan_held k) k.colouring ≡ 0 ↔ AllHold (plan_held k) k.colouring
sheet_holds sheet z =
    let f = form_in sheet in
    let k = contents_by sheet in
    zero-holds (valid_contents f k (accepted f sheet z).valid).limits k.colouring

-- what a sheet comes to has total 0 exactly when each of its verdicts says 1
abbrev AsSaid : Judgement → Type 0
AsSaid j = j.total ≡ 0 ↔ SayHolds (length j.constraints / constraint_length) j.verdicts

as_said : (sheet : List ℕ) → AsSaid (judgement sheet)
unfolding judgement judged refused_for constraints_of
as_said sheet =
    let k = contents_by sheet in
    by_eqb (refusal_by sheet).code 0 AsSaid (judged sheet) (refused_for (refusal_by sheet))
    (λ e. Iff.trans (sheet_holds sheet e)
    (rw (length-list_of (length k.constraints / constraint_length) (constraint_at k.constraints)) at (verdicts_hold (plan_held k) k.colouring (plan_held k).constraints)))
    (λ ne. (λ e n h. absurd (omega arith), λ f. refl))

module _ (sheet : List ℕ) where
  -- of a sheet that is not refused the total is 0 exactly when each constraint holds of its colouring
  pub sheet_zero : code sheet ≡ 0 → total_of sheet ≡ 0 ↔ AllHold (plan_held (contents_by sheet)) (contents_by sheet).colouring
  unfolding judgement judged refused_for
  sheet_zero =
      by_eqb (refusal_by sheet).code 0 (λ (j : Judgement). j.refusal.code ≡ 0 → j.total ≡ 0 ↔ AllHold (plan_held (contents_by sheet)) (contents_by sheet).colouring) (judged sheet) (refused_for (refusal_by sheet))
      (λ e _. sheet_holds sheet e)
      (λ ne e. absurd (ne e))

  -- of any sheet the total is 0 exactly when 1 is answered for holds at the place of each constraint; one that is refused has no constraints, and its total is 0
  pub sheet_zero-verdicts : total_of sheet ≡ 0 ↔ ((place : ℕ) → In (constraint_count sheet) place → judgement.holds sheet place ≡ 1)
  sheet_zero-verdicts =
      Iff.trans (as_said sheet)
      (λ f place h. holds-said sheet place h ∙ f (place - 1) (omega arith), λ f k h. let i : In (constraint_count sheet) (suc k) = record { low = omega arith; high = h } in rw sub-one at (sym (holds-said sheet (suc k) i) ∙ f (suc k) i))
