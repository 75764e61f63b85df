-- What is left at the fronts of the lent lists: the constraints of a sheet and the verdict on each.
-- Assumes nothing.
use Rattle.std.specs.Prelude.{ℕ, ◌*◌, ◌/◌, ◌≤◌, ◌≡◌, ◌≢◌, refl, Bool, true, false, cond, List, Result, Ok, Err, eqb, length, take}
use Rattle.std.proofs.Common.{arith, ap, eqb-true, take_at}
use Rattle.std.proofs.lemmas.Bool.{eqb-false}
use Rattle.lists.specs.Tests.{by_eqb}
use Rattle.meaning.specs.Plan.{constraint_length, most_constraints}
use Rattle.meaning.specs.Moves.{verdict_length}
use Rattle.refusals.specs.declared.Refusal.{Refusal}
use Rattle.form.specs.declared.Head.{Head}
use Rattle.form.specs.Form.{form_in, contents_by}
use Rattle.form.proofs.ContentsLaws.{counted_in, head_read}
use Rattle.form.specs.Refusals.{refusal_by}
use Rattle.form.proofs.AcceptedLaws.{accepted}
use Rattle.judging.specs.declared.Judged.{Judged}
use Rattle.judging.specs.Judgement.{Judgement, judged, refused_for, judgement}
use Rattle.judging.specs.Judged.{numbers, answer_for, Leaves}
use Rattle.judging.specs.NoMoves.{length-held}

-- a judgement has as many constraints as a sheet at most has, and a verdict on each
pub record Sized (j : Judgement) : Type 0 where
  pub constraints_long : length j.constraints ≡ constraint_length * (length j.constraints / constraint_length)
  pub verdicts_long : length j.verdicts ≡ verdict_length * (length j.constraints / constraint_length)
  pub few : length j.constraints / constraint_length ≤ most_constraints

sized_judged : (sheet : List ℕ) → (refusal_by sheet).code ≡ 0 → Sized (judged sheet)
unfolding judged
sized_judged sheet z =
    let f = form_in sheet in
    let e = ap (λ (h : Head). h.constraints) (head_read f sheet) in
    record {
      constraints_long = omega (arith, (counted_in f sheet).constraints, e);
      verdicts_long = length-held (contents_by sheet);
      few = omega (arith, (accepted f sheet z).opened.limits.constraints.high, e);
    }

-- every judgement of a sheet is so
pub sized : (sheet : List ℕ) → Sized (judgement sheet)
unfolding judgement refused_for
sized sheet =
    by_eqb (refusal_by sheet).code 0 Sized (judged sheet) (refused_for (refusal_by sheet)) (sized_judged sheet)
    (λ n. record { constraints_long = refl; verdicts_long = refl; few = omega arith })

-- a sheet that is refused has an answer that says why, and no other has
refused_answer : (sheet : List ℕ) {e : Refusal} → Err e ≡ answer_for (judgement sheet) → ((judgement sheet).refusal.code ≢ 0) × (e ≡ (judgement sheet).refusal)
refused_answer sheet {e} h = go (eqb (judgement sheet).refusal.code 0) refl h
  where
    go : (b : Bool) → eqb (judgement sheet).refusal.code 0 ≡ b → Err e ≡ cond b (Ok (numbers (judgement sheet))) (Err (judgement sheet).refusal) → ((judgement sheet).refusal.code ≢ 0) × (e ≡ (judgement sheet).refusal)
    go true b h = absurd (cc)
    go false b h = (eqb-false _ _ b, cc)

judged_answer : (sheet : List ℕ) {r : Judged} → Ok r ≡ answer_for (judgement sheet) → ((judgement sheet).refusal.code ≡ 0) × (r ≡ numbers (judgement sheet))
judged_answer sheet {r} h = go (eqb (judgement sheet).refusal.code 0) refl h
  where
    go : (b : Bool) → eqb (judgement sheet).refusal.code 0 ≡ b → Ok r ≡ cond b (Ok (numbers (judgement sheet))) (Err (judgement sheet).refusal) → ((judgement sheet).refusal.code ≡ 0) × (r ≡ numbers (judgement sheet))
    go true b h = (eqb-true _ _ b, cc)
    go false b h = absurd (cc)

module _ {sheet cs vs : List ℕ} {e : Refusal} {cs' vs' : List ℕ} (h : Leaves sheet cs vs (Err e) cs' vs') where
  -- an answer that refuses says what the sheet is refused for
  pub refused_left : ((judgement sheet).refusal.code ≢ 0) × (e ≡ (judgement sheet).refusal)
  refused_left = refused_answer sheet h.answered

module _ {sheet cs vs : List ℕ} {r : Judged} {cs' vs' : List ℕ} (h : Leaves sheet cs vs (Ok r) cs' vs') where
  -- another has the numbers of a sheet that is not refused
  pub judged_left : ((judgement sheet).refusal.code ≡ 0) × (r ≡ numbers (judgement sheet))
  judged_left = judged_answer sheet h.answered

  -- how many constraints there are
  pub count_left : r.constraints ≡ length (judgement sheet).constraints / constraint_length
  count_left = ap (λ (j : Judged). j.constraints) judged_left.1

  -- they are few
  pub few_left : r.constraints ≤ most_constraints
  few_left = omega (arith, count_left, (sized sheet).few)

  -- their numbers
  pub constraints_front : take (constraint_length * r.constraints) cs' ≡ (judgement sheet).constraints
  constraints_front = rw (h.constraints_left, count_left) (take_at (judgement sheet).constraints _ _ (sized sheet).constraints_long)

  -- and the verdicts on them
  pub verdicts-front : take (verdict_length * r.constraints) vs' ≡ (judgement sheet).verdicts
  verdicts-front = rw (h.verdicts-left, count_left) (take_at (judgement sheet).verdicts _ _ (sized sheet).verdicts_long)

  -- there are four numbers for each constraint
  pub constraints_counted : length (take (constraint_length * r.constraints) cs') ≡ constraint_length * r.constraints
  constraints_counted = omega (arith, ap length constraints_front, (sized sheet).constraints_long, count_left)

  -- and two for each verdict
  pub verdicts_counted : length (take (verdict_length * r.constraints) vs') ≡ verdict_length * r.constraints
  verdicts_counted = omega (arith, ap length verdicts-front, (sized sheet).verdicts_long, count_left)
