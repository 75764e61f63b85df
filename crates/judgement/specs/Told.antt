-- The numbers that are promised of a sheet, from what judging it leaves.
-- Assumes nothing.
use Rattle.std.specs.Prelude.{ℕ, ◌+◌, ◌-◌, ◌*◌, ◌<◌, ◌≡◌, ◌/◌, ◌≢◌, Bool, true, false, List, Result, Ok, Err, T, leb, get_or}
use Rattle.std.proofs.Common.{arith, sym, ap, subst, ne_eqb, ◌∙◌}
use Rattle.std.proofs.Math.Decide.{ℕ_discrete, dec_lt}
use Rattle.std.proofs.Math.Bool.{and-false}
use Rattle.std.proofs.lemmas.Bool.{lt-leb}
use Rattle.std.proofs.Math.ListN.{length, get_or-append}
use Rattle.lists.specs.Sums.{In}
use Rattle.terms.specs.Plan.{within}
use Rattle.meaning.specs.Plan.{constraint_length}
use Rattle.meaning.specs.Moves.{verdict_length}
use Rattle.refusals.specs.Passed.{in_limits}
use Rattle.refusals.specs.declared.Refusal.{Refusal}
use Rattle.form.specs.Refusals.{refusal_by}
use Rattle.judging.specs.declared.Judged.{Judged}
use Rattle.judging.specs.Judgement.{Judgement, judged, refused_for, judgement}
use Rattle.judging.specs.JudgementLaws.{judgement-refused, judgement-judged}
use Rattle.judging.specs.Judged.{numbers, answer_for, Leaves}
use Rattle.judging.specs.Fronts.{sized, count_left}
use Rattle.judgement.specs.Promise.{code, place, total_of, constraint_count, verdict_at, Promise}

-- the numbers of an answer: it has a code and a place where it refuses, and else a number of constraints and a total; those that it has not are 0
abbrev pub code_in : Result Judged Refusal → ℕ
code_in (Ok _) = 0
code_in (Err r) = r.code

abbrev pub place_in : Result Judged Refusal → ℕ
place_in (Ok _) = 0
place_in (Err r) = r.place

abbrev pub constraints_in : Result Judged Refusal → ℕ
constraints_in (Ok j) = j.constraints
constraints_in (Err _) = 0

abbrev pub total_in : Result Judged Refusal → ℕ
total_in (Ok j) = j.total
total_in (Err _) = 0

-- each number of the answer is the one that is promised of the sheet
pub record Told (sheet : List ℕ) (answer : Result Judged Refusal) : Type 0 where
  pub code_told : Promise (code sheet) (code_in answer)
  pub place_told : Promise (place sheet) (place_in answer)
  pub constraints_told : Promise (constraint_count sheet) (constraints_in answer)
  pub total_told : Promise (total_of sheet) (total_in answer)

-- a sheet that is refused has no constraints and no total
told_refused : (sheet : List ℕ) → (refusal_by sheet).code ≢ 0 → Told sheet (answer_for (judgement sheet))
unfolding refused_for
told_refused sheet n =
    let e = judgement-refused sheet n in
    let a : answer_for (judgement sheet) ≡ Err (refusal_by sheet) = ap answer_for e ∙ rw (ne_eqb (refusal_by sheet).code 0 n) in
    subst (Told sheet) (sym a)
    (record {
      code_told = record { answer = sym (ap (λ (j : Judgement). j.refusal.code) e) };
      place_told = record { answer = sym (ap (λ (j : Judgement). j.refusal.place) e) };
      constraints_told = record { answer = sym (ap (λ (j : Judgement). length j.constraints / constraint_length) e) };
      total_told = record { answer = sym (ap (λ (j : Judgement). j.total) e) };
    })

-- and another has no code and no place
told_judged : (sheet : List ℕ) → (refusal_by sheet).code ≡ 0 → Told sheet (answer_for (judgement sheet))
unfolding judged
told_judged sheet z =
    let e = judgement-judged sheet z in
    let a : answer_for (judgement sheet) ≡ Ok (numbers (judged sheet)) = ap answer_for e in
    subst (Told sheet) (sym a)
    (record {
      code_told = record { answer = sym (ap (λ (j : Judgement). j.refusal.code) e) };
      place_told = record { answer = sym (ap (λ (j : Judgement). j.refusal.place) e) };
      constraints_told = record { answer = sym (ap (λ (j : Judgement). length j.constraints / constraint_length) e) };
      total_told = record { answer = sym (ap (λ (j : Judgement). j.total) e) };
    })

told : (sheet : List ℕ) → Told sheet (answer_for (judgement sheet))
told sheet = go (ℕ_discrete (refusal_by sheet).code 0)
  where
    go : Dec ((refusal_by sheet).code ≡ 0) → Told sheet (answer_for (judgement sheet))
    go (yes z) = told_judged sheet z
    go (no n) = told_refused sheet n

-- no place is within none
nothing_within : (place : ℕ) → within 1 place 0 ≡ false
nothing_within place = go (dec_lt place 1)
  where
    go : Dec (place < 1) → within 1 place 0 ≡ false
    go (yes l) = rw (lt-leb 1 place l)
    go (no n) = rw (lt-leb place 0 (omega arith), and-false (leb 1 place))

module _ {sheet cs vs : List ℕ} {r : Result Judged Refusal} {cs' vs' : List ℕ} (h : Leaves sheet cs vs r cs' vs') where
  -- the numbers that are answered
  pub leaves_told : Told sheet r
  leaves_told = rw h.answered (told sheet)

  -- for a place outside the list there is no verdict
  pub verdict_outside : (place number : ℕ) → within 1 place (constraints_in r) ≡ false → Promise (verdict_at number sheet place) 0
  unfolding verdict_at
  verdict_outside place number f = record { answer = rw (← leaves_told.constraints_told.answer, f) }

-- a sheet that is refused has no list
pub verdict_refused : {sheet cs vs : List ℕ} {e : Refusal} {cs' vs' : List ℕ} → Leaves sheet cs vs (Err e) cs' vs' → (place number : ℕ) → Promise (verdict_at number sheet place) 0
verdict_refused h place number = verdict_outside h place number (nothing_within place)

module _ {sheet cs vs : List ℕ} {r : Judged} {cs' vs' : List ℕ} (h : Leaves sheet cs vs (Ok r) cs' vs') where
  module _ (place : ℕ) {b : Bool} (e : b ≡ within 1 place r.constraints) where
    -- a place that is not is one of 1 to the number of constraints
    pub place_within : b ≡ true → In r.constraints place
    place_within t = in_limits r.constraints place (subst T (sym (sym e ∙ t)) tt)

    -- and its verdict is in the lent list
    pub verdict-within : (number : ℕ) → number < verdict_length → b ≡ true → Promise (verdict_at number sheet place) (get_or vs' (verdict_length * (place - 1) + number) 0)
    unfolding verdict_at
    verdict-within number n t =
        let i = place_within t in
        let m : verdict_length * (place - 1) + number < length (judgement sheet).verdicts = omega (arith, i.low, i.high, count_left h, (sized sheet).verdicts_long) in
        record { answer = rw (← count_left h, ← e, t, h.verdicts-left) (get_or-append (judgement sheet).verdicts _ 0 _ m) }
