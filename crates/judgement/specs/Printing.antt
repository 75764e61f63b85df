-- The text of a sheet, from what judging it leaves.
-- Assumes nothing.
use Rattle.std.specs.Prelude.{ℕ, ◌*◌, ◌≤◌, ◌<◌, ◌≡◌, refl, List, Ok, Err, length, take}
use borrow.Author.Tests.{eq-eqb, ne_eqb, le-leb, lt-leb}
use Rattle.meaning.specs.Plan.{constraint_length}
use Rattle.meaning.specs.Moves.{verdict_length}
use Rattle.report.specs.Text.{verdict_text, refused_text, most_text}
use Rattle.form.specs.Over.{over}
use Rattle.refusals.specs.declared.Refusal.{Refusal}
use Rattle.judging.specs.declared.Judged.{Judged}
use Rattle.judging.specs.Judged.{Leaves}
use Rattle.judging.specs.Fronts.{refused_left, judged_left, constraints_front, verdicts-front}
use Rattle.judgement.specs.Promise.{code, text_of, Printed, printed, TextPromise, left}
use Rattle.judgement.specs.Told.{leaves_told}

-- of a sheet that is refused
pub text_refused : {sheet cs vs : List ℕ} {e : Refusal} {cs' vs' : List ℕ} → Leaves sheet cs vs (Err e) cs' vs' → refused_text e.code e.place ≡ text_of sheet
unfolding text_of
text_refused {sheet} h = let l = refused_left h in rw (l.1, ne_eqb (code sheet) 0 l.0)

-- and of one that is not
pub text_judged : {sheet cs vs : List ℕ} {r : Judged} {cs' vs' : List ℕ} → Leaves sheet cs vs (Ok r) cs' vs'
    → verdict_text (take (constraint_length * r.constraints) cs') (take (verdict_length * r.constraints) vs') r.total ≡ text_of sheet
unfolding text_of
text_judged {sheet} h = rw (constraints_front h, verdicts-front h, (leaves_told h).total_told.answer, eq-eqb (code sheet) 0 (judged_left h).0)

module _ (sheet lent : List ℕ) where
  -- what is printed keeps the promise
  kept_promise : {o : Printed} → o ≡ printed sheet lent → TextPromise sheet lent o
  kept_promise e = rw e (record { bytes = refl; text = refl })

  -- a buffer without room for the longest text stays as it is
  pub promise_short : length lent < most_text → TextPromise sheet lent (left 0 lent)
  unfolding printed
  promise_short h = kept_promise (rw (lt-leb most_text (length lent) h))

  -- another holds the text
  pub promise_shown : {text after : List ℕ} {bytes : ℕ} → most_text ≤ length lent → text ≡ text_of sheet → (bytes ≡ length text) × (after ≡ over text lent) → TextPromise sheet lent (left bytes after)
  unfolding printed
  promise_shown h e p = kept_promise (rw (le-leb most_text (length lent) h, p.0, p.1, e))
