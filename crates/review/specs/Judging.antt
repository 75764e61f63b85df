-- What one more sheet makes of the figures, from what judging it leaves.
-- Assumes nothing.
use Rattle.std.specs.Prelude.{ℕ, ◌*◌, ◌≡◌, List, Ok, Err, take}
use Rattle.std.proofs.Common.{sym}
use borrow.Author.Tests.{eq-eqb}
use Rattle.meaning.specs.Plan.{constraint_length}
use Rattle.meaning.specs.Moves.{verdict_length}
use Rattle.refusals.specs.declared.Refusal.{Refusal}
use Rattle.judging.specs.declared.Judged.{Judged}
use Rattle.judging.specs.Judged.{Leaves}
use Rattle.judging.specs.Fronts.{refused_left, judged_left, constraints_front, verdicts-front}
use Rattle.judgement.specs.Promise.{code}
use Rattle.judgement.specs.Told.{leaves_told}
use Rattle.review.specs.declared.Review.{Review}
use Rattle.review.specs.Next.{with_failed, with_refused, with_sound, next, next-refused}

module _ (known : Review) (place : ℕ) where
  -- one that is refused
  pub judged-refused : {sheet cs vs : List ℕ} {e : Refusal} {cs' vs' : List ℕ} → Leaves sheet cs vs (Err e) cs' vs' → with_refused known ≡ next known place sheet
  judged-refused {sheet} h = sym (next-refused known place sheet (refused_left h).0)

  -- one that is read soundly
  pub judged-sound : {sheet cs vs : List ℕ} {r : Judged} {cs' vs' failed : List ℕ} → Leaves sheet cs vs (Ok r) cs' vs'
      → failed ≡ with_failed known.failed (take (constraint_length * r.constraints) cs') (take (verdict_length * r.constraints) vs') → with_sound known failed r.total place ≡ next known place sheet
  unfolding next
  judged-sound {sheet} h e = rw (e, constraints_front h, verdicts-front h, (leaves_told h).total_told.answer, eq-eqb (code sheet) 0 (judged_left h).0)
