-- Document 01, "What the product covers": what the planning screen learns from the bytes of a sheet alone, and the text that the program `verdicts` prints.
-- Assumes nothing.
use Rattle.std.specs.Prelude.{ℕ, ◌+◌, ◌*◌, ◌-◌, ◌/◌, ◌≡◌, cond, List, eqb, leb, length, get_or}
use Rattle.std.proofs.Common.{sym, ◌∙◌}
use Rattle.terms.specs.Plan.{within}
use Rattle.meaning.specs.Plan.{constraint_length}
use Rattle.meaning.specs.Moves.{verdict_length}
use Rattle.report.specs.Text.{verdict_text, refused_text, most_text}
use Rattle.form.specs.Over.{over}
use Rattle.judging.specs.Judgement.{judgement}

-- ---- one number each

-- the code it is refused with, 0 when it is not
abbrev pub code : List ℕ → ℕ
code sheet = (judgement sheet).refusal.code

-- the place that the refusal names, 0 when it names none or there is none
abbrev pub place : List ℕ → ℕ
place sheet = (judgement sheet).refusal.place

-- its total, 0 when it is refused
abbrev pub total_of : List ℕ → ℕ
total_of sheet = (judgement sheet).total

-- how many constraints it has, 0 when it is refused
abbrev pub constraint_count : List ℕ → ℕ
constraint_count sheet = length (judgement sheet).constraints / constraint_length

-- a number of the verdict on the constraint at a place from 1, and 0 for a place outside the list
unfoldable pub verdict_at : ℕ → List ℕ → ℕ → ℕ
verdict_at number sheet place =
    cond (within 1 place (constraint_count sheet)) (get_or (judgement sheet).verdicts (verdict_length * (place - 1) + number) 0) 0

-- 1 when the constraint at a place holds
abbrev pub holds : List ℕ → ℕ → ℕ
holds = verdict_at 0

-- its violation
abbrev pub violation : List ℕ → ℕ → ℕ
violation = verdict_at 1

-- what a call that answers one number promises
pub record Promise (number given : ℕ) : Type 0 where
  pub answer : given ≡ number

-- it leaves one answer
pub unique : {number given given' : ℕ} → Promise number given → Promise number given' → given ≡ given'
unique p q = p.answer ∙ sym q.answer

-- ---- the text

-- what is printed of a sheet
unfoldable pub text_of : List ℕ → List ℕ
text_of sheet =
    let j = judgement sheet in
    cond (eqb j.refusal.code 0) (verdict_text j.constraints j.verdicts j.total) (refused_text j.refusal.code j.refusal.place)

-- all that a caller sees when the text is made: how many bytes it has, and the lent buffer
pub record Printed : Type 0 where
  pub bytes : ℕ
  pub text : List ℕ

-- the text stands at the front of the buffer, and what lies beyond stays; a buffer without room for the longest text stays as it is, and the answer is 0
unfoldable pub printed : List ℕ → List ℕ → Printed
printed sheet lent =
    cond (leb most_text (length lent)) (record { bytes = length (text_of sheet); text = over (text_of sheet) lent }) (record { bytes = 0; text = lent })

-- what making the text promises
pub record TextPromise (sheet lent : List ℕ) (o : Printed) : Type 0 where
  pub bytes : o.bytes ≡ (printed sheet lent).bytes
  pub text : o.text ≡ (printed sheet lent).text

-- for every sheet and every buffer it leaves one answer and one content of the buffer
pub unique_text : {sheet lent : List ℕ} {o o' : Printed} → TextPromise sheet lent o → TextPromise sheet lent o' → o ≡ o'
unique_text p q = rw (p.bytes, p.text, ← q.bytes, ← q.text)

-- an outcome from its parts
abbrev pub left : ℕ → List ℕ → Printed
left bytes text = record { bytes = bytes; text = text }
