-- Document 02, C-13: converting keeps every verdict, label, row and total.
-- Assumes nothing.
use Rattle.std.specs.Prelude.{ℕ, ◌≡◌, List, ℤ}
use Rattle.std.proofs.Common.{sym, ap, subst, ◌∙◌}
use Rattle.form.specs.declared.Form.{Form}
use Rattle.form.specs.Form.{Contents, contents_in, contents_by}
use Rattle.form.specs.Refusals.{refusal_by}
use Rattle.form.specs.Accepted.{Accepted}
use Rattle.form.proofs.AcceptedLaws.{accepted-none, opened_form}
use Rattle.reading.specs.Promise as reading
use Rattle.writing.specs.Promise.{Outcome}
use Rattle.conversion.specs.Promise as conversion
use Rattle.conversion.specs.Trips.{converted, converted-accepted, converted-contents, source_accepted}
use Rattle.conversion.specs.Promised.{contents_left, contents-left}
use Rattle.judging.specs.Judgement.{judged, judgement}
use Rattle.call.specs.Promise as call

-- a call on the contents that a reading leaves, with these moves and this lent memory
abbrev pub call_on : Contents → List ℕ → List ℤ → List ℕ → List ℕ → call.Input
call_on k moves rows verdicts work =
    call.input k.R k.S k.workloads k.outside k.edges k.counts k.visits k.constraints k.colouring moves rows verdicts work

-- an accepted sheet comes to what its contents do
judged_as : (f : Form) (sheet : List ℕ) → Accepted f sheet → (contents_by sheet ≡ contents_in f sheet) × ((refusal_by sheet).code ≡ 0)
judged_as f sheet a =
    let e = opened_form f sheet a.opened in
    (ap (λ (g : Form). contents_in g sheet) e, rw (e, accepted-none a))

module _ {from to : Form} {sheet lent : List ℕ} {o : Outcome} (p : conversion.Promise from to sheet lent o) (e : o.answer.code ≡ 0) where
  -- the converted sheet comes to what the sheet does: constraints, verdicts and total
  pub same-judgement : judgement (converted o) ≡ judgement sheet
  unfolding judgement judged
  same-judgement =
      let s = judged_as from sheet (source_accepted p e) in
      let t = judged_as to (converted o) (converted-accepted p e) in
      rw (s.1, t.1, s.0, t.0, converted-contents p e)

  -- the lists that are read of the two are the same
  pub same-contents : {i i' : reading.Input} {r r' : reading.Outcome} → i.sheet ≡ sheet → i'.sheet ≡ converted o
      → reading.Promise i r → r.answer.code ≡ 0 → reading.Promise i' r' → r'.answer.code ≡ 0 → contents_left r' ≡ contents_left r
  same-contents {i} {i'} g g' q z q' z' =
      let s = (judged_as from sheet (source_accepted p e)).0 in
      let t = (judged_as to (converted o) (converted-accepted p e)).0 in
      contents-left q' z' ∙ ap contents_by g' ∙ t ∙ converted-contents p e ∙ sym (contents-left q z ∙ ap contents_by g ∙ s)

  -- so the call answers alike on both: every row, label, verdict and total, whatever the moves and the lent memory
  pub same_call : {i i' : reading.Input} {r r' : reading.Outcome} → i.sheet ≡ sheet → i'.sheet ≡ converted o
      → reading.Promise i r → r.answer.code ≡ 0 → reading.Promise i' r' → r'.answer.code ≡ 0
      → (moves : List ℕ) (rows : List ℤ) (verdicts work : List ℕ) {c c' : call.Outcome}
      → call.Promise (call_on (contents_left r) moves rows verdicts work) c → call.Promise (call_on (contents_left r') moves rows verdicts work) c' → c ≡ c'
  same_call g g' q z q' z' moves rows verdicts work {c} {c'} a b =
      call.unique a (subst (λ (k : Contents). call.Promise (call_on k moves rows verdicts work) c') (same-contents g g' q z q' z') b)
