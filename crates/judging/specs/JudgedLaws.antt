-- What judging a sheet leaves, from its two ways: the sheet is refused, or what is held of it is judged.
-- Assumes nothing.
use Rattle.std.specs.Prelude.{ℕ, ◌/◌, ◌≡◌, ◌≢◌, List, Result, Ok, Err}
use Rattle.std.proofs.Common.{arith, ◌∙◌, ne_eqb}
use Rattle.std.proofs.Math.Path.{refl, ap}
use Rattle.std.proofs.Math.ListN.{length}
use Rattle.meaning.specs.Plan.{constraint_length}
use Rattle.refusals.specs.declared.Refusal.{Refusal}
use Rattle.refusals.specs.Checked.{checked, checked_err}
use Rattle.form.specs.declared.Head.{Head}
use Rattle.form.specs.Form.{form_in, Contents, head_by, contents_by}
use Rattle.form.proofs.ContentsLaws.{counted_in}
use Rattle.form.specs.Refusals.{refusal_by}
use Rattle.form.specs.Over.{over}
use Rattle.holding.specs.Held.{contents_held, Holds}
use Rattle.holding.specs.HeldLaws.{holds-contents}
use Rattle.judging.specs.declared.Judged.{Judged}
use Rattle.judging.specs.Judgement.{verdicts_held, total_held, Judgement, judged, refused_for, judgement}
use Rattle.judging.specs.JudgementLaws.{judgement-refused, judgement-judged}
use Rattle.judging.specs.Judged.{answer_for, Leaves}

-- what is left, by what the sheet comes to
leaves_by : {sheet cs vs cs' vs' : List ℕ} {r : Result Judged Refusal} {j : Judgement} → judgement sheet ≡ j → r ≡ answer_for j → cs' ≡ over j.constraints cs → vs' ≡ over j.verdicts vs
    → Leaves sheet cs vs r cs' vs'
leaves_by e a c v = record { answered = rw e a; constraints_left = rw e c; verdicts-left = rw e v }

module _ (sheet : List ℕ) where
  -- a sheet that is refused
  pub leaves_refused : {cs vs : List ℕ} {r : Refusal} → checked (refusal_by sheet) ≡ Err r → Leaves sheet cs vs (Err r) cs vs
  unfolding refused_for
  leaves_refused {r = r} e =
      let p = checked_err (refusal_by sheet) r e in
      let n : (refusal_by sheet).code ≢ 0 = rw p.0 p.1 in
      leaves_by (judgement-refused sheet n) (rw (ne_eqb (refusal_by sheet).code 0 n, p.0)) refl refl

  -- a sheet that is not: its constraints and the verdicts on them are left
  pub leaves_judged : {held : List ℕ} {r : Refusal} → Holds (form_in sheet) sheet r held → {h : Head} {cs cs' vs vs' : List ℕ} {sum : ℕ} → r.code ≡ 0 → h ≡ head_by sheet → let k = contents_held h held in
      cs' ≡ over k.constraints cs → sum ≡ total_held k → vs' ≡ over (verdicts_held k) vs
      → Leaves sheet cs vs (Ok (record { constraints = h.constraints; total = sum })) cs' vs'
  unfolding judged
  leaves_judged {held} {r} p {h} {cs} {vs = vs} z e c t v =
      let k : contents_held h held ≡ contents_by sheet = holds-contents p z e in
      let n : h.constraints ≡ length (contents_by sheet).constraints / constraint_length = rw e (omega (arith, (counted_in (form_in sheet) sheet).constraints)) in
      leaves_by (judgement-judged sheet (rw p.refusal at z)) (rw (n, t ∙ ap total_held k))
      (c ∙ ap (λ (x : Contents). over x.constraints cs) k)
      (v ∙ ap (λ (x : Contents). over (verdicts_held x) vs) k)
