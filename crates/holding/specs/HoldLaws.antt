-- Holding a sheet, step by step: the first row of its table that is given is what it is refused for.
-- Assumes nothing.
use Rattle.std.specs.Prelude.{ℕ, ◌≡◌, ◌≢◌, refl, List, [], ◌∷◌, Result, Ok, Err, IsErrAnd, MatchResult}
use Rattle.std.proofs.Common.{arith, sym, ap, ◌∙◌}
use Rattle.std.proofs.lemmas.Result.{err_from_is_err_and}
use borrow.Author.Tests.{ne_eqb}
use Rattle.refusals.specs.declared.Refusal.{Refusal}
use Rattle.refusals.specs.Table.{none, refused, item, refusal}
use Rattle.refusals.specs.Passed.{first_given, first_passed, front-given, front_passed}
use Rattle.refusals.specs.Turn.{after}
use Rattle.refusals.specs.Checked.{checked, answer, checked_none, checked_some, checked_ok, checked_err}
use Rattle.form.specs.declared.Form.{Form}
use Rattle.form.specs.declared.Head.{Head}
use Rattle.form.specs.Form.{Contents, head_in, contents_in}
use Rattle.form.specs.Refusals.{fault, open_table, contents_refusal, later_fault, held_table, sheet_refusal}
use Rattle.form.specs.Accepted.{Opened}
use Rattle.form.proofs.AcceptedLaws.{open_passed, opened_by}
use Rattle.holding.specs.Held.{contents_held, Holds}

module _ {f : Form} {sheet : List ℕ} where
  -- ---- the rows in turn

  -- of an opened sheet the later blocks and what they hold decide
  refusal_opened : Opened f sheet → refusal (held_table f sheet) ≡ sheet_refusal f sheet
  unfolding sheet_refusal
  refusal_opened o = front_passed (open_table f sheet) (held_table f sheet) (open_passed o)

  -- where no later block is refused, what they hold decides
  refusal-sound : Opened f sheet → (later_fault f (head_in f sheet) sheet).code ≡ 0 → after none (item 37 (contents_refusal f (contents_in f sheet)).code) ≡ sheet_refusal f sheet
  unfolding held_table refusal after
  refusal-sound o z = first_passed (fault (later_fault f (head_in f sheet) sheet)) (item 37 (contents_refusal f (contents_in f sheet)).code ∷ []) (rw z) ∙ refusal_opened o

  -- ---- what is left, by the step that settles it

  -- length, head or number of blocks are refused
  pub holds_shut : {r : Refusal} (held : List ℕ) → r ≡ refusal (open_table f sheet) → (r.code ≡ 0 → ⊥) → Holds f sheet r held
  unfolding sheet_refusal
  holds_shut held e n = record { refusal = e ∙ front-given (open_table f sheet) (held_table f sheet) (rw e at n); contents = λ z. absurd (n z) }

  module _ {h : Head} (o : Opened f sheet) (i : h ≡ head_in f sheet) {s : Refusal} (e : s ≡ later_fault f h sheet) where
    -- the fault is that of the blocks that the sheet's own head asks for
    later : s ≡ later_fault f (head_in f sheet) sheet
    later = rw i at e

    -- a later block is refused
    pub holds_faulty : (held : List ℕ) → (s.code ≡ 0 → ⊥) → Holds f sheet s held
    unfolding held_table
    holds_faulty held n =
        record {
          refusal = later ∙ first_given (fault (later_fault f (head_in f sheet) sheet)) _ (rw (← later, ne_eqb s.code 0 n)) ∙ refusal_opened o;
          contents = λ z. absurd (n z);
        }

    -- none is, and what they hold is read
    pub holds_read : {x r : Refusal} {held : List ℕ} → s.code ≡ 0 → contents_held h held ≡ contents_in f sheet → x ≡ contents_refusal f (contents_held h held) → r ≡ after none (item 37 x.code)
        → Holds f sheet r held
    holds_read {held = held} z k p q =
        record {
          refusal = q ∙ ap (λ (y : Refusal). after none (item 37 y.code)) (p ∙ ap (λ (c : Contents). contents_refusal f c) k) ∙ refusal-sound o (rw later at z);
          contents = λ _. rw (← i) k;
        }

-- ---- what is answered, beside what is left

-- what a `?` hands on
pub handed : (a : Result Unit Refusal) {e : Refusal} → IsErrAnd a (λ y. y ≡ e) → a ≡ Err e
handed a i = let q = err_from_is_err_and a i in q.1 ∙ ap Err q.2

-- a sheet whose length, head and number of blocks are not refused is opened
pub opens : (f : Form) (sheet : List ℕ) → Ok tt ≡ checked (refusal (open_table f sheet)) → Opened f sheet
opens f sheet q = opened_by f sheet refl (checked_ok _ (sym q))

module _ {f : Form} {sheet : List ℕ} (a : Result Unit Refusal) where
  -- a refusal that is what the sheet is refused for is an Err
  answered_err : {e : Refusal} {held : List ℕ} → a ≡ Err e → e.code ≢ 0 → Holds f sheet e held → (a ≡ checked (sheet_refusal f sheet)) × Holds f sheet (answer a) held
  answered_err {e} i n p = (i ∙ sym (checked_some e n) ∙ ap checked p.refusal, rw i p)

  -- and none is an Ok
  answered_ok : {held : List ℕ} → a ≡ Ok tt → Holds f sheet none held → (a ≡ checked (sheet_refusal f sheet)) × Holds f sheet (answer a) held
  answered_ok i p = (i ∙ sym (checked_none none refl) ∙ ap checked p.refusal, rw i p)

  -- length, head or number of blocks are refused
  pub answers_shut : {e : Refusal} (held : List ℕ) → IsErrAnd a (λ y. y ≡ e) → Err e ≡ checked (refusal (open_table f sheet)) → (a ≡ checked (sheet_refusal f sheet)) × Holds f sheet (answer a) held
  answers_shut {e} held i q = let p = checked_err _ e (sym q) in answered_err (handed a i) p.1 (holds_shut held (sym p.0) p.1)

  module _ {h : Head} (o : Opened f sheet) (i : h ≡ head_in f sheet) where
    -- a later block is refused
    pub answers_faulty : {e : Refusal} (held : List ℕ) → IsErrAnd a (λ y. y ≡ e) → Err e ≡ checked (later_fault f h sheet) → (a ≡ checked (sheet_refusal f sheet)) × Holds f sheet (answer a) held
    answers_faulty {e} held j q = let p = checked_err _ e (sym q) in answered_err (handed a j) p.1 (holds_faulty o i (sym p.0) held p.1)

    -- none is, and what they hold decides
    pub answers_read : {m : Result Unit Refusal} {held : List ℕ} → Ok tt ≡ checked (later_fault f h sheet) → contents_held h held ≡ contents_in f sheet → m ≡ checked (contents_refusal f (contents_held h held))
        → MatchResult m (λ x. a ≡ Ok x) (λ e. IsErrAnd a (λ r. r ≡ refused 37 e.code)) → (a ≡ checked (sheet_refusal f sheet)) × Holds f sheet (answer a) held
    unfolding after
    answers_read {m} {held} q k n w =
        let z = checked_ok _ (sym q) in
        go m n w
      where
        go : (m : Result Unit Refusal) → m ≡ checked (contents_refusal f (contents_held h held)) → MatchResult m (λ x. a ≡ Ok x) (λ e. IsErrAnd a (λ r. r ≡ refused 37 e.code))
            → (a ≡ checked (sheet_refusal f sheet)) × Holds f sheet (answer a) held
        go (Ok u) n w = answered_ok w (holds_read o i refl (checked_ok _ (sym q)) k refl (rw (checked_ok _ (sym n))))
        go (Err e) n w = let p = checked_err _ e (sym n) in answered_err (handed a w) (λ z. omega arith) (holds_read o i refl (checked_ok _ (sym q)) k refl (rw (p.0, ne_eqb e.code 0 p.1)))
