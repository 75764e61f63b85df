-- All of a sheet but its colouring, step by step: the first row of the table that is given is what it is refused for.
-- Assumes nothing.
use Rattle.std.specs.Prelude.{ℕ, ◌≡◌, ◌≢◌, refl, Bool, true, false, not, cond, eqb, length, Result, Ok, Err, IsErrAnd}
use Rattle.std.proofs.Math.Path.{sym, ap}
use Rattle.std.proofs.Common.{arith, ◌∙◌}
use mathlib.Core.List.{List, [], ◌∷◌, ◌++◌}
use borrow.Author.Tests.{ne_eqb}
use Rattle.refusals.specs.declared.Refusal.{Refusal}
use Rattle.refusals.specs.Table.{none, refused, item, refusal}
use Rattle.refusals.specs.Passed.{Passed, passed, first_given, first_passed, front-given, front_passed}
use Rattle.refusals.specs.Turn.{after}
use Rattle.refusals.specs.Checked.{checked, answer, checked_none, checked_some, checked_ok, checked_err}
use Rattle.refusals.specs.ButEight.{but_eight}
use Rattle.blocks.specs.Sheet.{or_later}
use Rattle.blocks.specs.SheetLaws.{or_later_some, later_none}
use Rattle.form.specs.declared.Form.{Form}
use Rattle.form.specs.declared.Head.{Head}
use Rattle.form.specs.Form.{dues, head_in, contents_in}
use Rattle.form.specs.Firsts.{colouring_first, count_first}
use Rattle.form.specs.Refusals.{fault, open_table, contents_refusal}
use Rattle.form.specs.Accepted.{Opened}
use Rattle.form.proofs.AcceptedLaws.{fault-rows, open_passed}
use Rattle.holding.specs.Held.{contents_held}
use Rattle.holding.specs.HoldLaws.{handed}
use Rattle.salvage.specs.Promise.{fault_between, other_table}

-- ---- the later blocks, those of the colouring left out

-- the first of them that is refused
abbrev pub other_fault : Form → Head → List ℕ → Refusal
other_fault f h sheet =
    let before = fault_between f h sheet 1 (colouring_first f h) in
    or_later before.code before.place (fault_between f h sheet (count_first f h) (length (dues f h)))

module _ (f : Form) (h : Head) (sheet : List ℕ) {r : Refusal} {n : ℕ} (i : n ≡ colouring_first f h) (e : r ≡ fault_between f h sheet 1 n) where
  -- the fault of the blocks before the colouring
  early : r ≡ fault_between f h sheet 1 (colouring_first f h)
  early = rw i at e

  -- it is one before the colouring
  pub other_early : (r.code ≡ 0 → ⊥) → r ≡ other_fault f h sheet
  other_early z = rw (← early, or_later_some r.code r.place (fault_between f h sheet (count_first f h) (length (dues f h))) z)

  -- or else one after it
  pub other_late : {x : Refusal} {m k : ℕ} → r.code ≡ 0 → m ≡ count_first f h → k ≡ length (dues f h) → x ≡ fault_between f h sheet m k → x ≡ other_fault f h sheet
  other_late z a b g = rw (← early, z) (rw (a, b) at g)

-- ---- holding all but the colouring

-- nothing is refused of a sheet but its colouring, and its contents are held
pub record Others (f : Form) (sheet held : List ℕ) : Type 0 where
  pub opened : Opened f sheet
  pub passed : Passed (other_table f sheet)
  pub contents : contents_held (head_in f sheet) held ≡ contents_in f sheet

-- what holding all but the colouring leaves: why the sheet is refused, and where it is not, its contents
pub record HoldsOthers (f : Form) (sheet : List ℕ) (r : Refusal) (held : List ℕ) : Type 0 where
  pub refusal : r ≡ refusal (open_table f sheet ++ other_table f sheet)
  pub others : r.code ≡ 0 → Others f sheet held

module _ {f : Form} {sheet : List ℕ} where
  -- length, head or number of blocks are refused
  pub others_shut : {r : Refusal} (held : List ℕ) → r ≡ refusal (open_table f sheet) → (r.code ≡ 0 → ⊥) → HoldsOthers f sheet r held
  others_shut held e n = record { refusal = e ∙ front-given (open_table f sheet) (other_table f sheet) (rw e at n); others = λ z. absurd (n z) }

  module _ {h : Head} (o : Opened f sheet) (i : h ≡ head_in f sheet) {s : Refusal} (e : s ≡ other_fault f h sheet) where
    -- the fault is that of the blocks that the sheet's own head asks for
    own : s ≡ other_fault f (head_in f sheet) sheet
    own = rw i at e

    -- of an opened sheet the other rows decide
    refusal_opened : refusal (other_table f sheet) ≡ refusal (open_table f sheet ++ other_table f sheet)
    refusal_opened = front_passed (open_table f sheet) (other_table f sheet) (open_passed o)

    -- a later block is refused
    pub others_faulty : (held : List ℕ) → (s.code ≡ 0 → ⊥) → HoldsOthers f sheet s held
    unfolding other_table
    others_faulty held n =
        record {
          refusal = own ∙ first_given (fault (other_fault f (head_in f sheet) sheet)) _ (rw (← own, ne_eqb s.code 0 n)) ∙ sym (fault-rows _ _ _) ∙ refusal_opened;
          others = λ z. absurd (n z);
        }

    -- none is, and what they hold is read
    pub others-read : {x r : Refusal} {y : ℕ} {held : List ℕ} → s.code ≡ 0 → contents_held h held ≡ contents_in f sheet → x ≡ contents_refusal f (contents_held h held) → y ≡ but_eight x.code
        → r ≡ after none (item 37 y) → HoldsOthers f sheet r held
    unfolding other_table refusal after
    others-read {x} {r} {y} {held} z k p q g =
        let a = fault_between f (head_in f sheet) sheet 1 (colouring_first f (head_in f sheet)) in
        let b = fault_between f (head_in f sheet) sheet (count_first f (head_in f sheet)) (length (dues f (head_in f sheet))) in
        let sound = later_none a.code a.place b (rw own at z) in
        let code : y ≡ but_eight (contents_refusal f (contents_in f sheet)).code = q ∙ ap (λ (c : Refusal). but_eight c.code) (p ∙ ap (contents_refusal f) k) in
        let last = item 37 y ∷ [] in
        record {
          refusal = g ∙ first_passed (fault b) last (rw sound.1) ∙ first_passed (fault a) (fault b ∷ last) (rw sound.0) ∙ rw code refusal_opened;
          others = λ none. record { opened = o; passed = (rw sound.0, (rw sound.1, rw (← code) (passed last tt (rw g at none)))); contents = rw (← i) k };
        }

-- ---- what is answered, beside what is left

-- an answer to a sheet, and what is held then
abbrev pub Answered : Form → List ℕ → Result Unit Refusal → List ℕ → Type 0
Answered f sheet a held = (a ≡ checked (refusal (open_table f sheet ++ other_table f sheet))) × HoldsOthers f sheet (answer a) held

module _ {f : Form} {sheet : List ℕ} (a : Result Unit Refusal) where
  -- a refusal that is what the sheet is refused for is an Err
  answered_err : {e : Refusal} {held : List ℕ} → a ≡ Err e → e.code ≢ 0 → HoldsOthers f sheet e held → Answered f sheet a held
  answered_err {e} i n p = (i ∙ sym (checked_some e n) ∙ ap checked p.refusal, rw i p)

  -- and none is an Ok
  answered_ok : {held : List ℕ} → a ≡ Ok tt → HoldsOthers f sheet none held → Answered f sheet a held
  answered_ok i p = (i ∙ sym (checked_none none refl) ∙ ap checked p.refusal, rw i p)

  -- length, head or number of blocks are refused
  pub answers_shut : {e : Refusal} (held : List ℕ) → IsErrAnd a (λ y. y ≡ e) → Err e ≡ checked (refusal (open_table f sheet)) → Answered f sheet a held
  answers_shut {e} held i q = let p = checked_err _ e (sym q) in answered_err (handed a i) p.1 (others_shut held (sym p.0) p.1)

  module _ {h : Head} (o : Opened f sheet) (i : h ≡ head_in f sheet) where
    -- a later block is refused
    pub answers_faulty : {e : Refusal} (held : List ℕ) → IsErrAnd a (λ y. y ≡ e) → Err e ≡ checked (other_fault f h sheet) → Answered f sheet a held
    answers_faulty {e} held j q = let p = checked_err _ e (sym q) in answered_err (handed a j) p.1 (others_faulty o i (sym p.0) held p.1)

    module _ {held : List ℕ} (q : Ok tt ≡ checked (other_fault f h sheet)) (k : contents_held h held ≡ contents_in f sheet) where
      -- what they hold is right
      pub answers_right : Ok tt ≡ checked (contents_refusal f (contents_held h held)) → a ≡ Ok tt → Answered f sheet a held
      unfolding after
      answers_right r w = answered_ok w (others-read o i refl (checked_ok _ (sym q)) k refl refl (rw (checked_ok _ (sym r))))

      -- or it isn't, which is refused but for code 8
      pub answers_wrong : {e : Refusal} → Err e ≡ checked (contents_refusal f (contents_held h held)) → a ≡ checked (cond (not (eqb e.code 8)) (refused 37 e.code) none) → Answered f sheet a held
      unfolding after
      answers_wrong {e} r w = let p = checked_err _ e (sym r) in go (eqb e.code 8) refl p.0 p.1 w
        where
          go : (b : Bool) → eqb e.code 8 ≡ b → contents_refusal f (contents_held h held) ≡ e → e.code ≢ 0 → a ≡ checked (cond (not b) (refused 37 e.code) none) → Answered f sheet a held
          go true g same n w = answered_ok w (others-read o i refl (checked_ok _ (sym q)) k refl refl (rw (same, g)))
          go false g same n w = answered_err w (λ z. omega arith) (others-read o i refl (checked_ok _ (sym q)) k refl refl (rw (same, g, ne_eqb e.code 0 n)))
