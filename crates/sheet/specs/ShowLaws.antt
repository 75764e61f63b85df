-- Whether there is a block at a place, the place after it, and showing it, step by step.
-- Assumes nothing.
use Rattle.std.specs.Prelude.{ℕ, ◌+◌, ◌*◌, ◌≤◌, ◌<◌, ◌≡◌, refl, Bool, true, false, cond, not, ◌&&◌, List, [], ltb, leb, length, get_or}
use Rattle.std.proofs.Common.{arith, sym, subst, ◌∙◌, true≢false}
use Rattle.std.proofs.Math.Bool.{and-eq-true_iff}
use borrow.Author.Tests.{eqb-true, ltb-true, ltb-false, leb-true, not-true, not-false, eq-eqb, ne_eqb, le-ltb, le-leb}
use Rattle.std.specs.Borrow.{Bor}
use Rattle.lists.specs.Tests.{test-same}
use Rattle.refusals.specs.declared.Refusal.{Refusal}
use Rattle.refusals.specs.Table.{refusal}
use Rattle.blocks.specs.declared.Due.{Due}
use Rattle.blocks.specs.Block.{block_length, most_payload, payload_of, wrong}
use Rattle.blocks.specs.Section.{no_due}
use Rattle.blocks.specs.SectionLaws.{small_at}
use Rattle.blocks.specs.Sheet.{block_at}
use Rattle.blocks.specs.Shown.{Extent, bytes_in, no_part, payload_part, PartOf, payload_bytes}
use Rattle.form.specs.declared.Head.{Head}
use Rattle.form.specs.declared.Form.{Form}
use Rattle.form.specs.Form.{letters, form_in, dues, head_in, head_by}
use Rattle.form.proofs.FormLaws.{small_form}
use Rattle.form.proofs.FirstLaws.{some_blocks}
use Rattle.form.specs.Refusals.{open_table}
use Rattle.form.specs.Accepted.{Opened}
use Rattle.form.proofs.AcceptedLaws.{opened, opened_blocks}
use Rattle.sheet.specs.Showing.{dues_in, due_at, there, past_end, next_place, sound, shown_part, shown, Promise}

-- block n is one of those due of an opened sheet
pub record DueThere (sheet : List ℕ) (n : ℕ) : Type 0 where
  pub opened : Opened (form_in sheet) sheet
  pub before_last : n < length (dues_in sheet)

-- a number is at most n exactly where n is not below it
leb_not : (m n : ℕ) → leb m n ≡ not (ltb n m)
leb_not m n = test-same (leb m n) (not (ltb n m)) (λ h. rw (le-ltb n m (leb-true m n h))) (λ h. le-leb m n (ltb-false n m (not-true (ltb n m) h)))

module _ (sheet : List ℕ) (n : ℕ) {f : Form} (o : f ≡ form_in sheet) {r : Refusal} (g : r ≡ refusal (open_table f sheet)) where
  -- a sheet that is not opened has no block
  pub past_shut : {b : Bool} → (r.code ≡ 0 → ⊥) → b ≡ true → b ≡ past_end sheet n
  unfolding there
  past_shut s e = e ∙ rw (← o, ← g, ne_eqb r.code 0 s)

  -- an opened one has those that are due
  pub past_last : {h : Head} {m : ℕ} {b : Bool} → r.code ≡ 0 → h ≡ head_in f sheet → m ≡ length (dues f h) → b ≡ leb m n → b ≡ past_end sheet n
  unfolding there
  past_last {m = m} z k l e = e ∙ rw (← o, ← g, eq-eqb r.code 0 z, ← k, ← l, leb_not m n)

module _ (sheet : List ℕ) (n : ℕ) {b : Bool} (e : b ≡ past_end sheet n) where
  -- where the test fails there is a block, and where it passes there is none
  is_there : b ≡ false → there sheet n ≡ true
  is_there z = not-false (there sheet n) (sym e ∙ z)

  is_past : b ≡ true → there sheet n ≡ false
  is_past z = not-true (there sheet n) (sym e ∙ z)

  -- a place that is not past the end has one of the blocks due
  pub due-there : b ≡ false → DueThere sheet n
  unfolding there
  due-there z = let p = (and-eq-true_iff _ _).0 (is_there z) in record { opened = opened (form_in sheet) sheet (eqb-true _ 0 p.0); before_last = ltb-true n _ p.1 }

  -- where there is no block, the place stays
  pub next_past : b ≡ true → n ≡ next_place sheet n
  unfolding next_place
  next_past z = rw (is_past z)

  -- after a block comes the next place
  pub next-there : b ≡ false → n + 1 ≡ next_place sheet n
  unfolding next_place
  next-there z = rw (is_there z)

  -- where there is no block, the empty part is shown
  pub shown_past : b ≡ true → shown_part sheet n ≡ no_part
  unfolding shown_part
  shown_past z = rw (is_past z)

  module _ (z : b ≡ false) {f : Form} (o : f ≡ form_in sheet) {h : Head} (k : h ≡ head_in f sheet) {d : Due} (v : d ≡ get_or (dues f h) n no_due)
      {ls : List ℕ} (l : ls ≡ letters f) {w : ℕ} (u : w ≡ wrong ls d.kind n d.used (block_at sheet n))
    where
      found : w ≡ wrong (letters f) d.kind n d.used (block_at sheet n)
      found = u ∙ rw l

      -- so it is of a block that is refused
      pub shown_faulty : (w ≡ 0 → ⊥) → shown_part sheet n ≡ no_part
      unfolding sound shown_part
      shown_faulty s = rw (is_there z, ← o, ← k, ← v, ← found, ne_eqb w 0 s)

      -- any other block shows its used payload
      pub shown-sound : w ≡ 0 → shown_part sheet n ≡ payload_part n d.used
      unfolding sound shown_part
      shown-sound s = rw (is_there z, ← o, ← k, ← v, ← found, eq-eqb w 0 s)

-- the part of a lent sheet that block n shows keeps the promise
pub promised : {lent : Bor (List ℕ)} {n : ℕ} {e : Extent} {p : Bor (List ℕ)} → shown_part lent.now n ≡ e → PartOf lent e p → Promise lent n p
promised h o = record { part = rw h o }

-- the bytes of a block that is there and sound are its used payload
pub shown_payload : (sheet : List ℕ) (n : ℕ) → there sheet n ≡ true → sound sheet n ≡ true → shown sheet n ≡ payload_of (due_at sheet n).used (block_at sheet n)
unfolding shown_part
shown_payload sheet n t s = rw (t, s) (payload_bytes sheet n (due_at sheet n).used (small_at (dues_in sheet) n (small_form (form_in sheet) (head_by sheet))))

-- any other block has none
pub shown-none : (sheet : List ℕ) (n : ℕ) → there sheet n && sound sheet n ≡ false → shown sheet n ≡ []
unfolding shown_part
shown-none sheet n h = none (there sheet n) (sound sheet n) h
  where
    none : (t s : Bool) → t && s ≡ false → bytes_in (cond t (cond s (payload_part n (due_at sheet n).used) no_part) no_part) sheet ≡ []
    none false s e = refl
    none true false e = refl
    none true true e = absurd (true≢false e)

-- a block that is due has its bytes, and its used part is no more than a payload
pub block_room : {sheet : List ℕ} {f : Form} {h : Head} {n : ℕ} {d : Due} → DueThere sheet n → f ≡ form_in sheet → h ≡ head_in f sheet → d ≡ get_or (dues f h) n no_due
    → (block_length * n + block_length ≤ length sheet) × (d.used ≤ most_payload)
block_room {sheet} {f} {h} {n} t o k e = (omega (arith, t.opened.long, t.before_last), rw e (small_at (dues f h) n (small_form f h)))

-- an opened sheet has a head
pub opened_head : {sheet : List ℕ} {f : Form} → Opened f sheet → block_length ≤ length sheet
opened_head o = some_blocks (opened_blocks o refl)

-- a sheet is opened as one of the form that it was found to have
pub opened_as : {sheet : List ℕ} {f : Form} → f ≡ form_in sheet → Opened (form_in sheet) sheet → Opened f sheet
opened_as {sheet} e o = subst (λ (f : Form). Opened f sheet) (sym e) o
