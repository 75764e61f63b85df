-- Document 02, C-18, over the promises on sheets: two sheets that differ in the names of sectors alone are told, read, written and converted alike.
-- Assumes nothing.
use Rattle.std.specs.Prelude.{ℕ, ◌≡◌, refl, cond, List, eqb, length}
use Rattle.std.proofs.Common.{sym, ap, ◌∙◌}
use borrow.Author.Tests.{ne_eqb}
use Rattle.lists.specs.Tests.{cond_ap}
use Rattle.meaning.specs.Names.{Renaming}
use Rattle.meaning.proofs.Renamed.{total-renamed, verdicts-renamed}
use Rattle.refusals.specs.Table.{refusal}
use Rattle.form.specs.declared.Form.{Form}
use Rattle.form.specs.declared.Form.TheVariants.{First, Second}
use Rattle.form.specs.Form.{form_in, Contents, carried, sheet_of, contents_in, head_by, contents_by}
use Rattle.form.specs.Refusals.{contents_refusal, open_table, sheet_refusal, refusal_by}
use Rattle.form.proofs.Renamed.{renamed_contents, RenamedSheet, table_renamed, carried-renamed, whole-renamed, SameFirst, form_first, refused_first, same_first, head_renamed, contents-renamed, open_renamed, held-renamed, written-renamed}
use Rattle.form.proofs.AcceptedLaws.{opened_form}
use Rattle.form.proofs.RoundTrip.{written_read, accepted-written}
use Rattle.judging.specs.Judgement.{plan_held, judged, judgement}
use Rattle.judgement.specs.Promise.{code, place, total_of, constraint_count, verdict_at, holds, violation, text_of}
use Rattle.reading.specs.Promise as reading
use Rattle.writing.specs.Promise as writing
use Rattle.conversion.specs.Promise as conversion
use Rattle.conversion.specs.Trips.{converted, kept, is_sheet}
use Rattle.conversion.specs.Promised.{contents_left, contents-left, sheet_left}

-- ---- definitions

-- what is told of the bytes of two sheets is the same
pub record SameTold (a b : List ℕ) : Type 0 where
  pub code_told : code b ≡ code a
  pub place_told : place b ≡ place a
  pub total_told : total_of b ≡ total_of a
  pub constraints_told : constraint_count b ≡ constraint_count a
  pub holds_told : (k : ℕ) → holds b k ≡ holds a k
  pub violation_told : (k : ℕ) → violation b k ≡ violation a k
  pub text_told : text_of b ≡ text_of a

-- lists that are lent to two readings are as long
pub record AsLong (i j : reading.Input) : Type 0 where
  pub workloads : length j.workloads ≡ length i.workloads
  pub outside : length j.outside ≡ length i.outside
  pub edges : length j.edges ≡ length i.edges
  pub counts : length j.counts ≡ length i.counts
  pub visits : length j.visits ≡ length i.visits
  pub constraints : length j.constraints ≡ length i.constraints
  pub colouring : length j.colouring ≡ length i.colouring

-- ---- the bytes alone

-- of sheets that come to the same the same is told
told : {a b : List ℕ} → judgement b ≡ judgement a → SameTold a b
unfolding verdict_at text_of
told e =
    record {
      code_told = rw (code, e);
      place_told = rw (place, e);
      total_told = rw (total_of, e);
      constraints_told = rw (constraint_count, e);
      holds_told = λ k. rw e;
      violation_told = λ k. rw e;
      text_told = rw e;
    }

module _ {p : ℕ → ℕ} {a b : List ℕ} (s : RenamedSheet (form_in a) p a b) (r : Renaming (contents_by a).S p) where
  -- the two are refused alike, with the same code and place, or neither is
  refusal-renamed : refusal_by b ≡ refusal_by a
  unfolding sheet_refusal
  refusal-renamed = rw (form_first (same_first s), open_renamed s, held-renamed s r)

  -- they hold the same but for names
  contents_by_lem : contents_by b ≡ renamed_contents p (contents_by a)
  contents_by_lem = rw (form_first (same_first s)) (contents-renamed s)

  -- they come to the same: refusal, constraints, verdicts and total
  pub judgement-renamed : judgement b ≡ judgement a
  unfolding judgement judged
  judgement-renamed =
      let k = contents_by a in
      rw (refusal-renamed, contents_by_lem, verdicts-renamed (plan_held k) r k.colouring, total-renamed (plan_held k) r k.colouring)

  -- so every call on a sheet's bytes answers the same of both, and their text is the same
  pub same_told : SameTold a b
  same_told = told judgement-renamed

module _ {a b : List ℕ} (s : SameFirst a b) (n : (refusal (open_table (form_in a) a)).code ≡ 0 → ⊥) where
  -- two sheets with the same first block that are refused for their length, head or number of blocks come to the same
  pub judgement_first : judgement b ≡ judgement a
  unfolding judgement
  judgement_first = let r = refused_first s (form_in a) n in rw (form_first s, r.0, ne_eqb (refusal_by a).code 0 r.1)

  -- so the same is told of both, whatever stands in their other blocks
  pub opening_told : SameTold a b
  opening_told = told judgement_first

-- ---- reading

-- a reading's answer goes by its refusal and the head
read_answer : (i : reading.Input) → (reading.outcome i).answer ≡ cond (eqb (reading.read_refusal i).code 0) (reading.held_answer (head_by i.sheet)) (reading.refused_answer (reading.read_refusal i))
unfolding reading.outcome reading.held reading.refused_by
read_answer i = cond_ap (λ (o : reading.Outcome). o.answer) (eqb (reading.read_refusal i).code 0) (reading.held i) (reading.refused_by i (reading.read_refusal i))

module _ {p : ℕ → ℕ} {i j : reading.Input} (s : RenamedSheet (form_in i.sheet) p i.sheet j.sheet) (r : Renaming (contents_by i.sheet).S p) (l : AsLong i j) where
  -- two readings are refused alike
  read-refusal : reading.read_refusal j ≡ reading.read_refusal i
  unfolding reading.read_refusal reading.room_right
  read-refusal =
      rw (
        form_first (same_first s),
        open_renamed s,
        held-renamed s r,
        head_renamed s,
        l.workloads,
        l.outside,
        l.edges,
        l.counts,
        l.visits,
        l.constraints,
        l.colouring,
      )

  module _ {o q : reading.Outcome} (m : reading.Promise i o) (n : reading.Promise j q) where
    -- they answer alike, refused or not
    pub reading_renamed : q.answer ≡ o.answer
    reading_renamed = n.answer ∙ read_answer j ∙ rw (read-refusal, form_first (same_first s), head_renamed s) (sym (read_answer i)) ∙ sym m.answer

    -- and where they are not refused, what the second leaves is what the first leaves, in the new names
    pub contents-left-renamed : o.answer.code ≡ 0 → contents_left q ≡ renamed_contents p (contents_left o)
    contents-left-renamed z =
        contents-left n (ap (λ a. a.code) reading_renamed ∙ z) ∙ contents_by_lem s r ∙ ap (renamed_contents p) (sym (contents-left m z))

-- ---- writing

-- a writing's answer goes by its refusal and the bytes that the sheet takes
write_answer : (f : Form) (k : Contents) (lent : List ℕ) → let r = writing.write_refusal f k (length lent) in
    (writing.outcome f k lent).answer ≡ cond (eqb r.code 0) (writing.written_answer (writing.sheet_bytes f k)) (writing.refused_answer r)
unfolding writing.outcome
write_answer f k lent = cond_ap (λ (o : writing.Outcome). o.answer) (eqb (writing.write_refusal f k (length lent)).code 0) _ _

module _ {f : Form} {k : Contents} {p : ℕ → ℕ} (r : Renaming k.S p) {lent lent' : List ℕ} (l : length lent' ≡ length lent)
    {o q : writing.Outcome} (m : writing.Promise f k lent o) (n : writing.Promise f (renamed_contents p k) lent' q) where
  -- two writings are refused alike
  write_refusal_lem : writing.write_refusal f (renamed_contents p k) (length lent') ≡ writing.write_refusal f k (length lent)
  unfolding writing.write_refusal
  write_refusal_lem = rw (l, table_renamed f k r)

  -- they answer alike, refused or not
  pub writing_renamed : q.answer ≡ o.answer
  writing_renamed = n.answer ∙ write_answer f (renamed_contents p k) lent' ∙ rw write_refusal_lem (sym (write_answer f k lent)) ∙ sym m.answer

  module _ (c : carried f k ≡ k) (z : o.answer.code ≡ 0) where
    -- the first has written the sheet of the contents, which are not refused
    first : (converted o ≡ sheet_of f k) × ((contents_refusal f k).code ≡ 0)
    first = sheet_left c m z

    -- the second that of the contents in the new names
    second : (converted q ≡ sheet_of f (renamed_contents p k)) × ((contents_refusal f (renamed_contents p k)).code ≡ 0)
    second = sheet_left (whole-renamed f k p c) n (ap (λ a. a.code) writing_renamed ∙ z)

    -- the sheets that are written differ in the names of sectors alone
    pub sheets_renamed : RenamedSheet f p (converted o) (converted q)
    sheets_renamed = rw (first.0, second.0) (written-renamed f k r c first.1)

    -- so the same is told of both
    pub offices_told : SameTold (converted o) (converted q)
    offices_told =
        let e : form_in (converted o) ≡ f = rw first.0 (opened_form f (sheet_of f k) (accepted-written f k c first.1).opened) in
        let g : contents_in f (converted o) ≡ k = rw first.0 (written_read f k c first.1) in
        same_told {p = p} (rw e sheets_renamed) (rw (e, g) r)

-- ---- converting

-- a form carries the same contents in the new names
carries-renamed : (to : Form) (k : Contents) (p : ℕ → ℕ) → conversion.carries to (renamed_contents p k) ≡ conversion.carries to k
unfolding conversion.carries
carries-renamed First k p = refl
carries-renamed Second k p = refl

-- a converting's answer goes by its refusal and the bytes that the new sheet takes
convert_answer : (from to : Form) (sheet lent : List ℕ) → let r = conversion.convert_refusal from to sheet (length lent) in
    (conversion.outcome from to sheet lent).answer ≡ cond (eqb r.code 0) (writing.written_answer (writing.sheet_bytes to (contents_in from sheet))) (writing.refused_answer r)
unfolding conversion.outcome
convert_answer from to sheet lent = cond_ap (λ (o : writing.Outcome). o.answer) (eqb (conversion.convert_refusal from to sheet (length lent)).code 0) _ _

module _ {from to : Form} {p : ℕ → ℕ} {a b : List ℕ} (s : RenamedSheet from p a b) (r : Renaming (contents_in from a).S p) {lent lent' : List ℕ} (l : length lent' ≡ length lent)
    {o q : writing.Outcome} (m : conversion.Promise from to a lent o) (n : conversion.Promise from to b lent' q) where
  -- two convertings are refused alike
  convert_refusal_lem : conversion.convert_refusal from to b (length lent') ≡ conversion.convert_refusal from to a (length lent)
  unfolding conversion.convert_refusal
  convert_refusal_lem =
      let k = contents_in from a in
      rw (open_renamed s, held-renamed s r, contents-renamed s, l, carried-renamed to k p, carries-renamed to k p)

  -- they answer alike, refused or not
  pub converting_renamed : q.answer ≡ o.answer
  converting_renamed =
      n.answer ∙ convert_answer from to b lent' ∙ rw (convert_refusal_lem, contents-renamed s) (sym (convert_answer from to a lent)) ∙ sym m.answer

  -- and the converted sheets differ in the names of sectors alone
  pub converted-renamed : o.answer.code ≡ 0 → RenamedSheet to p (converted o) (converted q)
  converted-renamed z =
      rw (is_sheet m z, is_sheet n (ap (λ a. a.code) converting_renamed ∙ z), contents-renamed s) (written-renamed to (contents_in from a) r (kept m z).0 (kept m z).1)
