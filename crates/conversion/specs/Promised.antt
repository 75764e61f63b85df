-- The round trip over what the calls promise: either sheet read and written again is the same bytes, and a plan written and read again is the same plan.
-- Assumes nothing.
use Rattle.std.specs.Prelude.{ℕ, ◌*◌, ◌≤◌, ◌≡◌, refl, true, List, [], ◌∷◌, ◌++◌, leb, length, take, drop}
use Rattle.std.proofs.Common.{arith, subst, ◌∙◌, le-leb, take_at}
use Rattle.std.proofs.Math.Path.{sym, ap}
use Rattle.lists.specs.Tests.{by_eqb}
use Rattle.packing.specs.Numbers.{Bytes}
use Rattle.meaning.specs.Plan.{edge_length, visit_length, constraint_length}
use Rattle.refusals.specs.declared.Refusal.{Refusal}
use Rattle.refusals.specs.Table.{Row, whole, none, plan_table, plan_refusal}
use Rattle.refusals.specs.Passed.{passed, passed_none, passed_more, front_passed}
use Rattle.form.specs.declared.Form.{Form}
use Rattle.form.specs.declared.Form.TheVariants.{First}
use Rattle.form.specs.Form.{form_in, Contents, head_of, carried, sheet_of, contents_in, head_by, contents_by}
use Rattle.form.proofs.ContentsLaws.{Counted, carried_in, counted_in, head_read, valid_contents, counted_valid}
use Rattle.form.specs.Refusals.{contents_table, contents_refusal}
use Rattle.form.specs.Over.{over}
use Rattle.form.specs.Accepted.{Accepted}
use Rattle.form.proofs.AcceptedLaws.{accepted, accepted-none, opened_form, rows_none, rows_passed}
use Rattle.form.proofs.RoundTrip.{read-written, length-written, head_written, written_read, accepted-written}
use Rattle.reading.specs.declared.Read.{Read}
use Rattle.reading.specs.Promise as reading
use Rattle.writing.specs.declared.Written.{Written}
use Rattle.writing.specs.Promise as writing
use Rattle.conversion.specs.Trips.{converted, SheetAgain}

-- ---- what code 0 says

-- the code that reading answers is that of its refusal
reading_code : (i : reading.Input) → (reading.outcome i).answer.code ≡ (reading.read_refusal i).code
unfolding reading.outcome reading.held reading.refused_by
reading_code i = by_eqb (reading.read_refusal i).code 0 (λ (o : reading.Outcome). o.answer.code ≡ (reading.read_refusal i).code) _ _ (λ e. sym e) (λ n. refl)

-- the code that writing answers is that of its refusal
writing_code : (f : Form) (k : Contents) (lent : List ℕ) → (writing.outcome f k lent).answer.code ≡ (writing.write_refusal f k (length lent)).code
unfolding writing.outcome
writing_code f k lent =
    let r = writing.write_refusal f k (length lent) in
    by_eqb r.code 0 (λ (o : writing.Outcome). o.answer.code ≡ r.code) _ _ (λ e. sym e) (λ n. refl)

module _ {i : reading.Input} {o : reading.Outcome} (p : reading.Promise i o) (e : o.answer.code ≡ 0) where
  unrefused : (reading.read_refusal i).code ≡ 0
  unrefused = sym (reading_code i) ∙ ap (λ (a : Read). a.code) (sym p.answer) ∙ e

  -- a reading that answers code 0 has an accepted sheet
  pub reading_accepted : Accepted (form_in i.sheet) i.sheet
  unfolding reading.read_refusal
  reading_accepted = accepted (form_in i.sheet) i.sheet (rows_none (form_in i.sheet) i.sheet _ unrefused).0

  -- and leaves what it holds
  reading_holds : o ≡ reading.held i
  unfolding reading.outcome
  reading_holds = reading.is_outcome p ∙ rw unrefused

module _ (f : Form) (k : Contents) (room : ℕ) where
  plan_rows : List Row
  plan_rows = contents_table f k

  bytes_row : List Row
  bytes_row = whole 40 (leb (writing.sheet_bytes f k) room) ∷ []

  -- a writing that is not refused has contents that are not
  writing_valid : (writing.write_refusal f k room).code ≡ 0 → (contents_refusal f k).code ≡ 0
  unfolding writing.write_refusal plan_table plan_refusal plan_rows bytes_row
  writing_valid z = ap (λ (r : Refusal). r.code) (passed_none plan_rows (passed_more plan_rows bytes_row (passed (plan_rows ++ bytes_row) tt z)).0)

  -- a writing of contents that are not refused into enough bytes is not refused
  writing_none : (contents_refusal f k).code ≡ 0 → writing.sheet_bytes f k ≤ room → writing.write_refusal f k room ≡ none
  unfolding writing.write_refusal plan_table plan_refusal plan_rows bytes_row
  writing_none z h =
      sym (front_passed plan_rows bytes_row (passed plan_rows tt z)) ∙ passed_none bytes_row (rw (le-leb (writing.sheet_bytes f k) room h), tt)

-- a writing that answers code 0 leaves the sheet at the front of the lent bytes
writing_holds : {f : Form} {k : Contents} {lent : List ℕ} {w : writing.Outcome} → writing.Promise f k lent w → (writing.write_refusal f k (length lent)).code ≡ 0
    → w ≡ writing.left (writing.written_answer (writing.sheet_bytes f k)) (over (sheet_of f k) lent)
unfolding writing.outcome
writing_holds p z = writing.is_outcome p ∙ rw z

-- of contents that the form carries whole it leaves their sheet, and they are not refused
pub sheet_left : {f : Form} {k : Contents} {lent : List ℕ} {w : writing.Outcome} → carried f k ≡ k → writing.Promise f k lent w → w.answer.code ≡ 0
    → (converted w ≡ sheet_of f k) × ((contents_refusal f k).code ≡ 0)
sheet_left {f} {k} {lent} c q e =
    let y : (writing.write_refusal f k (length lent)).code ≡ 0 = sym (writing_code f k lent) ∙ ap (λ (a : Written). a.code) (sym q.answer) ∙ e in
    let v = writing_valid f k (length lent) y in
    (rw (writing_holds q y) (take_at (sheet_of f k) (drop (length (sheet_of f k)) lent) (writing.sheet_bytes f k) (length-written f k c v)), v)

-- ---- a sheet read and written again

-- the contents that a reading leaves: the front parts of the lent lists, by the counts that it answers
abbrev pub contents_left : reading.Outcome → Contents
contents_left o =
    let a = o.answer in
    writing.contents
    a.regions
    a.sectors
    (take a.regions o.workloads)
    (take a.regions o.outside)
    (take (edge_length * a.edges) o.edges)
    (take a.flights o.counts)
    (take (visit_length * a.visits) o.visits)
    (take (constraint_length * a.constraints) o.constraints)
    (take a.regions o.colouring)

-- where it is not refused, they are the contents of the sheet
pub left-held : (i : reading.Input) → contents_left (reading.held i) ≡ contents_by i.sheet
unfolding reading.held
left-held i =
    let k = contents_by i.sheet in
    let n = counted_in (form_in i.sheet) i.sheet in
    rw (
      take_at k.workloads _ _ n.workloads,
      take_at k.outside _ _ n.outside,
      take_at k.edges _ _ n.edges,
      take_at k.counts _ _ n.counts,
      take_at k.visits _ _ n.visits,
      take_at k.constraints _ _ n.constraints,
      take_at k.colouring _ _ n.colouring,
      ← n.regions,
      ← n.sectors,
    )

pub contents-left : {i : reading.Input} {o : reading.Outcome} → reading.Promise i o → o.answer.code ≡ 0 → contents_left o ≡ contents_by i.sheet
contents-left {i} p e = ap contents_left (reading_holds p e) ∙ left-held i

-- of a first sheet they have no outside areas and no flights, so that they can be written as one
pub plain-left : {i : reading.Input} {o : reading.Outcome} → form_in i.sheet ≡ First → reading.Promise i o → o.answer.code ≡ 0 → let k = contents_left o in
    writing.plain k.R k.S k.workloads k.edges k.constraints k.colouring ≡ k
plain-left {i} f p e =
    subst (λ (k : Contents). carried First k ≡ k) (sym (contents-left p e)) (subst (λ (g : Form). carried First (contents_in g i.sheet) ≡ contents_in g i.sheet) (sym f) (carried_in First i.sheet))

-- either sheet read and written again is the same bytes
pub read-and-written : {i : reading.Input} {o : reading.Outcome} {lent : List ℕ} {w : writing.Outcome} → Bytes i.sheet
    → reading.Promise i o → o.answer.code ≡ 0
    → writing.Promise (form_in i.sheet) (contents_left o) lent w → length i.sheet ≤ length lent
    → SheetAgain i.sheet w
read-and-written {i} {o} {lent} {w} b p e q r =
    let f = form_in i.sheet in
    let sheet = i.sheet in
    let a = reading_accepted p e in
    let s : sheet_of f (contents_in f sheet) ≡ sheet = read-written f sheet b a in
    let m : writing.sheet_bytes f (contents_in f sheet) ≡ length sheet = rw (head_read f sheet) (sym a.opened.long) in
    let y : writing.write_refusal f (contents_in f sheet) (length lent) ≡ none = writing_none f (contents_in f sheet) (length lent) a.valid (omega arith) in
    let g : w ≡ writing.left (writing.written_answer (length sheet)) (over sheet lent) = rw (s, m) at (writing_holds (rw (contents-left p e) at q) (rw y)) in
    rw g (record { code = refl; bytes = refl; front = take_at sheet (drop (length sheet) lent) (length sheet) refl })

-- ---- a plan written and read again

-- the lists that are lent to a reading are long enough for some contents
pub record Room (k : Contents) (i : reading.Input) : Type 0 where
  pub workloads : length k.workloads ≤ length i.workloads
  pub outside : length k.outside ≤ length i.outside
  pub edges : length k.edges ≤ length i.edges
  pub counts : length k.counts ≤ length i.counts
  pub visits : length k.visits ≤ length i.visits
  pub constraints : length k.constraints ≤ length i.constraints
  pub colouring : length k.colouring ≤ length i.colouring

-- a reading leaves these contents: it is not refused, answers their head, and the front parts of the lent lists are theirs
pub record ContentsAgain (k : Contents) (o : reading.Outcome) : Type 0 where
  pub answer : o.answer ≡ reading.held_answer (head_of k)
  pub contents : contents_left o ≡ k

-- the room is right for a sheet of these contents
room_right_lem : (k : Contents) (i : reading.Input) → head_by i.sheet ≡ head_of k → Counted (head_of k) k → Room k i → reading.room_right i ≡ true
unfolding reading.room_right
room_right_lem k i e n r =
    rw (
      e,
      le-leb k.R (length i.workloads) (omega (arith, n.workloads, r.workloads)),
      le-leb k.R (length i.outside) (omega (arith, n.outside, r.outside)),
      le-leb (edge_length * (head_of k).edges) (length i.edges) (omega (arith, n.edges, r.edges)),
      le-leb (length k.counts) (length i.counts) r.counts,
      le-leb (visit_length * (head_of k).visits) (length i.visits) (omega (arith, n.visits, r.visits)),
      le-leb (constraint_length * (head_of k).constraints) (length i.constraints) (omega (arith, n.constraints, r.constraints)),
      le-leb k.R (length i.colouring) (omega (arith, n.colouring, r.colouring)),
    )

-- a plan written as either sheet and read again is the same plan
pub written-and-read : {f : Form} {k : Contents} {lent : List ℕ} {w : writing.Outcome} {i : reading.Input} {o : reading.Outcome}
    → carried f k ≡ k → writing.Promise f k lent w → w.answer.code ≡ 0
    → i.sheet ≡ converted w → Room k i → reading.Promise i o
    → ContentsAgain k o
unfolding reading.held reading.read_refusal reading.outcome
written-and-read {f} {k} {i = i} {o} c q e s r p =
    let t = sheet_left c q e in
    let v = t.1 in
    let s' : i.sheet ≡ sheet_of f k = s ∙ t.0 in
    let a : Accepted f i.sheet = rw s' (accepted-written f k c v) in
    let g : form_in i.sheet ≡ f = opened_form f i.sheet a.opened in
    let h : head_by i.sheet ≡ head_of k = rw (g, s') (head_written f k c v) in
    let m = room_right_lem k i h (counted_valid k (valid_contents f k v)) r in
    let z : reading.read_refusal i ≡ none =
    rows_passed (form_in i.sheet) i.sheet _ (rw g (ap (λ (x : Refusal). x.code) (accepted-none a)))
    ∙ passed_none (whole 39 (reading.room_right i) ∷ []) (rw m, tt) in
    let d : o ≡ reading.held i = reading.is_outcome p ∙ rw z in
    record { answer = ap (λ (x : reading.Outcome). x.answer) d ∙ ap reading.held_answer h; contents = ap contents_left d ∙ left-held i ∙ rw (g, s') (written_read f k c v) }
