-- What follows where nothing of a sheet is refused, and what is enough for that.
-- Assumes nothing.
use Rattle.std.specs.Prelude.{ℕ, zero, suc, ◌*◌, ◌/◌, ◌%◌, ◌≤◌, ◌≡◌, refl, Bool, true, false, cond, not, List, [], ◌∷◌, ◌++◌, eqb, leb, T, length, take}
use Rattle.std.proofs.Math.Decide.{ℕ_discrete}
use Rattle.std.proofs.Common.{arith, subst, ◌∙◌, eqb-true, eq-eqb, ne_eqb, le-leb, take-take}
use Rattle.std.proofs.Math.Path.{sym}
use Rattle.std.proofs.lemmas.Bool.{eqb-false, not-true, not-false}
use Rattle.lists.specs.Sums.{In, Every}
use Rattle.lists.specs.SumLaws.{every_append}
use Rattle.terms.specs.Plan.{within}
use Rattle.meaning.specs.Plan.{most_regions, most_sectors, most_edges, most_constraints, most_visits}
use Rattle.refusals.specs.declared.Refusal.{Refusal}
use Rattle.refusals.specs.Table.{Row, whole, refused, refusal, none}
use Rattle.refusals.specs.Passed.{Passed, passed_none, passed_more, passed_in, passed_equal, passed_most, passed_records, front-given, front_passed, both}
use Rattle.blocks.specs.Same.{same}
use Rattle.blocks.specs.Block.{block_length, letters_length}
use Rattle.blocks.specs.BlockLaws.{right_of}
use Rattle.blocks.specs.Sheet.{or_later, fault_from}
use Rattle.form.specs.declared.Form.{Form}
use Rattle.form.specs.declared.Form.TheVariants.{First, Second}
use Rattle.form.specs.declared.Head.{Head}
use Rattle.form.specs.Form.{letters, most_blocks, flight_count, form_in, dues, head_in}
use Rattle.form.specs.FormLaws.{HeadLimits}
use Rattle.form.proofs.FormLaws.{few_blocks, head_first, some_block}
use Rattle.form.specs.Firsts.{HasBlocks}
use Rattle.form.specs.Refusals.{fault, length_right, flights_right, head_table, open_table, later_fault, held_table, sheet_refusal}
use Rattle.form.specs.Accepted.{Accepted, Opened}
use Rattle.std.proofs.Common.{leb→le}

-- ---- tables in which a row on a block's fault has that fault's own code, 0 where there is none

-- a row that is given has a code
abbrev Telling : Row → Type 0
Telling r = r.given ≡ true → r.code ≡ 0 → ⊥

telling_first : (r : Row) (rs : List Row) (b : Bool) → r.given ≡ b → Telling r → (refusal (r ∷ rs)).code ≡ 0 → (r.given ≡ false) × ((refusal rs).code ≡ 0)
unfolding refusal
telling_first r rs true e t z = absurd (t e (rw e at z))
telling_first r rs false e t z = (e, rw e at z)

-- where each row tells and the code is 0, no row is given
telling_passed : (rows : List Row) → Every Telling rows → (refusal rows).code ≡ 0 → Passed rows
telling_passed [] t z = tt
telling_passed (r ∷ rs) t z = let p = telling_first r rs r.given refl t.0 z in (p.0, telling_passed rs t.1 p.1)

-- a row on a fault tells
telling_fault : (code : ℕ) → not (eqb code 0) ≡ true → code ≡ 0 → ⊥
telling_fault code e = eqb-false code 0 (not-true _ e)

-- where neither the first rows nor the last are given, none is
passed_append : (rows more : List Row) → Passed rows → Passed more → Passed (rows ++ more)
passed_append = every_append (λ r. r.given ≡ false)

-- two rows on faults are one on the first of them
pub fault-rows : (a b : Refusal) (rows : List Row) → refusal (fault a ∷ fault b ∷ rows) ≡ refusal (fault (or_later a.code a.place b) ∷ rows)
unfolding refusal
fault-rows a b rows = go a.code
  where
    go : (c : ℕ) → cond (not (eqb c 0)) (refused c a.place) (refusal (fault b ∷ rows)) ≡ refusal (fault (or_later c a.place b) ∷ rows)
    go zero = refl
    go (suc c) = rw (ne_eqb (suc c) 0 (λ z. omega arith))

-- ---- length, head and number of blocks

module _ (f : Form) (h : Head) where
  flights_passed : not (flights_right f h) ≡ false → (h.flights ≤ flight_count f) × ((h.flights ≤ h.visits) × (h.visits ≤ most_visits * h.flights))
  flights_passed e =
      let right = subst (λ (b : Bool). T b) (sym (not-false (flights_right f h) e)) tt in
      let p = both (leb h.flights (flight_count f)) (within h.flights h.visits (most_visits * h.flights)) right in
      let q = both (leb h.flights h.visits) (leb h.visits (most_visits * h.flights)) p.1 in
      (leb→le _ _ p.0, (leb→le _ _ q.0, leb→le _ _ q.1))

  -- head numbers that are not refused are within the limits
  pub passed_head : Passed (head_table f h) → HeadLimits f h
  passed_head p =
      let flights = flights_passed p.1.1.1.1.0 in
      record {
        regions = passed_in most_regions h.regions p.0;
        sectors = passed_in most_sectors h.sectors p.1.0;
        edges = passed_most h.edges most_edges p.1.1.0;
        constraints = passed_in most_constraints h.constraints p.1.1.1.0;
        flights = flights.0;
        visits_some = flights.1.0;
        visits_few = flights.1.1;
      }

  in_passed : {n x : ℕ} → In n x → not (within 1 x n) ≡ false
  in_passed {n} {x} i = rw (le-leb 1 x i.low, le-leb x n i.high)

  -- and those within the limits are not refused
  head_passed : HeadLimits f h → Passed (head_table f h)
  head_passed l =
      let edges : not (leb h.edges most_edges) ≡ false = rw (le-leb h.edges most_edges l.edges) in
      let flights : not (flights_right f h) ≡ false =
      rw (le-leb h.flights (flight_count f) l.flights, le-leb h.flights h.visits l.visits_some, le-leb h.visits (most_visits * h.flights) l.visits_few) in
      (in_passed l.regions, (in_passed l.sectors, (edges, (in_passed l.constraints, (flights, tt)))))

telling_open : (f : Form) (sheet : List ℕ) → Every Telling (open_table f sheet)
unfolding open_table
telling_open f sheet = (
  λ e z. omega arith,
  (telling_fault _, (λ e z. omega arith, (λ e z. omega arith, (λ e z. omega arith, (λ e z. omega arith, (λ e z. omega arith, (λ e z. omega arith, tt))))))),
)

passed_open : (f : Form) (sheet : List ℕ) → Passed (open_table f sheet) → Opened f sheet
unfolding open_table
passed_open f sheet p =
    let h = head_in f sheet in
    let q = passed_more (head_table f h) (whole 38 (eqb (length sheet / block_length) (length (dues f h))) ∷ []) p.1.1 in
    let n = passed_records block_length 1 (most_blocks (form_in sheet)) sheet p.0 in
    let m = passed_equal (length sheet / block_length) (length (dues f h)) q.1.0 in
    record {
      head = eqb-true _ 0 (not-false _ p.1.0);
      limits = passed_head f h q.0;
      long = omega (arith, n.0);
    }

-- a sheet whose length, head and number of blocks are not refused is opened
pub opened : (f : Form) (sheet : List ℕ) → (refusal (open_table f sheet)).code ≡ 0 → Opened f sheet
opened f sheet z = passed_open f sheet (telling_passed (open_table f sheet) (telling_open f sheet) z)

pub opened_by : (f : Form) (sheet : List ℕ) {r : Refusal} → r ≡ refusal (open_table f sheet) → r.code ≡ 0 → Opened f sheet
opened_by f sheet e z = opened f sheet (rw e at z)

-- it has the blocks that its head asks for
pub opened_blocks : {f : Form} {sheet : List ℕ} → Opened f sheet → {h : Head} → h ≡ head_in f sheet → HasBlocks f sheet h
opened_blocks o e = rw e (record { limits = o.limits; long = omega (arith, o.long) })

-- and its letters are those of its form
pub opened_form : (f : Form) (sheet : List ℕ) → Opened f sheet → form_in sheet ≡ f
unfolding form_in
opened_form f sheet o =
    let e : take letters_length sheet ≡ letters f = sym (take-take letters_length block_length sheet (omega arith)) ∙ (right_of o.head).headed.front in
    rw e (own f)
  where
    own : (f : Form) → cond (same (letters f) (letters Second)) Second First ≡ f
    own First = refl
    own Second = refl

-- of an opened sheet no row on length, head and number of blocks is given
pub open_passed : {f : Form} {sheet : List ℕ} → Opened f sheet → Passed (open_table f sheet)
unfolding open_table
open_passed {f} {sheet} o =
    let h = head_in f sheet in
    let ds = dues f h in
    let e : length sheet / block_length ≡ length ds = omega (arith, o.long) in
    let r : length sheet % block_length ≡ 0 = omega (arith, o.long) in
    let long : not (length_right sheet) ≡ false =
    rw (eq-eqb (length sheet % block_length) 0 r, e, le-leb 1 (length ds) (some_block f h), opened_form f sheet o, le-leb (length ds) (most_blocks f) (few_blocks f h o.limits)) in
    let blocks : not (eqb (length sheet / block_length) (length ds)) ≡ false = rw (eq-eqb (length sheet / block_length) (length ds) e) in
    (long, (rw o.head, passed_append (head_table f h) (whole 38 (eqb (length sheet / block_length) (length ds)) ∷ []) (head_passed f h o.limits) (blocks, tt)))

-- ---- all of a sheet

-- where the head is right, the first fault is that of the later blocks
fault_later : (f : Form) (sheet : List ℕ) → Opened f sheet → fault_from (letters f) 0 (dues f (head_in f sheet)) sheet ≡ later_fault f (head_in f sheet) sheet
fault_later f sheet o = rw (head_first f (head_in f sheet), o.head)

telling_sheet : (f : Form) (sheet : List ℕ) → Every Telling (open_table f sheet ++ held_table f sheet)
unfolding held_table
telling_sheet f sheet = every_append Telling (open_table f sheet) (held_table f sheet) (telling_open f sheet) (telling_fault _, (λ e z. omega arith, tt))

passed_sheet : (f : Form) (sheet : List ℕ) → Passed (open_table f sheet ++ held_table f sheet) → Accepted f sheet
unfolding held_table
passed_sheet f sheet p =
    let q = passed_more (open_table f sheet) (held_table f sheet) p in
    let o = passed_open f sheet q.0 in
    record {
      opened = o;
      sound = rw (fault_later f sheet o) (eqb-true _ 0 (not-false _ q.1.0));
      valid = eqb-true _ 0 (not-false _ q.1.1.0);
    }

sheet_passed : {f : Form} {sheet : List ℕ} → Accepted f sheet → Passed (open_table f sheet ++ held_table f sheet)
unfolding held_table
sheet_passed {f} {sheet} a =
    let e = rw (fault_later f sheet a.opened) at a.sound in
    passed_append (open_table f sheet) (held_table f sheet) (open_passed a.opened) (rw e, (rw a.valid, tt))

-- a sheet of which nothing is refused is accepted
pub accepted : (f : Form) (sheet : List ℕ) → (sheet_refusal f sheet).code ≡ 0 → Accepted f sheet
unfolding sheet_refusal
accepted f sheet z = passed_sheet f sheet (telling_passed (open_table f sheet ++ held_table f sheet) (telling_sheet f sheet) z)

-- of an accepted sheet nothing is refused
pub accepted-none : {f : Form} {sheet : List ℕ} → Accepted f sheet → sheet_refusal f sheet ≡ none
unfolding sheet_refusal
accepted-none {f} {sheet} a = passed_none (open_table f sheet ++ held_table f sheet) (sheet_passed a)

-- ---- a sheet, and then other rows

module _ (f : Form) (sheet : List ℕ) (more : List Row) where
  -- what the sheet is refused for settles it
  pub rows-refused : ((sheet_refusal f sheet).code ≡ 0 → ⊥) → refusal (open_table f sheet ++ held_table f sheet ++ more) ≡ sheet_refusal f sheet
  unfolding sheet_refusal
  rows-refused n = sym (front-given (open_table f sheet ++ held_table f sheet) more n)

  -- a sheet that is not refused leaves it to the other rows
  pub rows_passed : (sheet_refusal f sheet).code ≡ 0 → refusal (open_table f sheet ++ held_table f sheet ++ more) ≡ refusal more
  rows_passed z = sym (front_passed (open_table f sheet ++ held_table f sheet) more (sheet_passed (accepted f sheet z)))

  -- where nothing is refused, neither the sheet is nor anything by the other rows
  pub rows_none : (refusal (open_table f sheet ++ held_table f sheet ++ more)).code ≡ 0 → ((sheet_refusal f sheet).code ≡ 0) × ((refusal more).code ≡ 0)
  rows_none z = go (ℕ_discrete (sheet_refusal f sheet).code 0)
    where
      go : Dec ((sheet_refusal f sheet).code ≡ 0) → ((sheet_refusal f sheet).code ≡ 0) × ((refusal more).code ≡ 0)
      go (yes y) = (y, rw (rows_passed y) at z)
      go (no n) = absurd (n (rw (rows-refused n) at z))
