-- Converting: when the first sheet carries contents, that the lists that are held make their sheet, and that each way out leaves the outcome.
-- Assumes nothing.
use Prim.Native.Nat.{ℕ, ◌+◌, ◌*◌, ◌/◌, ◌^◌, ◌≤◌, ◌<◌}
use Rattle.std.proofs.Common.{arith, ◌∙◌, take_all, length-take-le}
use Rattle.std.specs.Prelude.{◌≡◌, refl, Bool, true, false, not, ◌&&◌, Option, None, Some, is_some, eqb, length, take}
use Rattle.std.specs.List.{list_all}
use Rattle.std.proofs.Math.Path.{sym, ap}
use Rattle.std.proofs.Math.Bool.{and-false}
use mathlib.Core.List.{List, [], ◌∷◌}
use borrow.Author.Tests.{ne_eqb, lt-leb, le-leb}
use Rattle.lists.specs.Sums.{sum}
use Rattle.lists.specs.SumLaws.{few_bound}
use Rattle.meaning.specs.Plan.{constraint_length, most_regions, most_area}
use Rattle.scans.specs.Items.{first_off, constraint_right, place_of}
use Rattle.refusals.specs.declared.Refusal.{Refusal}
use Rattle.refusals.specs.Table.{refused, refusal}
use Rattle.blocks.specs.Block.{block_length}
use Rattle.blocks.specs.Layout as blocks
use Rattle.form.specs.declared.Form.{Form}
use Rattle.form.specs.declared.Form.TheVariants.{First, Second}
use Rattle.form.specs.declared.Head.{Head}
use Rattle.form.specs.Form.{letters, outside_count, kind_count, Contents, head_of, carried, layouts, dues, stored, numbers, sheet_of, head_in, contents_in}
use Rattle.form.specs.FormLaws.{HeadLimits, Bounded}
use Rattle.form.specs.Firsts.{HasBlocks}
use Rattle.form.proofs.ContentsLaws.{Counted, head_of_lem, head_read, valid_contents}
use Rattle.form.specs.Refusals.{contents_refusal}
use Rattle.form.specs.Accepted.{Accepted}
use Rattle.form.proofs.AcceptedLaws.{accepted-none, rows-refused, rows_passed}
use Rattle.form.specs.Over.{over}
use Rattle.holding.specs.Held.{most_held, contents_held, Holds}
use Rattle.holding.specs.HeldLaws.{counted_held, holds-accepted, holds-contents}
use Rattle.writing.specs.declared.Written.{Written}
use Rattle.writing.specs.Promise.{sheet_bytes, Outcome, refused_answer, written_answer, contents, left}
use Rattle.writing.specs.Sections.{SoMany, numbers_with}
use Rattle.conversion.specs.Promise.{all_zero, carries, last_rows, convert_refusal, outcome, Promise}
use Rattle.conversion.specs.Carried.{carried_head, head_carried, limits-carried, kinds_right_lem, carried-whole}

-- ---- when the first sheet carries contents

-- outside areas are tested one after the other to be 0
same_zeros : (xs : List ℕ) → all_zero xs ≡ list_all (λ x. eqb x 0) xs
same_zeros [] = refl
same_zeros (x ∷ xs) = ap (λ (b : Bool). eqb x 0 && b) (same_zeros xs)

-- no item is off where its place is 0
none_place : (o : Option ℕ) (r : Bool) → is_some o ≡ not r → r ≡ eqb (place_of o) 0
none_place None true e = refl
none_place None false e = absurd (cc)
none_place (Some k) true e = absurd (cc)
none_place (Some k) false e = sym (ne_eqb (k + 1) 0 (λ z. omega arith))

module _ (k : Contents) {xs : List ℕ} {a : Bool} (o : xs ≡ k.outside) (p : a ≡ list_all (λ x. eqb x 0) xs) where
  -- it doesn't carry contents with an outside area but 0
  pub some_outside : a ≡ false → false ≡ carries First k
  unfolding carries
  some_outside f = rw (same_zeros k.outside, ← o, ← p, f)

  module _ {ns : List ℕ} {e : Bool} (n : ns ≡ k.counts) (q : e ≡ eqb (length ns) 0) where
    -- nor those with flights
    pub some_flights : e ≡ false → false ≡ carries First k
    unfolding carries
    some_flights f = rw (← n, ← q, f, and-false (all_zero k.outside))

    -- without either, it carries them where each constraint is right by its kinds
    pub kinds_only : (contents_refusal Second k).code ≡ 0 → {cs : List ℕ} (m : Option ℕ) {r : Bool} → a ≡ true → e ≡ true → cs ≡ k.constraints
        → place_of m ≡ first_off (length cs / constraint_length) (constraint_right (kind_count First) cs) → is_some m ≡ not r → r ≡ carries First k
    unfolding carries
    kinds_only z m {r} f g t d i = rw (none_place m r i, d, t, kinds_right_lem k z, same_zeros k.outside, ← o, ← p, f, ← n, ← q, g)

-- outside areas that the second sheet takes add up to a number that fits
pub outside_fits : (k : Contents) → (contents_refusal Second k).code ≡ 0 → {xs : List ℕ} → xs ≡ k.outside → sum xs (λ x. x) < 2 ^ 64
outside_fits k z o =
    let l = (valid_contents Second k z).limits in
    rw o (omega (arith, few_bound most_regions most_area k.outside (λ x. x) (omega (arith, l.outside, l.R.high)) l.outside_area))

-- ---- the sheet of what is held

-- the outside areas that a form stores are so many from the front
stored-front : (f : Form) (R : ℕ) (xs : List ℕ) → length xs ≡ R → take (outside_count f R) xs ≡ stored f xs
stored-front First R xs e = refl
stored-front Second R xs e = take_all R xs (omega arith)

-- and there are so many of them
pub length_front : (f : Form) {R n : ℕ} (xs : List ℕ) → length xs ≡ R → n ≡ outside_count f R → length (take n xs) ≡ n
length_front First {n = n} xs e m = length-take-le n xs (omega arith)
length_front Second {n = n} xs e m = length-take-le n xs (omega arith)

-- lists that are those of some contents make these contents
pub same_lists : (k : Contents) {w o e c v t s : List ℕ} → w ≡ k.workloads → o ≡ k.outside → e ≡ k.edges → c ≡ k.counts → v ≡ k.visits → t ≡ k.constraints → s ≡ k.colouring
    → contents k.R k.S w o e c v t s ≡ k
same_lists k w o e c v t s = rw (w, o, e, c, v, t, s)

module _ (f : Form) (h : Head) (held : List ℕ) (b : Bounded h) (r : most_held ≤ length held) {w o e c v t s : List ℕ} (same : contents h.regions h.sectors w o e c v t s ≡ contents_held h held)
    {n : ℕ} (m : n ≡ outside_count f h.regions)
  where
    -- lists that are those that are held have as many of each as the head says
    counted : Counted h (contents h.regions h.sectors w o e c v t s)
    counted = rw same (counted_held h held b r)

    -- the first n outside areas are those that the form stores
    first_stored : take n o ≡ stored f o
    first_stored = rw m (stored-front f h.regions o counted.outside)

    -- so they can be put down, with these outside areas
    pub held_many : SoMany f h w (take n o) e c v t s
    held_many =
        let k = counted in
        record {
          of_workloads = k.workloads;
          of_outside_lem = length_front f o k.outside m ∙ m;
          of_edges = k.edges;
          of_counts = k.counts;
          of_visits = k.visits;
          of_constraints = k.constraints;
          of_colouring = k.colouring;
        }

    -- as the blocks of the sheet of what is held
    own_sheet : blocks.sheet_of (letters f) (layouts f h) (numbers_with f h w (take n o) e c v t s) ≡ sheet_of f (contents_held h held)
    unfolding numbers sheet_of
    own_sheet =
        let sheet : Head → List ℕ → List ℕ = λ x l. blocks.sheet_of (letters f) (layouts f x) (numbers_with f x w l e c v t s) in
        ap (sheet h) first_stored ∙ ap (λ (x : Head). sheet x (stored f o)) (sym (head_of_lem counted)) ∙ ap (sheet_of f) same

    -- which then stands at the front of the lent bytes
    pub held_sheet : (lent : List ℕ) {out : List ℕ} → out ≡ over (blocks.sheet_of (letters f) (layouts f h) (numbers_with f h w (take n o) e c v t s)) lent → out ≡ over (sheet_of f (contents_held h held)) lent
    held_sheet lent g = g ∙ ap (λ (l : List ℕ). over l lent) own_sheet

-- ---- a sheet that is held

-- an accepted sheet is held by its head, and what another form carries of it takes n blocks
pub record Measured (from to : Form) (sheet held : List ℕ) (h : Head) (n : ℕ) : Type 0 where
  pub accepts : Accepted from sheet
  pub head : h ≡ head_in from sheet
  pub same : contents_held h held ≡ contents_in from sheet
  pub count : n ≡ length (dues to (carried_head to h))

module _ {from : Form} {sheet : List ℕ} {r : Refusal} {held : List ℕ} (p : Holds from sheet r held) (z : r.code ≡ 0) {h : Head} (e : h ≡ head_in from sheet) where
  module _ (to : Form) {g : Head} (q : g ≡ carried_head to h) where
    -- the head of what another form carries is within the limits of that form
    pub carried-limits : HeadLimits to g
    carried-limits = rw (q, e) (limits-carried from to (holds-accepted p z).opened.limits)

    -- and says how many blocks it takes
    pub measured : {n : ℕ} → n ≡ length (dues to g) → Measured from to sheet held h n
    measured m = record { accepts = holds-accepted p z; head = e; same = holds-contents p z e; count = rw q at m }

-- ---- the ways out

module _ {from : Form} (to : Form) {sheet : List ℕ} (lent : List ℕ) where
  -- the one outcome keeps the promise
  kept_promise : {o : Outcome} → o ≡ outcome from to sheet lent → Promise from to sheet lent o
  kept_promise e = rw e (record { answer = refl; sheet_left = refl })

  -- a converting that is refused leaves the lent bytes as they are
  untouched : {f : Refusal} {a : Written} → convert_refusal from to sheet (length lent) ≡ f → (f.code ≡ 0 → ⊥) → a ≡ refused_answer f → Promise from to sheet lent (left a lent)
  unfolding outcome
  untouched {f} e n a = kept_promise (rw (e, ne_eqb f.code 0 n, a))

  -- the sheet is refused
  pub promise_refused : {r : Refusal} {held : List ℕ} {a : Written} → Holds from sheet r held → (r.code ≡ 0 → ⊥) → a ≡ refused_answer r → Promise from to sheet lent (left a lent)
  unfolding convert_refusal
  promise_refused p n a =
      untouched (rows-refused from sheet (last_rows to (contents_in from sheet) (length lent)) (rw p.refusal at n) ∙ sym p.refusal) n a

module _ {from to : Form} {sheet held : List ℕ} {h : Head} {n : ℕ} (k : Measured from to sheet held h n) (lent : List ℕ) where
  -- only the lent bytes and what the new form carries are left to refuse
  rows_left : convert_refusal from to sheet (length lent) ≡ refusal (last_rows to (contents_in from sheet) (length lent))
  unfolding convert_refusal
  rows_left = rows_passed from sheet (last_rows to (contents_in from sheet) (length lent)) (ap (λ r. r.code) (accepted-none k.accepts))

  -- the head by which the blocks are counted is that of what is carried
  carried_head_lem : carried_head to h ≡ head_of (carried to (contents_in from sheet))
  carried_head_lem = ap (carried_head to) (k.head ∙ sym (head_read from sheet)) ∙ sym (head_carried to (contents_in from sheet))

  -- so they are its bytes
  carried_bytes : block_length * n ≡ sheet_bytes to (carried to (contents_in from sheet))
  carried_bytes = rw (k.count, carried_head_lem)

  -- the lent bytes are too few
  pub promise_short : {a : Written} → length lent < block_length * n → a ≡ refused_answer (refused 40 0) → Promise from to sheet lent (left a lent)
  unfolding refusal
  promise_short l a = untouched to lent (rows_left ∙ rw (← carried_bytes, lt-leb (block_length * n) (length lent) l)) (λ e. omega arith) a

  module _ (l : block_length * n ≤ length lent) {b : Bool} (d : b ≡ carries to (contents_held h held)) where
    -- what is asked of what is held is asked of the sheet's contents
    own : b ≡ carries to (contents_in from sheet)
    own = rw k.same at d

    -- the new form doesn't carry all of the contents
    pub promise_uncarried : {a : Written} → b ≡ false → a ≡ refused_answer (refused 41 0) → Promise from to sheet lent (left a lent)
    unfolding refusal
    promise_uncarried f a = untouched to lent (rows_left ∙ rw (← carried_bytes, le-leb (block_length * n) (length lent) l, ← own, f)) (λ e. omega arith) a

    module _ (y : b ≡ true) where
      -- contents that the new form carries are carried whole
      whole : carried to (contents_in from sheet) ≡ contents_in from sheet
      whole = let x = contents_in from sheet in carried-whole to x (valid_contents from x k.accepts.valid) (sym own ∙ y)

      -- so that the head stays
      same_head : carried_head to h ≡ h
      same_head = carried_head_lem ∙ ap head_of whole ∙ head_read from sheet ∙ sym k.head

      -- there is room for the sheet of what is held
      pub sheet_room : HasBlocks to lent h
      sheet_room =
          let limits : HeadLimits from h = rw k.head k.accepts.opened.limits in
          record { limits = rw same_head at (limits-carried from to limits); long = rw (k.count, same_head) at l }

      -- nothing is refused, and it is put down
      pub promise_converted : {out : List ℕ} → out ≡ over (sheet_of to (contents_held h held)) lent → Promise from to sheet lent (left (written_answer (block_length * n)) out)
      unfolding refusal outcome
      promise_converted w =
          let none : (convert_refusal from to sheet (length lent)).code ≡ 0 = rw (rows_left, ← carried_bytes, le-leb (block_length * n) (length lent) l, ← own, y) in
          kept_promise to lent (rw (none, carried_bytes, whole, w, k.same))
