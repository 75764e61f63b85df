-- A part of the queue, or of the neighbours, as a list of its own: what holds of its regions holds of those of the part.
-- Assumes nothing.
use Rattle.std.specs.Prelude.{ℕ, ◌+◌, ◌-◌, ◌≤◌, ◌<◌, ◌≡◌, List, length, get_or, take, drop}
use Rattle.std.proofs.Common.{arith, sym, ap, ◌∙◌, length-drop, get_or-take, get_or-drop}
use Rattle.std.proofs.lemmas.List.{length-take-le}
use Rattle.lists.specs.Sums.{In, at}
use Rattle.meaning.specs.Plan.{Edge}
use Rattle.neighbours.specs.Net.{Net}
use Rattle.search.specs.Flood.{Queued}
use Rattle.search.specs.Scan.{Span}
use Rattle.relabel.specs.Minimum.{Minimum}
use Rattle.relabel.specs.Writing.{Written}

-- the part of a list from place `first` up to `end`
abbrev pub part : ℕ → ℕ → List ℕ → List ℕ
part first end queue = take (end - first) (drop first queue)

module _ (queue : List ℕ) {first end : ℕ} (low : first ≤ end) (fits : end ≤ length queue) where
  -- it is as long as its places say
  pub length-part : length (part first end queue) ≡ end - first
  length-part = length-take-le (end - first) (drop first queue) (omega (arith, length-drop first queue))

  -- its cells are those of the list
  pub part_cell : (k : ℕ) → k < end - first → get_or (part first end queue) k 0 ≡ get_or queue (first + k) 0
  part_cell k h = get_or-take (end - first) (drop first queue) k 0 h ∙ get_or-drop first queue k 0

  -- and the other way round
  cell_part : (k : ℕ) → first ≤ k → k < end → get_or (part first end queue) (k - first) 0 ≡ get_or queue k 0
  cell_part k a b =
      let e : first + (k - first) ≡ k = omega arith in
      part_cell (k - first) (omega arith) ∙ ap (λ (i : ℕ). get_or queue i 0) e

  -- what stands in the queue there stands in it
  queued_part : {w : ℕ} → Queued queue first end w → Queued (part first end queue) 0 (length (part first end queue)) w
  queued_part q = record { place = q.place - first; low = omega arith; high = omega (arith, length-part, q.low, q.high); is = cell_part q.place q.low q.high ∙ q.is }

  -- and the other way round
  part_queued : {w : ℕ} → Queued (part first end queue) 0 (length (part first end queue)) w → Queued queue first end w
  part_queued q =
      let h : q.place < end - first = omega (arith, q.high, length-part) in
      record { place = first + q.place; low = omega arith; high = omega arith; is = sym (part_cell q.place h) ∙ q.is }

  -- it holds regions
  pub part_span : {R : ℕ} → Span R queue first end → Span R (part first end queue) 0 (length (part first end queue))
  part_span {R} s = record { order = omega arith; fits = omega arith; inside = λ k a b. inside k (omega (arith, b, length-part)) }
    where
      inside : (k : ℕ) → k < end - first → In R (get_or (part first end queue) k 0)
      inside k h = rw (part_cell k h) (s.inside (first + k) (omega arith) (omega arith))

  -- its smallest is that of the queue there
  pub part_minimum : {m : ℕ} → Minimum (part first end queue) 0 (length (part first end queue)) m → Minimum queue first end m
  part_minimum x = record { stands = part_queued x.stands; least = λ k a b. omega (arith, x.least (k - first) (omega arith) (omega (arith, length-part)), cell_part k a b) }

  -- and what has its labels has those of the queue there
  pub part_written : {R m : ℕ} {ls ls' : List ℕ} {n : ℕ} → Written R (part first end queue) 0 (length (part first end queue)) m ls ls' n → Written R queue first end m ls ls' n
  part_written x = record { size = x.size; given = λ w q. x.given w (queued_part q); kept = λ w i n. x.kept w i (λ q. n (part_queued q)); number = x.number }

-- ---- a region's row

module _ {R : ℕ} {edges : List Edge} {start nb : List ℕ} (net : Net R edges start nb) {v : ℕ} (i : In R v) {k : ℕ} where
  -- an item of it stands at its place among all neighbours
  pub row_item : k < length (part (at start v) (get_or start v 0) nb) → (at start v + k < get_or start v 0) × (get_or (part (at start v) (get_or start v 0) nb) k 0 ≡ get_or nb (at start v + k) 0)
  row_item h =
      let low = net.rise v i in
      let fits = net.fits v i in
      let l : k < get_or start v 0 - at start v = omega (arith, h, length-part nb low fits) in
      (omega (arith, l), part_cell nb low fits k l)

  -- past its items no place of it is left
  pub row_over : length (part (at start v) (get_or start v 0) nb) ≤ k → get_or start v 0 ≤ at start v + k
  row_over h = omega (arith, h, length-part nb (net.rise v i) (net.fits v i))
