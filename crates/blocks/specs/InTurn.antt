-- Sections gone through in turn: how many blocks are due, and what is due of one of them.
-- Assumes nothing.
use Rattle.std.specs.Prelude.{ℕ, zero, suc, ◌+◌, ◌-◌, ◌*◌, ◌≤◌, ◌<◌, min, ◌≡◌, refl, List, [], ◌∷◌, length, get_or, drop}
use Rattle.std.specs.Prelude.{None, Some, ◌++◌}
use Rattle.std.specs.List.{slice_get}
use Rattle.std.proofs.Common.{add-one, zero-add, suc-add, arith, sym, ap, ◌∙◌, drop_of_length-le, drop-cons}
use Rattle.std.proofs.lemmas.Option.{slice_get-get_or}
use Rattle.blocks.specs.declared.Due.{Due}
use Rattle.lists.specs.Sums.{Every}
use Rattle.blocks.specs.declared.Section.{Section}
use Rattle.blocks.specs.Section.{section, due, no_due, blocks_of, section_dues, due_of, Sized, Sections}
use Rattle.blocks.specs.SectionLaws.{length-dues, length-due, due_here}

-- what stands past the last section
abbrev pub no_section : Section
no_section = section 0 0 0

sized_at : (ss : List Section) (i : ℕ) → i < length ss → Every Sized ss → Sized (get_or ss i no_section)
sized_at [] i h e = absurd (omega arith)
sized_at (s ∷ ss) zero h e = e.0
sized_at (s ∷ ss) (suc i) h e = sized_at ss i (omega arith) e.1

-- each is sized
pub sections_sized : {ss : List Section} {i : ℕ} → Sections ss → i < length ss → Sized (get_or ss i no_section)
sections_sized {ss} {i} s h = sized_at ss i h s.sized

-- ---- how many blocks are due

-- of the sections before section i `count` blocks are due: with those of the others they are all
pub record Counted (ss : List Section) (i count : ℕ) : Type 0 where
  pub few : i ≤ length ss
  pub rest : count + length (due_of (drop i ss)) ≡ length (due_of ss)

-- none is counted
pub counted_start : {ss : List Section} → Counted ss 0 0
counted_start = record { few = omega arith; rest = omega arith }

module _ {ss : List Section} {i count : ℕ} (c : Counted ss i count) where
  -- all are
  pub counted_end : length ss ≤ i → count ≡ length (due_of ss)
  counted_end h = omega (arith, c.rest, ap (λ (l : List Section). length (due_of l)) (drop_of_length-le ss {i = i} h))

  module _ {s : Section} {n : ℕ} (h : i < length ss) (here : s ≡ get_or ss i no_section) (e : n ≡ blocks_of s) where
    next : length (due_of (drop i ss)) ≡ n + length (due_of (drop (i + 1) ss))
    next = rw (add-one i, drop-cons ss i no_section h, e, here) (length-due (get_or ss i no_section) (drop (suc i) ss))

    -- those of section i are no more than all
    pub counted_room : count + n ≤ length (due_of ss)
    counted_room = omega (arith, c.rest, next)

    -- they are counted
    pub counted_turn : Counted ss (i + 1) (count + n)
    counted_turn = record { few = omega arith; rest = omega (arith, c.rest, next) }

-- ---- what is due of a block

-- of one list after another, what stands in the second
slice_get-append : (ds es : List Due) (k : ℕ) → slice_get (ds ++ es) (length ds + k) ≡ slice_get es k
slice_get-append [] es k = rw (zero-add k)
slice_get-append (d ∷ ds) es k = rw (suc-add (length ds) k) (slice_get-append ds es k)

-- what is due of block `number` is due of block `left` of the sections from section i on
pub record Sought (ss : List Section) (number i left : ℕ) : Type 0 where
  pub few : i ≤ length ss
  pub same : slice_get (due_of (drop i ss)) left ≡ slice_get (due_of ss) number

-- the sections are all
pub sought_start : {ss : List Section} {number : ℕ} → Sought ss number 0 number
sought_start = record { few = omega arith; same = refl }

module _ {ss : List Section} {number i left : ℕ} (k : Sought ss number i left) where
  -- there are none
  pub sought_end : length ss ≤ i → None ≡ slice_get (due_of ss) number
  sought_end h = rw (drop_of_length-le ss {i = i} h) at k.same

  module _ {s : Section} {n : ℕ} (h : i < length ss) (here : s ≡ get_or ss i no_section) (e : n ≡ blocks_of s) where
    cut : drop i ss ≡ s ∷ drop (suc i) ss
    cut = rw here (drop-cons ss i no_section h)

    -- the block is one of section i
    pub sought_here : left < n → Some (due s.kind (min s.size (s.bytes - left * s.size))) ≡ slice_get (due_of ss) number
    sought_here l =
        let m : left < blocks_of s = rw e at l in
        let there : left < length (due_of (s ∷ drop (suc i) ss)) = omega (arith, length-due s (drop (suc i) ss)) in
        ap Some (sym (due_here s (drop (suc i) ss) left m))
        ∙ sym (slice_get-get_or (due_of (s ∷ drop (suc i) ss)) left no_due there)
        ∙ rw cut at k.same

    -- it is one of a later section
    pub sought_later : n ≤ left → Sought ss number (i + 1) (left - n)
    sought_later l =
        let after : left ≡ length (section_dues s) + (left - n) = omega (arith, length-dues s.kind s.size (blocks_of s) s.bytes) in
        record {
          few = omega arith;
          same =
              rw (add-one i)
              (sym (slice_get-append (section_dues s) (due_of (drop (suc i) ss)) (left - n)) ∙ ap (slice_get (due_of (s ∷ drop (suc i) ss))) (sym after) ∙ rw cut at k.same);
        }
