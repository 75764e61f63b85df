-- Wrong answers that the promises of the reader's calls rule out, where the lent sheet has sheet A's bytes. The block function has the promise of `part` and `show`.
-- Assumes nothing.
use Rattle.std.specs.Prelude.{ℕ, ◌+◌, ◌≡◌, refl, true, false, not, List}
use Rattle.std.proofs.Common.{arith, sym, ap, ◌∙◌, true≢false}
use Rattle.std.proofs.lemmas.Bool.{false≢true}
use Rattle.std.specs.Borrow.{Bor}
use Rattle.refusals.specs.Table.{refusal}
use Rattle.blocks.specs.Block.{header, body, block_of, first_wrong, wrong}
use Rattle.blocks.specs.Shown.{Extent, no_part, payload_part, PartOf}
use Rattle.form.specs.Form.{form_in, layouts, turned, numbers, sheet_of, head_in}
use Rattle.form.specs.Refusals.{open_table}
use Rattle.form.proofs.SheetA.{sheet_a}
use Rattle.sheet.specs.Showing.{there, past_end, next_place, sound, shown_part, shown, Promise}
use Rattle.reader.specs.declared.Reader.{Reader}
use Rattle.reader.specs.Kept.{reader_at, Keeps}
use Rattle.ruled_out.specs.Bytes.{bytes_a}

-- ---- what sheet A has

-- there is a block 0
first_there : there bytes_a 0 ≡ true
unfolding sheet_a sheet_of form_in head_in numbers layouts turned header body block_of open_table refusal wrong first_wrong there
first_there = refl

-- there is a block 4
last-there : there bytes_a 4 ≡ true
unfolding sheet_a sheet_of form_in head_in numbers layouts turned header body block_of open_table refusal wrong first_wrong there
last-there = refl

-- there is no block 5
none-there : there bytes_a 5 ≡ false
unfolding sheet_a sheet_of form_in head_in numbers layouts turned header body block_of open_table refusal wrong first_wrong there
none-there = refl

-- block 1 shows five workloads of four bytes
workloads_part : shown_part bytes_a 1 ≡ payload_part 1 20
unfolding sheet_a sheet_of form_in head_in numbers layouts turned header body block_of open_table refusal wrong first_wrong there sound shown_part
workloads_part = refl

-- block 5 shows nothing
none-part : shown_part bytes_a 5 ≡ no_part
unfolding shown_part
none-part = rw none-there

-- after block 0 comes block 1
after_first : next_place bytes_a 0 ≡ 1
unfolding next_place
after_first = rw first_there

-- past the end a reader stays
after_none : next_place bytes_a 5 ≡ 5
unfolding next_place
after_none = rw none-there

-- ---- `opened`, `place` and `moved`, on any sheet

module _ (lent : Bor (List ℕ)) where
  -- `opened` hands back no reader at block 1
  opened_at_1 : Keeps lent 0 (reader_at lent 1) → ⊥
  opened_at_1 k = omega (arith, k.place)

  -- nor one that keeps other memory, even with the same bytes
  opened_elsewhere : (other : Bor (List ℕ)) → (other.ref_ptr ≡ lent.ref_ptr → ⊥) → Keeps lent 0 (reader_at other 0) → ⊥
  opened_elsewhere other apart k = apart (ap (λ (s : Bor (List ℕ)). s.ref_ptr) k.sheet)

  -- `place` does not count from 1
  place-from_1 : (r : Reader) → r.place + 1 ≡ r.place → ⊥
  place-from_1 r e = omega (arith, e)

  -- nor does it answer 0 for a reader at block 4
  place_always_0 : 0 ≡ (reader_at lent 4).place → ⊥
  place_always_0 e = omega (arith, e)

  -- `moved` does not leave a reader at block 0 that is to go to block 4
  moved_stays : Keeps lent 4 (reader_at lent 0) → ⊥
  moved_stays k = omega (arith, k.place)

  -- nor does it stop at block 4 on the way to block 9
  moved_stops : Keeps lent 9 (reader_at lent 4) → ⊥
  moved_stops k = omega (arith, k.place)

-- ---- `next`, `past_end`, `part` and `show`, on sheet A

module _ (lent : Bor (List ℕ)) (a : lent.now ≡ bytes_a) where
  -- `next` does not skip block 1
  next_skips : Keeps lent (next_place lent.now 0) (reader_at lent 2) → ⊥
  next_skips k = omega (arith, k.place ∙ ap (λ (s : List ℕ). next_place s 0) a ∙ after_first)

  -- nor does it go on past the end
  next_goes_on : Keeps lent (next_place lent.now 5) (reader_at lent 6) → ⊥
  next_goes_on k = omega (arith, k.place ∙ ap (λ (s : List ℕ). next_place s 5) a ∙ after_none)

  -- `past_end` is not true at the last block
  end_at-last : true ≡ past_end lent.now 4 → ⊥
  end_at-last e = true≢false (e ∙ ap (λ (s : List ℕ). past_end s 4) a ∙ ap not last-there)

  -- nor is it false past it
  end_nowhere : false ≡ past_end lent.now 5 → ⊥
  end_nowhere e = false≢true (e ∙ ap (λ (s : List ℕ). past_end s 5) a ∙ ap not none-there)

  -- a part that is promised of block n starts where that block's does
  starts : (n : ℕ) {e : Extent} {p : Bor (List ℕ)} → PartOf lent e p → Promise lent n p → e.from ≡ (shown_part bytes_a n).from
  starts n {e} q k =
      let same : e.from + lent.ref_ptr.1 ≡ (shown_part lent.now n).from + lent.ref_ptr.1 = ap (λ (x : ℕ × ℕ). x.1) (sym q.lies ∙ k.part.lies) in
      omega (arith, same, ap (λ (s : List ℕ). (shown_part s n).from) a)

  -- `part` does not show the payload of block 0 for a reader at block 1
  part_of_head : {p : Bor (List ℕ)} → PartOf lent (payload_part 0 8) p → Promise lent 1 p → ⊥
  part_of_head q k = omega (arith, starts 1 q k ∙ ap (λ (e : Extent). e.from) workloads_part)

  -- nor the right bytes in other memory
  part_copied : (block offset : ℕ) → (block ≡ lent.ref_ptr.0 → ⊥) → Promise lent 1 (record { ref_ptr = (block, offset); now = shown bytes_a 1 }) → ⊥
  part_copied block offset apart k = apart (ap (λ (x : ℕ × ℕ). x.0) k.part.lies)

  -- `show` does not show the header of block 1 with its payload
  show_with_header : {p : Bor (List ℕ)} → PartOf lent (record { from = 512; length = 30 }) p → Promise lent 1 p → ⊥
  show_with_header q k = omega (arith, starts 1 q k ∙ ap (λ (e : Extent). e.from) workloads_part)

  -- nor the payload of block 4 for block 5
  show_last : {p : Bor (List ℕ)} → PartOf lent (payload_part 4 5) p → Promise lent 5 p → ⊥
  show_last q k = omega (arith, starts 5 q k ∙ ap (λ (e : Extent). e.from) none-part)
