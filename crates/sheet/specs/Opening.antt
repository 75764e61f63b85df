-- Length, head and number of blocks, tested in turn.
-- Assumes nothing.
use Rattle.std.specs.Prelude.{ℕ, ◌/◌, ◌≤◌, ◌≡◌, Bool, true, false, eqb, length}
use Rattle.std.proofs.Common.{arith, sym, ap, ◌∙◌}
use mathlib.Core.List.{List, [], ◌∷◌, ◌++◌}
use borrow.Author.Tests.{eq-eqb, ne_eqb}
use Rattle.packing.specs.Numbers.{total}
use Rattle.refusals.specs.declared.Refusal.{Refusal}
use Rattle.refusals.specs.Table.{Row, whole, refused, none, refusal}
use Rattle.refusals.specs.Passed.{passed, first_given, first_passed, front-given, front_passed, passed_records}
use Rattle.blocks.specs.Block.{block_length, wrong}
use Rattle.blocks.specs.Sheet.{block_at}
use Rattle.form.specs.declared.Form.{Form}
use Rattle.form.specs.declared.Head.{Head}
use Rattle.form.specs.Form.{letters, most_blocks, form_in, head_widths, dues, head_in}
use Rattle.form.specs.FormLaws.{HeadLimits}
use Rattle.form.specs.Refusals.{fault, length_right, head_table, head_fault, open_table}
use Rattle.form.proofs.AcceptedLaws.{passed_head}

-- head numbers that are not refused are within the limits
pub head_limits : (f : Form) {h : Head} {r : Refusal} → r ≡ refusal (head_table f h) → r.code ≡ 0 → HeadLimits f h
head_limits f {h} e z = passed_head f h (passed (head_table f h) tt (ap (λ (r : Refusal). r.code) (sym e) ∙ z))

module _ (f : Form) (sheet : List ℕ) where
  -- a length that is right has room for the head
  pub some_room : {b : Bool} → b ≡ length_right sheet → b ≡ true → block_length ≤ length sheet
  some_room e t = let p = passed_records block_length 1 (most_blocks (form_in sheet)) sheet (rw (← e, t)) in omega (arith, p.1.0)

  -- what is wrong with the head, with the letters and the used count that are due
  pub head_fault_lem : {ls : List ℕ} {used code : ℕ} → ls ≡ letters f → used ≡ total (head_widths f) → code ≡ wrong ls 1 0 used (block_at sheet 0) → code ≡ head_fault f sheet
  head_fault_lem l u e = e ∙ rw (l, u)

  abbrev fault_row : Row
  fault_row = fault (refused (head_fault f sheet) 0)

  abbrev count_row : Row
  count_row = whole 38 (eqb (length sheet / block_length) (length (dues f (head_in f sheet))))

  -- the length is refused
  pub open_short : {b : Bool} → b ≡ length_right sheet → b ≡ false → refused 31 0 ≡ refusal (open_table f sheet)
  unfolding open_table
  open_short e z = first_given (whole 31 (length_right sheet)) _ (rw (← e, z))

  module _ {b : Bool} (e : b ≡ length_right sheet) (t : b ≡ true) where
    open_long : refusal (fault_row ∷ head_table f (head_in f sheet) ++ (count_row ∷ [])) ≡ refusal (open_table f sheet)
    unfolding open_table
    open_long = first_passed (whole 31 (length_right sheet)) _ (rw (← e, t))

    module _ {code : ℕ} (w : code ≡ head_fault f sheet) where
      -- the head is refused as a block
      pub open_faulty : (code ≡ 0 → ⊥) → refused code 0 ≡ refusal (open_table f sheet)
      open_faulty n = ap (λ (k : ℕ). refused k 0) w ∙ first_given fault_row _ (rw (← w, ne_eqb code 0 n)) ∙ open_long

      module _ (z : code ≡ 0) {h : Head} (k : h ≡ head_in f sheet) where
        -- it is not: the head's numbers and the number of blocks settle it
        pub open_head : refusal (head_table f h ++ (count_row ∷ [])) ≡ refusal (open_table f sheet)
        open_head = rw k (first_passed fault_row _ (rw (← w, z)) ∙ open_long)

        module _ {r : Refusal} (g : r ≡ refusal (head_table f h)) where
          -- the head is refused for one of its numbers
          pub open_numbers : (r.code ≡ 0 → ⊥) → r ≡ refusal (open_table f sheet)
          open_numbers n = g ∙ front-given (head_table f h) _ (rw g at n) ∙ open_head

          module _ (y : r.code ≡ 0) {n : ℕ} (m : n ≡ length (dues f h)) where
            open_count : refusal (count_row ∷ []) ≡ refusal (open_table f sheet)
            open_count = front_passed (head_table f h) _ (passed (head_table f h) tt (rw g at y)) ∙ open_head

            -- the number of blocks is refused
            pub open_other : (length sheet / block_length ≡ n → ⊥) → refused 38 0 ≡ refusal (open_table f sheet)
            open_other d = first_given count_row [] (rw (← k, ← m, ne_eqb (length sheet / block_length) n d)) ∙ open_count

            -- nothing is
            pub open_none : length sheet / block_length ≡ n → none ≡ refusal (open_table f sheet)
            unfolding refusal
            open_none d = first_passed count_row [] (rw (← k, ← m, eq-eqb (length sheet / block_length) n d)) ∙ open_count
