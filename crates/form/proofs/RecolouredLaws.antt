-- A sheet in which the colouring's blocks are written anew: every other block is as it is, and it holds the same contents with another colouring.
-- Assumes nothing.
use Rattle.std.specs.Prelude.{ℕ, ◌+◌, ◌≤◌, ◌<◌, ◌≡◌, List, [], ◌∷◌, length, drop}
use Rattle.std.proofs.Common.{arith, sym, ap, ◌∙◌}
use Rattle.lists.specs.Places.{at_next}
use Rattle.packing.specs.Part.{part, length_part, part_rest}
use Rattle.packing.specs.Numbers.{Bytes, Fits, rep}
use Rattle.refusals.specs.Table.{none}
use Rattle.blocks.specs.declared.Due.{Due}
use Rattle.blocks.specs.Block.{block_length}
use Rattle.blocks.specs.Sheet.{block_at, or_later, fault_from, fault_within}
use Rattle.blocks.specs.SheetLaws.{fault_cut, part_sound}
use Rattle.blocks.specs.Layout.{Layout, blocks_in, numbers_at}
use Rattle.blocks.specs.Anew.{fault-same, numbers-same, HasLayout, length_anew, before_anew, after_anew, fault_anew, numbers_anew, anew_same}
use Rattle.form.specs.declared.Form.{Form}
use Rattle.form.specs.declared.Head.{Head}
use Rattle.form.specs.Form.{letters, form_in, workload_layout, outside_layout, edge_layout, constraint_layout, colouring_layout, count_layout, visit_layout, layouts, dues, coloured, head_in, contents_of, contents_in}
use Rattle.form.proofs.FormLaws.{four_letters, laid_ones}
use Rattle.form.specs.Firsts.{workload_first, outside_first, edge_first, constraint_first, colouring_first, count_first, visit_first}
use Rattle.form.proofs.FirstLaws.{after_head, blocks_all, colouring-dues}
use Rattle.form.proofs.Fitting.{fits_each}
use Rattle.form.specs.Refusals.{open_table, later_fault}
use Rattle.form.specs.Accepted.{Opened, Accepted}
use Rattle.form.proofs.Renamed.{SameFirst, form_first, head_of_first, open_first}
use Rattle.form.specs.Recoloured.{ColouringOf, recoloured_sheet}

-- an opened sheet has the colouring's blocks
colouring-place : {f : Form} {sheet : List ℕ} → Opened f sheet → let h = head_in f sheet in HasLayout (letters f) (colouring_layout h) (colouring_first f h) sheet
colouring-place {f} {sheet} o =
    let h = head_in f sheet in
    record { four = four_letters f; laid = laid_ones 5 h.regions; long = omega (arith, o.long, blocks_all f h) }

module _ {f : Form} {sheet : List ℕ} (o : Opened f sheet) (colouring : List ℕ) where
  abbrev h : Head
  h = head_in f sheet

  abbrev new : List ℕ
  new = recoloured_sheet f sheet colouring

  -- it is as long
  pub size_recoloured : length new ≡ length sheet
  size_recoloured = length_anew (colouring-place o) colouring

  -- every block before the colouring's is as it is
  pub before_recoloured : (n : ℕ) → n < colouring_first f h → block_at new n ≡ block_at sheet n
  before_recoloured = before_anew (colouring-place o) colouring

  -- and so is every block after them
  pub after_recoloured : (n : ℕ) → count_first f h ≤ n → block_at new n ≡ block_at sheet n
  after_recoloured = after_anew (colouring-place o) colouring

  -- the head's block is one of them
  first_recoloured : SameFirst sheet new
  first_recoloured = record { size = size_recoloured; block = before_recoloured 0 (omega (arith, after_head f)) }

  -- so its letters are the same
  pub form_recoloured : form_in new ≡ form_in sheet
  form_recoloured = form_first first_recoloured

  -- and its head
  pub head_recoloured : head_in f new ≡ head_in f sheet
  head_recoloured = head_of_first first_recoloured f

  -- and the rows on the length, on the head and on the number of blocks
  pub open_recoloured : open_table f new ≡ open_table f sheet
  open_recoloured = open_first first_recoloured f

  numbers-before : (l : Layout) (n : ℕ) → n + blocks_in l ≤ colouring_first f h → numbers_at l n new ≡ numbers_at l n sheet
  numbers-before l n e = numbers-same l n new sheet (λ k lo hi. before_recoloured k (omega arith))

  numbers_after : (l : Layout) (n : ℕ) → count_first f h ≤ n → numbers_at l n new ≡ numbers_at l n sheet
  numbers_after l n e = numbers-same l n new sheet (λ k lo hi. after_recoloured k (omega arith))

  module _ (c : ColouringOf (contents_in f sheet) colouring) where
    fits : Fits (rep h.regions (1 ∷ [])) colouring
    unfolding contents_in contents_of
    fits = fits_each 1 h.regions colouring c.size (λ i m. omega (arith, (c.sector (i + 1) (omega arith)).high, at_next colouring i, o.limits.sectors.high))

    numbers-own : numbers_at (colouring_layout h) (colouring_first f h) new ≡ colouring
    numbers-own = numbers_anew (colouring-place o) colouring fits

    -- it holds the same contents with that colouring
    pub contents_recoloured : contents_in f new ≡ coloured (contents_in f sheet) colouring
    unfolding contents_in contents_of layouts
    contents_recoloured =
        rw (
          head_recoloured,
          numbers-before (workload_layout h) (workload_first f) (omega arith),
          numbers-before (outside_layout f h) (outside_first f h) (omega arith),
          numbers-before (edge_layout h) (edge_first f h) (omega arith),
          numbers-before (constraint_layout h) (constraint_first f h) (omega arith),
          numbers-own,
          numbers_after (count_layout h) (count_first f h) (omega arith),
          numbers_after (visit_layout h) (visit_first f h) (omega arith),
        )

    -- and of its later blocks the first that is refused is one of those before the colouring's, or else of those after them
    pub later_recoloured : let ds = dues f h in
        let first = fault_within (letters f) ds sheet 1 (colouring_first f h) in
        later_fault f h new ≡ or_later first.code first.place (fault_within (letters f) ds sheet (count_first f h) (length ds))
    later_recoloured =
        let ds = dues f h in
        let c = colouring_first f h in
        let e = count_first f h in
        let n = length ds in
        let one : 1 ≤ c = omega (arith, after_head f) in
        let all : e ≤ n = omega (arith, blocks_all f h) in
        let before = fault-same (letters f) 1 (part 1 c ds) new sheet (λ k lo hi. before_recoloured k (omega (arith, length_part 1 c ds one (omega arith)))) in
        let own : fault_within (letters f) ds new c e ≡ none = rw (colouring-dues f h) (fault_anew (colouring-place o) colouring fits) in
        let after = fault-same (letters f) e (part e n ds) new sheet (λ k lo hi. after_recoloured k lo) in
        ap (λ (l : List Due). fault_from (letters f) 1 l (drop block_length new)) (sym (part_rest 1 n ds (omega arith)))
        ∙ fault_cut (letters f) ds new 1 c n one (omega arith) (omega arith)
        ∙ rw (fault_cut (letters f) ds new c e n (omega arith) all (omega arith), before, own, after)

-- an accepted sheet with its own colouring written anew is as it is
pub recoloured_same : {f : Form} {sheet : List ℕ} → Accepted f sheet → Bytes sheet → recoloured_sheet f sheet (contents_in f sheet).colouring ≡ sheet
unfolding contents_in contents_of layouts
recoloured_same {f} {sheet} a b =
    let h = head_in f sheet in
    let c = colouring_first f h in
    let all = blocks_all f h in
    anew_same (colouring-place a.opened) b
    (rw (colouring-dues f h) at (part_sound (letters f) (dues f h) sheet a.sound c (count_first f h) (omega arith) (omega arith)))
