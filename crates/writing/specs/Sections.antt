-- A sheet kind by kind: the blocks of each, put down one after the other, are the sheet.
-- Assumes nothing.
use Rattle.std.specs.Prelude.{ℕ, ◌+◌, ◌*◌, ◌≤◌, ◌≡◌, refl, List, [], ◌∷◌, map, length, take}
use Rattle.std.proofs.Common.{arith, sym, ap, ◌∙◌, length-append, take_at}
use Rattle.lists.specs.Sums.{Every}
use Rattle.packing.specs.Numbers.{total}
use Rattle.packing.specs.Put.{put, length-put, put-none, put-put}
use Rattle.meaning.specs.Plan.{edge_length, visit_length, constraint_length}
use Rattle.blocks.specs.declared.Section.{Section}
use Rattle.blocks.specs.Block.{block_length}
use Rattle.blocks.specs.SectionLaws.{length-due}
use Rattle.blocks.specs.Whole.{Whole}
use Rattle.blocks.specs.Layout.{Layout, section_of, all_dues, blocks_in, blocks_at, written_from, Laid, laid_whole, laid_count, laid_written, length_blocks}
use Rattle.blocks.specs.Layout as blocks
use Rattle.form.specs.declared.Form.{Form}
use Rattle.form.specs.declared.Form.TheVariants.{First, Second}
use Rattle.form.specs.declared.Head.{Head}
use Rattle.form.specs.Form.{letters, outside_count, head_widths, head_layout, layouts, turned, head_numbers}
use Rattle.form.proofs.FormLaws.{four_letters, laid_head, laid_layouts, length-turned}
use Rattle.form.specs.Firsts.{HasBlocks}
use Rattle.form.specs.Over.{over, put_front}

-- lists with as many of each as a head says, and the outside areas that the form has
pub record SoMany (f : Form) (h : Head) (workloads outside edges counts visits constraints colouring : List ℕ) : Type 0 where
  pub of_workloads : length workloads ≡ h.regions
  pub of_outside_lem : length outside ≡ outside_count f h.regions
  pub of_edges : length edges ≡ edge_length * h.edges
  pub of_counts : length counts ≡ h.flights
  pub of_visits : length visits ≡ visit_length * h.visits
  pub of_constraints : length constraints ≡ constraint_length * h.constraints
  pub of_colouring : length colouring ≡ h.regions

-- the numbers of each kind
abbrev pub numbers_with : Form → Head → List ℕ → List ℕ → List ℕ → List ℕ → List ℕ → List ℕ → List ℕ → List (List ℕ)
numbers_with f h workloads outside edges counts visits constraints colouring =
    head_numbers f h ∷ workloads ∷ outside ∷ edges ∷ turned constraints ∷ colouring ∷ counts ∷ visits ∷ []

-- ---- the blocks of one kind

-- the head's section is whole records
pub whole_head : (f : Form) {s : Section} → s ≡ section_of (head_layout f) → Whole s (head_widths f) (total (head_widths f))
whole_head f e = laid_whole (laid_head f) e

-- ---- the numbers of a kind, taken from the front of a list

-- the head has as many numbers as widths
pub length_head : (f : Form) (h : Head) → length (head_numbers f h) ≡ 1 * length (head_widths f)
length_head First h = refl
length_head Second h = refl

-- constraints that stand turned at the front of a list are taken from there
pub turned_taken : {out : List ℕ} (xs room : List ℕ) → out ≡ over (turned xs) room → take (length xs) out ≡ turned xs
turned_taken xs room e = rw e (take_at (turned xs) _ (length xs) (length-turned xs))

-- ---- all kinds, one after the other

-- bytes that stay as many still have all blocks
pub has_kept : {f : Form} {h : Head} {sheet sheet' : List ℕ} → HasBlocks f sheet h → length sheet' ≡ length sheet → HasBlocks f sheet' h
has_kept b e = record { limits = b.limits; long = omega (arith, b.long) }

-- from block n on, the numbers of each layout are put down in blocks in turn, which makes `out` of `sheet`
pub data InTurn (f : Form) : ℕ → List Layout → List (List ℕ) → List ℕ → List ℕ → Type 0 where
  all-put : {n : ℕ} {sheet : List ℕ} → InTurn f n [] [] sheet sheet
  put_then : {n : ℕ} {l : Layout} {ls : List Layout} {xs : List ℕ} {xss : List (List ℕ)} {sheet sheet' out : List ℕ}
      → sheet' ≡ put sheet (block_length * n) (blocks_at (letters f) l n xs) → InTurn f (n + blocks_in l) ls xss sheet' out → InTurn f n (l ∷ ls) (xs ∷ xss) sheet out

-- a kind's blocks, and then the others from the block after them
pub put_on : {f : Form} {n r : ℕ} {l : Layout} {ls : List Layout} {xs : List ℕ} {xss : List (List ℕ)} {sheet sheet' out : List ℕ}
    → r ≡ n + blocks_in l → sheet' ≡ put sheet (block_length * n) (blocks_at (letters f) l n xs) → InTurn f r ls xss sheet' out → InTurn f n (l ∷ ls) (xs ∷ xss) sheet out
put_on e p more = put_then p (rw (← e) more)

module _ (f : Form) where
  -- the blocks of all layouts are no longer than is due
  length-written : (n : ℕ) (ls : List Layout) (xss : List (List ℕ)) → Every Laid ls → length (written_from (letters f) n ls xss) ≤ block_length * length (all_dues ls)
  length-written n [] xss laid = omega arith
  length-written n (l ∷ ls) [] laid = omega arith
  length-written n (l ∷ ls) (xs ∷ xss) laid =
      omega (
        arith,
        length-append (blocks_at (letters f) l n xs) (written_from (letters f) (n + blocks_in l) ls xss),
        length_blocks (letters f) (four_letters f) laid.0 n xs,
        length-written (n + blocks_in l) ls xss laid.1,
        length-due (section_of l) (map section_of ls),
      )

  -- put down in turn, they are put down as a whole
  put_in_turn : {n : ℕ} {ls : List Layout} {xss : List (List ℕ)} {sheet out : List ℕ} → Every Laid ls → InTurn f n ls xss sheet out → block_length * (n + length (all_dues ls)) ≤ length sheet
      → out ≡ put sheet (block_length * n) (written_from (letters f) n ls xss)
  put_in_turn {n} {sheet = sheet} laid all-put room = sym (put-none sheet (block_length * n))
  put_in_turn {n} {sheet = sheet} laid (put_then {l = l} {ls} {xs} {xss} e more) room =
      let own = blocks_at (letters f) l n xs in
      let later = written_from (letters f) (n + blocks_in l) ls xss in
      let long = length_blocks (letters f) (four_letters f) laid.0 n xs in
      let count = length-due (section_of l) (map section_of ls) in
      let next : block_length * (n + blocks_in l) ≡ block_length * n + length own = omega arith in
      put_in_turn laid.1 more (omega (arith, ap length e, length-put sheet (block_length * n) own (omega arith)))
      ∙ rw (e, next) (put-put sheet (block_length * n) own later (omega (arith, length-append own later, length-written (n + blocks_in l) ls xss laid.1)))

  -- all kinds put down in turn are the sheet at the front of the lent bytes
  pub sheet_in_turn : {h : Head} {nss : List (List ℕ)} {sheet out : List ℕ} → HasBlocks f sheet h → InTurn f 0 (layouts f h) nss sheet out → out ≡ over (blocks.sheet_of (letters f) (layouts f h) nss) sheet
  sheet_in_turn {h} {sheet = sheet} b t = put_in_turn (laid_layouts f h) t (omega (arith, b.long)) ∙ put_front sheet _
