-- Document 02, C-18: sheets that differ in the names of sectors alone.
-- Assumes nothing.
use Rattle.std.specs.Prelude.{ℕ, ◌≡◌, refl, length, drop}
use Rattle.std.proofs.Common.{arith, ◌∙◌}
use Rattle.std.proofs.Math.Path.{sym, ap}
use mathlib.Core.List.{List, map-id}
use Rattle.std.proofs.Math.ListN.{take}
use Rattle.std.proofs.Math.Seq.{take-take}
use Rattle.lists.specs.Sums.{Every}
use Rattle.packing.specs.Numbers.{unpack, total}
use Rattle.meaning.specs.Names.{Renaming, name, renamed}
use Rattle.meaning.proofs.NameLaws.{name-zero}
use Rattle.refusals.specs.declared.Refusal.{Refusal}
use Rattle.refusals.specs.Table.{refusal, plan_refusal}
use Rattle.refusals.specs.Passed.{front-given}
use Rattle.refusals.specs.Renamed.{plan_renamed}
use Rattle.blocks.specs.declared.Due.{Due}
use Rattle.blocks.specs.Block.{block_length, letters_length, payload_of}
use Rattle.blocks.specs.Layout.{numbers_of}
use Rattle.blocks.specs.Mapped.{MappedFrom, on_kind, mapped_all, Single, fault_mapped, read_mapped, written_mapped}
use Rattle.form.specs.declared.Form.{Form}
use Rattle.form.specs.declared.Form.TheVariants.{First, Second}
use Rattle.form.specs.declared.Head.{Head}
use Rattle.form.specs.Form.{letters, kind_count, form_in, Contents, head_of, carried, coloured, head_widths, colouring_layout, layouts, dues, numbers, sheet_of, head_from, head_in, contents_of, contents_in}
use Rattle.form.proofs.FormLaws.{four_letters, laid_layouts, head_first}
use Rattle.form.proofs.ContentsLaws.{valid_contents}
use Rattle.form.proofs.Fitting.{fits_numbers}
use Rattle.form.specs.Refusals.{contents_table, contents_refusal, open_table, held_table, later_fault, sheet_refusal}
use Rattle.form.proofs.RoundTrip.{length-written, head_written}

-- contents in the new names
abbrev pub renamed_contents : (ℕ → ℕ) → Contents → Contents
renamed_contents p k = coloured k (renamed k.S p k.colouring)

-- of the blocks that are due by a head, those of the colouring are in the new names, and every other is the same bytes
abbrev pub RenamedBlocks : (ℕ → ℕ) → Head → List Due → List ℕ → List ℕ → Type 0
RenamedBlocks p h ds a b = MappedFrom (name h.sectors p) (colouring_layout h).kind ds a b

-- sheet b is as long as sheet a and, taken for sheets of one form, differs from it in the names of sectors alone, in all blocks that are due by the head of a
pub record RenamedSheet (f : Form) (p : ℕ → ℕ) (a b : List ℕ) : Type 0 where
  pub size : length b ≡ length a
  pub blocks : RenamedBlocks p (head_in f a) (dues f (head_in f a)) a b

-- two sheets have as many bytes and the same first block
pub record SameFirst (a b : List ℕ) : Type 0 where
  pub size : length b ≡ length a
  pub block : take block_length b ≡ take block_length a

-- ---- contents

-- the call's rows on them are the same in the new names
pub table_renamed : (f : Form) (k : Contents) {p : ℕ → ℕ} → Renaming k.S p → contents_table f (renamed_contents p k) ≡ contents_table f k
table_renamed f k = plan_renamed (kind_count f) k.R k.S k.workloads k.outside k.edges k.counts k.visits k.constraints k.colouring

-- so they are refused alike
pub refused-renamed : (f : Form) (k : Contents) {p : ℕ → ℕ} → Renaming k.S p → contents_refusal f (renamed_contents p k) ≡ contents_refusal f k
unfolding plan_refusal
refused-renamed f k names = ap refusal (table_renamed f k names)

-- a form carries of them what it carries, in the new names
pub carried-renamed : (f : Form) (k : Contents) (p : ℕ → ℕ) → carried f (renamed_contents p k) ≡ renamed_contents p (carried f k)
carried-renamed First k p = refl
carried-renamed Second k p = refl

-- a form that carries them whole does so in the new names
pub whole-renamed : (f : Form) (k : Contents) (p : ℕ → ℕ) → carried f k ≡ k → carried f (renamed_contents p k) ≡ renamed_contents p k
whole-renamed f k p whole = carried-renamed f k p ∙ ap (renamed_contents p) whole

-- of the colouring each number has one byte
single_layouts : (f : Form) (h : Head) → Every (Single (colouring_layout h).kind) (layouts f h)
unfolding layouts
single_layouts f h = (
  λ e. absurd (omega arith),
  (λ e. absurd (omega arith), (λ e. absurd (omega arith), (λ e. absurd (omega arith), (λ e. absurd (omega arith), (λ e. refl, (λ e. absurd (omega arith), (λ e. absurd (omega arith), tt))))))),
)

-- ---- two sheets that are read

-- numbers of which those of the colouring are in the new names make contents in the new names
contents_mapped : (p : ℕ → ℕ) (f : Form) (h : Head) (sheet : List ℕ)
    → contents_of f h (mapped_all (name h.sectors p) (colouring_layout h).kind (layouts f h) (numbers_of (layouts f h) sheet)) ≡ renamed_contents p (contents_of f h (numbers_of (layouts f h) sheet))
unfolding contents_of layouts on_kind
contents_mapped p f h sheet = simp map-id

module _ {a b : List ℕ} (s : SameFirst a b) where
  -- they have the same letters
  pub form_first : form_in b ≡ form_in a
  unfolding form_in
  form_first =
      let e : take letters_length b ≡ take letters_length a =
      sym (take-take letters_length block_length b (omega arith)) ∙ ap (take letters_length) s.block ∙ take-take letters_length block_length a (omega arith) in
      rw e

  -- and the same head
  pub head_of_first : (f : Form) → head_in f b ≡ head_in f a
  unfolding head_in
  head_of_first f = ap (λ (block : List ℕ). head_from (unpack (head_widths f) (payload_of (total (head_widths f)) block))) s.block

  -- the rows on the length, on the head and on the number of blocks are the same
  pub open_first : (f : Form) → open_table f b ≡ open_table f a
  unfolding open_table
  open_first f = rw (form_first, s.size, s.block, head_of_first f)

  -- so where these refuse the first, the two are refused alike, whatever stands in their other blocks
  pub refused_first : (f : Form) → ((refusal (open_table f a)).code ≡ 0 → ⊥) → (sheet_refusal f b ≡ sheet_refusal f a) × ((sheet_refusal f a).code ≡ 0 → ⊥)
  unfolding sheet_refusal
  refused_first f n =
      let o = open_first f in
      let x = front-given (open_table f a) (held_table f a) n in
      (sym (front-given (open_table f b) (held_table f b) (rw o n)) ∙ ap refusal o ∙ x, λ z. n (ap (λ (r : Refusal). r.code) x ∙ z))

module _ {f : Form} {p : ℕ → ℕ} {a b : List ℕ} (s : RenamedSheet f p a b) where
  -- the head of the first
  abbrev h : Head
  h = head_in f a

  -- the block of the head is the same, and of the others those of the colouring are in the new names
  cut : (take block_length b ≡ take block_length a) × RenamedBlocks p h (drop 1 (dues f h)) (drop block_length a) (drop block_length b)
  cut = let m = rw (head_first f h) at s.blocks in (m.0.other (λ e. omega arith), m.1)

  -- so they have the same first block
  pub same_first : SameFirst a b
  same_first = record { size = s.size; block = cut.0 }

  -- and the same head
  pub head_renamed : head_in f b ≡ head_in f a
  head_renamed = head_of_first same_first f

  -- they hold the same contents but for names
  pub contents-renamed : contents_in f b ≡ renamed_contents p (contents_in f a)
  unfolding contents_in
  contents-renamed =
      let e = read_mapped (name h.sectors p) (colouring_layout h).kind (name-zero h.sectors p) 0 (layouts f h) a b (laid_layouts f h) (single_layouts f h) s.blocks in
      rw (head_renamed, e) (contents_mapped p f h a)

  -- the rows on the length, on the head and on the number of blocks are the same
  pub open_renamed : open_table f b ≡ open_table f a
  open_renamed = open_first same_first f

  -- the same of the later blocks is the first that is refused
  later_renamed : later_fault f h b ≡ later_fault f h a
  later_renamed = fault_mapped (name h.sectors p) (colouring_layout h).kind (letters f) 1 (drop 1 (dues f h)) (drop block_length a) (drop block_length b) cut.1

  -- so the rows on the later blocks and on what they hold are the same
  pub held-renamed : Renaming (contents_in f a).S p → held_table f b ≡ held_table f a
  unfolding held_table
  held-renamed names = rw (head_renamed, later_renamed, contents-renamed, refused-renamed f (contents_in f a) names)

-- ---- contents that are written in both names

module _ (f : Form) (k : Contents) {p : ℕ → ℕ} (names : Renaming k.S p) (whole : carried f k ≡ k) (z : (contents_refusal f k).code ≡ 0) where
  -- they are not refused in the new names
  none-renamed : (contents_refusal f (renamed_contents p k)).code ≡ 0
  none-renamed = rw (refused-renamed f k names) z

  -- the numbers of the colouring are in the new names, all others are the same
  numbers-renamed : mapped_all (name k.S p) (colouring_layout (head_of k)).kind (layouts f (head_of k)) (numbers f k) ≡ numbers f (renamed_contents p k)
  unfolding numbers layouts on_kind
  numbers-renamed = simp map-id

  -- and so it is with their blocks
  blocks_renamed : RenamedBlocks p (head_of k) (dues f (head_of k)) (sheet_of f k) (sheet_of f (renamed_contents p k))
  unfolding sheet_of
  blocks_renamed =
      let h = head_of k in
      let fits = fits_numbers f k whole (valid_contents f k z) in
      let fits-new = fits_numbers f (renamed_contents p k) (whole-renamed f k p whole) (valid_contents f (renamed_contents p k) none-renamed) in
      rw numbers-renamed at (written_mapped (name k.S p) (colouring_layout h).kind (letters f) (four_letters f) 0 (layouts f h) (numbers f k) (laid_layouts f h) (single_layouts f h) fits (rw numbers-renamed fits-new))

  -- two offices that write the same plan, each by its own names, write two sheets that differ in the names of sectors alone
  pub written-renamed : RenamedSheet f p (sheet_of f k) (sheet_of f (renamed_contents p k))
  written-renamed =
      record {
        size = length-written f (renamed_contents p k) (whole-renamed f k p whole) none-renamed ∙ sym (length-written f k whole z);
        blocks = rw (head_written f k whole z) blocks_renamed;
      }
