-- Document 01, "The sheet": a whole sheet is the numbers of each kind in turn. Writing and reading it undo each other.
-- Assumes nothing.
use Rattle.std.specs.Prelude.{ℕ, ◌+◌, ◌*◌, ◌/◌, ◌%◌, ◌≤◌, ◌≡◌, refl, List, [], ◌∷◌, ◌++◌, map, length, drop}
use Rattle.std.proofs.Math.Nat.{mul-mod_left}
use Rattle.std.proofs.Common.{mul-div_cancel, arith, sym, ap, ap₂, ◌∙◌, append_assoc, length-append, length-drop, take-append-drop, drop_of_length-le, drop_at, drop-drop}
use Rattle.lists.specs.Sums.{Every}
use Rattle.lists.specs.SumLaws.{every_turn, every_map}
use Rattle.packing.specs.Numbers.{Bytes, Fits, Widths, pack, unpack, total, rep, bytes_drop, length-unpack, length-pack, length_fits, unpack-pack, pack-unpack}
use Rattle.packing.specs.Cuts.{total-rep, length-rep}
use Rattle.refusals.specs.declared.Refusal.{Refusal}
use Rattle.refusals.specs.Table.{none}
use Rattle.blocks.specs.declared.Section.{Section}
use Rattle.blocks.specs.declared.Due.{Due}
use Rattle.blocks.specs.Block.{block_length, letters_length, most_payload}
use Rattle.blocks.specs.Section.{section, blocks_of, section_dues, due_of, Small, used_all, Sized}
use Rattle.blocks.specs.SectionLaws.{length-dues, small_due, small_dues, used_dues}
use Rattle.blocks.specs.Sheet.{sheet_from, stream_from, fault_from}
use Rattle.blocks.specs.SheetLaws.{later_none, fault-append, length_stream, bytes_stream, length_sheet, sheet_is, sheet_right}
use Rattle.blocks.specs.Whole.{Whole}

-- how the numbers of one kind are laid out: the blocks' kind, the bytes that a full block holds, the widths of a record's numbers, and how many records there are
pub record Layout : Type 0 where
  pub kind : ℕ
  pub size : ℕ
  pub widths : List ℕ
  pub count : ℕ

-- the section that they fill
abbrev pub section_of : Layout → Section
section_of l = section l.kind l.size (l.count * total l.widths)

-- the blocks that are due of all
abbrev pub all_dues : List Layout → List Due
all_dues ls = due_of (map section_of ls)

-- how many blocks it has
abbrev pub blocks_in : Layout → ℕ
blocks_in l = blocks_of (section_of l)

-- numbers of a layout, written from block n on
abbrev pub blocks_at : List ℕ → Layout → ℕ → List ℕ → List ℕ
blocks_at letters l n xs = sheet_from letters n (section_dues (section_of l)) (pack (rep l.count l.widths) xs)

-- the numbers of each layout in turn, written from block n on
abbrev pub written_from : List ℕ → ℕ → List Layout → List (List ℕ) → List ℕ
written_from letters n [] xss = []
written_from letters n (l ∷ ls) [] = []
written_from letters n (l ∷ ls) (xs ∷ xss) = blocks_at letters l n xs ++ written_from letters (n + blocks_in l) ls xss

-- the numbers of a layout, read from block n of a sheet on
abbrev pub numbers_at : Layout → ℕ → List ℕ → List ℕ
numbers_at l n sheet = unpack (rep l.count l.widths) (stream_from (section_dues (section_of l)) (drop (block_length * n) sheet))

-- the numbers of each layout in turn, read from block n of a sheet on
abbrev pub read_from : ℕ → List Layout → List ℕ → List (List ℕ)
read_from n [] sheet = []
read_from n (l ∷ ls) sheet = numbers_at l n sheet ∷ read_from (n + blocks_in l) ls sheet

-- there are numbers for each layout, and they fit
abbrev pub AllFit : List Layout → List (List ℕ) → Type 0
AllFit [] [] = Unit {0}
AllFit [] (xs ∷ xss) = ⊥
AllFit (l ∷ ls) [] = ⊥
AllFit (l ∷ ls) (xs ∷ xss) = Fits (rep l.count l.widths) xs × AllFit ls xss

-- a full block holds whole records, some of them, and no more than a payload
pub record Laid (l : Layout) : Type 0 where
  pub low : 1 ≤ l.size
  pub high : l.size ≤ most_payload
  pub widths : Widths l.widths
  pub some : 1 ≤ total l.widths
  pub full : l.size % total l.widths ≡ 0

module _ {l : Layout} (p : Laid l) where
  -- then the section is sized
  pub laid_sized : Sized (section_of l)
  laid_sized = record { low = p.low; high = p.high }

  -- and in whole records
  pub laid_whole : {s : Section} → s ≡ section_of l → Whole s l.widths (total l.widths)
  laid_whole e =
      rw e
      (record {
        sized = laid_sized;
        widths = p.widths;
        sum = refl;
        some = p.some;
        full = p.full;
        all = mul-mod_left l.count (total l.widths);
      })

  -- as many as there are
  pub laid_count : {s : Section} → s ≡ section_of l → s.bytes / total l.widths ≡ l.count
  laid_count e = rw e (mul-div_cancel l.count p.some)

  -- the section's records, as they are read
  pub laid_read : {s : Section} → s ≡ section_of l → (n : ℕ) (sheet : List ℕ)
      → unpack (rep (s.bytes / total l.widths) l.widths) (stream_from (section_dues s) (drop (block_length * n) sheet)) ≡ numbers_at l n sheet
  laid_read e n sheet = rw (laid_count e, e)

  -- and as they are written
  pub laid_written : {s : Section} → s ≡ section_of l → (letters : List ℕ) (n : ℕ) (xs : List ℕ)
      → sheet_from letters n (section_dues s) (pack (rep (s.bytes / total l.widths) l.widths) xs) ≡ blocks_at letters l n xs
  laid_written e letters n xs = rw (laid_count e, e)

  -- it has as many blocks as are counted
  pub length-own : length (section_dues (section_of l)) ≡ blocks_in l
  length-own = length-dues l.kind l.size (blocks_in l) (section_of l).bytes

  -- its bytes are those that its blocks are used for
  pub used_own : total (rep l.count l.widths) ≡ used_all (section_dues (section_of l))
  used_own = total-rep l.count l.widths ∙ sym (used_dues (section_of l) laid_sized)

  -- what comes after its blocks
  pub next-drop : (n : ℕ) (sheet : List ℕ) → drop (block_length * length (section_dues (section_of l))) (drop (block_length * n) sheet) ≡ drop (block_length * (n + blocks_in l)) sheet
  next-drop n sheet =
      let own = section_dues (section_of l) in
      let e : block_length * n + block_length * length own ≡ block_length * (n + blocks_in l) = omega (arith, length-own) in
      drop-drop (block_length * length own) (block_length * n) sheet ∙ ap (λ (k : ℕ). drop k sheet) e

-- the sections are sized
pub laid_sections : (ls : List Layout) → Every Laid ls → Every Sized (map section_of ls)
laid_sections ls laid = every_map Sized section_of ls (every_turn (λ l. laid_sized) ls laid)

-- so no block is used for more than a payload
pub laid_small : (ls : List Layout) → Every Laid ls → Small (all_dues ls)
laid_small ls laid = small_due (map section_of ls) (laid_sections ls laid)

-- as many numbers are read as the records have
pub length-numbers : (l : Layout) (n : ℕ) (sheet : List ℕ) → length (numbers_at l n sheet) ≡ l.count * length l.widths
length-numbers l n sheet = length-unpack (rep l.count l.widths) _ ∙ length-rep l.count l.widths

module _ (letters : List ℕ) (four : length letters ≡ letters_length) where
  -- what is written of a layout is as long as its blocks are many
  pub length_blocks : {l : Layout} → Laid l → (n : ℕ) (xs : List ℕ) → length (blocks_at letters l n xs) ≡ block_length * blocks_in l
  length_blocks {l} laid n xs =
      length_sheet letters four n (section_dues (section_of l)) (pack (rep l.count l.widths) xs) (small_dues (section_of l) (laid_sized laid)) ∙ rw (length-own laid)

  -- blocks of which none is refused are what is written of the numbers that are read from them
  pub written_read : (n : ℕ) (ls : List Layout) (sheet : List ℕ) → Every Laid ls → Bytes sheet → length sheet ≡ block_length * (n + length (all_dues ls))
      → (fault_from letters n (all_dues ls) (drop (block_length * n) sheet)).code ≡ 0 → written_from letters n ls (read_from n ls sheet) ≡ drop (block_length * n) sheet
  written_read n [] sheet laid b k e = sym (drop_of_length-le sheet {i = block_length * n} (omega arith))
  written_read n (l ∷ ls) sheet laid b k e =
      let rest = drop (block_length * n) sheet in
      let own = section_dues (section_of l) in
      let ws = rep l.count l.widths in
      let stream = stream_from own rest in
      let small = small_dues (section_of l) (laid_sized laid.0) in
      let both = length-append own (all_dues ls) in
      let room : block_length * length own ≤ length rest = omega (arith, length-drop (block_length * n) sheet) in
      let f = later_none _ _ _ (rw (fault-append letters n own (all_dues ls) rest) at e) in
      let long : length stream ≡ total ws = length_stream own rest small room ∙ sym (used_own laid.0) in
      let m = length-own laid.0 in
      rw (
        pack-unpack ws stream long (bytes_stream own rest (bytes_drop (block_length * n) sheet b)),
        sheet_is letters four n own rest small room f.0,
        written_read (n + blocks_in l) ls sheet laid.1 b (omega arith) (rw (next-drop laid.0 n sheet, m) at f.1),
        ← next-drop laid.0 n sheet,
      )
      (take-append-drop (block_length * length own) rest)

  -- what is written of numbers that fit has as many blocks as are due
  pub length-written : (n : ℕ) (ls : List Layout) (xss : List (List ℕ)) → Every Laid ls → AllFit ls xss → length (written_from letters n ls xss) ≡ block_length * length (all_dues ls)
  length-written n [] [] laid fits = refl
  length-written n (l ∷ ls) (xs ∷ xss) laid fits =
      let own = section_dues (section_of l) in
      let stream = pack (rep l.count l.widths) xs in
      omega (
        arith,
        length-append (sheet_from letters n own stream) (written_from letters (n + blocks_in l) ls xss),
        length_sheet letters four n own stream (small_dues (section_of l) (laid_sized laid.0)),
        length-written (n + blocks_in l) ls xss laid.1 fits.1,
        length-append own (all_dues ls),
      )
  length-written n [] (xs ∷ xss) laid fits = elim fits [ ]
  length-written n (l ∷ ls) [] laid fits = elim fits [ ]

  -- none of them is refused, and after n other blocks they read as these numbers
  pub read-written : (n : ℕ) (ls : List Layout) (xss : List (List ℕ)) (front : List ℕ) → Every Laid ls → AllFit ls xss → length front ≡ block_length * n
      → (fault_from letters n (all_dues ls) (written_from letters n ls xss) ≡ none) × (read_from n ls (front ++ written_from letters n ls xss) ≡ xss)
  read-written n [] [] front laid fits k = (refl, refl)
  read-written n (l ∷ ls) (xs ∷ xss) front laid fits k =
      let own = section_dues (section_of l) in
      let ws = rep l.count l.widths in
      let small = small_dues (section_of l) (laid_sized laid.0) in
      let enough : length ws ≤ length xs = omega (arith, length_fits ws xs fits.0) in
      let blocks = sheet_from letters n own (pack ws xs) in
      let more = written_from letters (n + blocks_in l) ls xss in
      let size : length blocks ≡ block_length * length own = length_sheet letters four n own (pack ws xs) small in
      let m = length-own laid.0 in
      let r = sheet_right letters four n own (pack ws xs) more small (length-pack ws xs enough ∙ used_own laid.0) in
      let ih = read-written (n + blocks_in l) ls xss (front ++ blocks) laid.1 fits.1 (length-append front blocks ∙ omega arith) in (
        fault-append letters n own (all_dues ls) (blocks ++ more) ∙ rw (r.0, drop_at blocks more (block_length * length own) size, m) ih.0,
        ap₂ (λ (ys : List ℕ) (yss : List (List ℕ)). ys ∷ yss)
            (rw (drop_at front (blocks ++ more) (block_length * n) k, r.1) (unpack-pack ws xs fits.0))
            (rw (← append_assoc front blocks more) ih.1),
      )
  read-written n [] (xs ∷ xss) front laid fits k = elim fits [ ]
  read-written n (l ∷ ls) [] front laid fits k = elim fits [ ]

-- ---- the whole sheet

-- the sheet of the numbers of each layout
abbrev pub sheet_of : List ℕ → List Layout → List (List ℕ) → List ℕ
sheet_of letters ls xss = written_from letters 0 ls xss

-- the numbers of each layout that a sheet has
abbrev pub numbers_of : List Layout → List ℕ → List (List ℕ)
numbers_of ls sheet = read_from 0 ls sheet

-- the first block of a sheet that is refused
abbrev pub fault_of : List ℕ → List Layout → List ℕ → Refusal
fault_of letters ls sheet = fault_from letters 0 (all_dues ls) sheet

module _ (letters : List ℕ) (four : length letters ≡ letters_length) (ls : List Layout) (laid : Every Laid ls) where
  -- a sheet as long as is due, of which no block is refused, is the sheet of its numbers
  pub sheet_numbers : (sheet : List ℕ) → Bytes sheet → length sheet ≡ block_length * length (all_dues ls) → (fault_of letters ls sheet).code ≡ 0
      → sheet_of letters ls (numbers_of ls sheet) ≡ sheet
  sheet_numbers sheet b k e = written_read letters four 0 ls sheet laid b (omega arith) e

  -- the sheet of numbers that fit is as long as is due, no block of it is refused, and its numbers are these
  pub numbers_sheet : (xss : List (List ℕ)) → AllFit ls xss
      → (length (sheet_of letters ls xss) ≡ block_length * length (all_dues ls)) × ((fault_of letters ls (sheet_of letters ls xss) ≡ none) × (numbers_of ls (sheet_of letters ls xss) ≡ xss))
  numbers_sheet xss fits = (length-written letters four 0 ls xss laid fits, read-written letters four 0 ls xss [] laid fits refl)
