-- How many blocks sections have, what is due of each, and how many bytes are used.
-- Assumes nothing.
use Rattle.std.specs.Prelude.{ℕ, zero, suc, ◌+◌, ◌-◌, ◌*◌, ◌/◌, ◌≤◌, ◌<◌, min, ◌≡◌, refl, List, [], ◌∷◌, ◌++◌, length, get_or}
use Rattle.std.proofs.Common.{zero-mul, suc-mul, add-mul, le-div_iff_mul-le, arith, sym, ap, ◌∙◌, append-nil, append_assoc, length-append, get_or-append-add}
use Rattle.std.proofs.Math.Nat.{div-eq_of_lt, add-div_right, lt-div-mul-add}
use Rattle.std.proofs.Math.Decide.{dec_lt}
use Rattle.std.proofs.Math.ListN.{get_or-append}
use Rattle.lists.specs.Sums.{Every}
use Rattle.packing.specs.Part.{part, part_middle}
use Rattle.blocks.specs.declared.Section.{Section}
use Rattle.blocks.specs.declared.Due.{Due}
use Rattle.blocks.specs.Block.{most_payload}
use Rattle.blocks.specs.Section.{section, due, no_due, block_count, dues_from, blocks_of, section_dues, due_of, Small, used_all, Sized}

-- ---- how many blocks

-- no bytes, no block
pub count_none : (size : ℕ) → 1 ≤ size → block_count size 0 ≡ 0
count_none size h = div-eq_of_lt (omega arith)

-- a block more than hold all bytes but the last, each of which is full
pub count_some : (size bytes : ℕ) → 1 ≤ size → 1 ≤ bytes → block_count size bytes ≡ (bytes - 1) / size + 1
count_some size bytes h k = let e : bytes + size - 1 ≡ bytes - 1 + size = omega arith in ap (λ (n : ℕ). n / size) e ∙ add-div_right (bytes - 1) h

-- no block, no bytes
pub count-zero : (size bytes : ℕ) → 1 ≤ size → block_count size bytes ≡ 0 → bytes ≡ 0
count-zero size zero h k = refl
count-zero size (suc bytes) h k = absurd (omega (arith, count_some size (suc bytes) h (omega arith)))

-- enough for all bytes
pub count-enough : (size bytes : ℕ) → 1 ≤ size → bytes ≤ block_count size bytes * size
count-enough size bytes h = omega (arith, lt-div-mul-add {a = bytes + size - 1} {b = size} h)

-- one block, and those for the bytes that it does not hold
pub count_first_lem : (size bytes : ℕ) → 1 ≤ size → 1 ≤ bytes → block_count size bytes ≡ suc (block_count size (bytes - size))
count_first_lem size bytes h k = count_some size bytes h k ∙ go (dec_lt bytes size)
  where
    go : Dec (bytes < size) → (bytes - 1) / size + 1 ≡ suc (block_count size (bytes - size))
    go (yes l) =
        let e : bytes - size ≡ 0 = omega arith in
        rw (e, count_none size h, div-eq_of_lt {n = bytes - 1} {m = size} (omega arith))
    go (no l) =
        let e : bytes - size + size - 1 ≡ bytes - 1 = omega arith in
        omega (arith, ap (λ (n : ℕ). n / size) e)

-- before a block there are fewer bytes than all
pub count-before : (size bytes n : ℕ) → 1 ≤ size → n < block_count size bytes → n * size < bytes
count-before size bytes n h k = omega (arith, (le-div_iff_mul-le {k = size} {x = n + 1} {y = bytes + size - 1} h).0 (omega arith), add-mul n 1 size)

-- as many are due as are counted
pub length-dues : (kind size count bytes : ℕ) → length (dues_from kind size count bytes) ≡ count
length-dues kind size zero bytes = refl
length-dues kind size (suc count) bytes = ap suc (length-dues kind size count (bytes - size))

-- ---- what is due of each

-- block n of so many
pub get_or-dues : (kind size count bytes n : ℕ) → n < count → get_or (dues_from kind size count bytes) n no_due ≡ due kind (min size (bytes - n * size))
get_or-dues kind size zero bytes n h = absurd (omega arith)
get_or-dues kind size (suc count) bytes zero h = let e : bytes - 0 * size ≡ bytes = omega (arith, zero-mul size) in rw e
get_or-dues kind size (suc count) bytes (suc n) h =
    let e : bytes - size - n * size ≡ bytes - suc n * size = omega (arith, suc-mul n size) in
    get_or-dues kind size count (bytes - size) n (omega arith) ∙ ap (λ (b : ℕ). due kind (min size b)) e

module _ (s : Section) (ss : List Section) where
  long : length (section_dues s) ≡ blocks_of s
  long = length-dues s.kind s.size (blocks_of s) s.bytes

  -- the blocks of all sections are those of the first, and those of the others
  pub length-due : length (due_of (s ∷ ss)) ≡ blocks_of s + length (due_of ss)
  length-due = length-append (section_dues s) (due_of ss) ∙ rw long

  -- a block of the first section
  pub due_here : (n : ℕ) → n < blocks_of s → get_or (due_of (s ∷ ss)) n no_due ≡ due s.kind (min s.size (s.bytes - n * s.size))
  due_here n h =
      get_or-append (section_dues s) (due_of ss) no_due n (rw long h)
      ∙ get_or-dues s.kind s.size (blocks_of s) s.bytes n h

  -- a block of a later one
  pub due_later : (n : ℕ) → blocks_of s ≤ n → get_or (due_of (s ∷ ss)) n no_due ≡ get_or (due_of ss) (n - blocks_of s) no_due
  due_later n h =
      let e : n ≡ length (section_dues s) + (n - blocks_of s) = omega (arith, long) in
      ap (λ (k : ℕ). get_or (due_of (s ∷ ss)) k no_due) e ∙ get_or-append-add (section_dues s) (due_of ss) (n - blocks_of s) no_due

-- the blocks of some sections, and then of others
due-append : (ss ts : List Section) → due_of (ss ++ ts) ≡ due_of ss ++ due_of ts
due-append [] ts = refl
due-append (s ∷ ss) ts = ap (λ (ds : List Due). section_dues s ++ ds) (due-append ss ts) ∙ sym (append_assoc (section_dues s) (due_of ss) (due_of ts))

-- of the blocks of all sections, those of one among them
pub due-part : (ss : List Section) (s : Section) (ts : List Section) (first next : ℕ) → length (due_of ss) ≡ first → first + blocks_of s ≡ next
    → part first next (due_of (ss ++ (s ∷ ts))) ≡ section_dues s
due-part ss s ts first next h k =
    ap (part first next) (due-append ss (s ∷ ts)) ∙ part_middle (due_of ss) (section_dues s) (due_of ts) first next h (long s ts ∙ omega arith)

-- a section that has bytes: its first block, and those for the bytes that it does not hold
pub dues_first : (kind size bytes : ℕ) → 1 ≤ size → 1 ≤ bytes → section_dues (section kind size bytes) ≡ due kind (min size bytes) ∷ section_dues (section kind size (bytes - size))
dues_first kind size bytes h k = ap (λ (n : ℕ). dues_from kind size n bytes) (count_first_lem size bytes h k)

-- ---- the used counts

small_more : (kind size count bytes : ℕ) (ds : List Due) → size ≤ most_payload → Small ds → Small (dues_from kind size count bytes ++ ds)
small_more kind size zero bytes ds h k = k
small_more kind size (suc count) bytes ds h k = (omega arith, small_more kind size count (bytes - size) ds h k)

-- the blocks of sized sections are used for no more than a payload
pub small_due : (ss : List Section) → Every Sized ss → Small (due_of ss)
small_due [] h = tt
small_due (s ∷ ss) h =
    small_more s.kind s.size (blocks_of s) s.bytes (due_of ss) h.0.high (small_due ss h.1)

-- nor are those of one
pub small_dues : (s : Section) → Sized s → Small (section_dues s)
small_dues s h = rw append-nil at (small_due (s ∷ []) (h, tt))

-- nor is any of them
pub small_at : (ds : List Due) (n : ℕ) → Small ds → (get_or ds n no_due).used ≤ most_payload
small_at [] n h = omega arith
small_at (d ∷ ds) zero h = h.0
small_at (d ∷ ds) (suc n) h = small_at ds n h.1

used_from : (kind size count bytes : ℕ) → bytes ≤ count * size → used_all (dues_from kind size count bytes) ≡ bytes
used_from kind size zero bytes h = omega (arith, zero-mul size)
used_from kind size (suc count) bytes h =
    let e : suc count * size ≡ count * size + size = suc-mul count size in
    omega (arith, used_from kind size count (bytes - size) (omega arith))

-- all bytes of a section are used
pub used_dues : (s : Section) → Sized s → used_all (section_dues s) ≡ s.bytes
used_dues s h = used_from s.kind s.size (blocks_of s) s.bytes (count-enough s.size s.bytes h.low)
