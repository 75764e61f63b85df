-- Blocks cut in two, and the round trip: blocks with no fault are the blocks of their stream, and the blocks of a stream have no fault.
-- Assumes nothing.
use Rattle.std.specs.Prelude.{ℕ, zero, suc, ◌+◌, ◌-◌, ◌*◌, ◌≤◌, ◌<◌, min, ◌≡◌, refl, ◌≢◌, Bool, true, false, List, [], ◌∷◌, ◌++◌, length, get_or, take, drop}
use Rattle.std.proofs.Common.{add-zero, add-suc, suc-add, arith, sym, ap, ap₂, ◌∙◌, append_assoc, lit<, length-append, length-take, length-drop, take-append-drop, take_at, drop_at, drop-drop, take-add, length-take-le}
use Rattle.packing.specs.Part.{part, length_part, part-cons, part_rest, part_cut, part-take}
use Rattle.packing.specs.Numbers.{Bytes, bytes_take, bytes_drop, bytes_append}
use Rattle.refusals.specs.declared.Refusal.{Refusal}
use Rattle.refusals.specs.Table.{refused, none}
use Rattle.blocks.specs.declared.Due.{Due}
use Rattle.blocks.specs.Block.{block_length, letters_length, header_length, most_payload, block_of, payload_of, first_wrong, wrong}
use Rattle.blocks.specs.BlockLaws.{length_block, block_payload, block_right, block_is}
use Rattle.blocks.specs.Section.{no_due, dues_from, Small, used_all}
use Rattle.blocks.specs.Sheet.{block_at, sheet_from, stream_from, or_later, fault_from, fault_within}

-- the used payload of block n is that part of the sheet
pub payload_part_lem : (sheet : List ℕ) (n used : ℕ) → used ≤ most_payload
    → part (block_length * n + header_length) (block_length * n + header_length + used) sheet ≡ payload_of used (block_at sheet n)
payload_part_lem sheet n used h =
    let e : block_length * n + header_length + used - (block_length * n + header_length) ≡ header_length + used - header_length = omega arith in
    rw (e, ← drop-drop header_length (block_length * n) sheet)
    (sym (part-take header_length (header_length + used) block_length (drop (block_length * n) sheet) (omega arith) (omega arith)))

-- ---- blocks, and then others

later_later : (w n : ℕ) (f g : Refusal) → or_later w n (or_later f.code f.place g) ≡ or_later (or_later w n f).code (or_later w n f).place g
later_later zero n f g = refl
later_later (suc w) n f g = refl

-- what comes after block n
pub after_block : (n : ℕ) (sheet : List ℕ) → drop block_length (drop (block_length * n) sheet) ≡ drop (block_length * suc n) sheet
after_block n sheet =
    let e : block_length * n + block_length ≡ block_length * suc n = omega arith in
    drop-drop block_length (block_length * n) sheet ∙ ap (λ (k : ℕ). drop k sheet) e

-- what comes after a block and so many others
pub block_drop : (xs : List Due) (sheet : List ℕ) → drop (block_length * length xs) (drop block_length sheet) ≡ drop (block_length * suc (length xs)) sheet
block_drop xs sheet =
    let e : block_length + block_length * length xs ≡ block_length * suc (length xs) = omega arith in
    drop-drop (block_length * length xs) block_length sheet ∙ ap (λ (k : ℕ). drop k sheet) e

-- the fault of the first, or else that of the others
pub fault-append : (letters : List ℕ) (n : ℕ) (xs ys : List Due) (sheet : List ℕ)
    → fault_from letters n (xs ++ ys) sheet ≡ or_later (fault_from letters n xs sheet).code (fault_from letters n xs sheet).place (fault_from letters (n + length xs) ys (drop (block_length * length xs) sheet))
fault-append letters n [] ys sheet = rw (add-zero n)
fault-append letters n (d ∷ xs) ys sheet =
    rw (fault-append letters (suc n) xs ys (drop block_length sheet), block_drop xs sheet, suc-add n (length xs), ← add-suc n (length xs))
    (later_later (wrong letters d.kind n d.used (take block_length sheet)) n (fault_from letters (suc n) xs (drop block_length sheet)) _)

-- of the blocks from block `from` up to block `to`: the fault of those before block `mid`, or else that of those from there on
pub fault_cut : (letters : List ℕ) (ds : List Due) (sheet : List ℕ) (from mid to : ℕ) → from ≤ mid → mid ≤ to → to ≤ length ds
    → let first = fault_within letters ds sheet from mid in fault_within letters ds sheet from to ≡ or_later first.code first.place (fault_within letters ds sheet mid to)
fault_cut letters ds sheet from mid to h k l =
    let own = part from mid ds in
    let n : length own ≡ mid - from = length_part from mid ds h (omega arith) in
    let m : from + length own ≡ mid = omega arith in
    let e : block_length * from + block_length * length own ≡ block_length * mid = omega arith in
    rw (
      part_cut from mid to ds h k,
      fault-append letters from own (part mid to ds) (drop (block_length * from) sheet),
      drop-drop (block_length * length own) (block_length * from) sheet,
      e,
      m,
    )

-- the stream of the first, then that of the others
pub stream_append : (xs ys : List Due) (sheet : List ℕ) → stream_from (xs ++ ys) sheet ≡ stream_from xs sheet ++ stream_from ys (drop (block_length * length xs) sheet)
stream_append [] ys sheet = refl
stream_append (d ∷ xs) ys sheet =
    rw (stream_append xs ys (drop block_length sheet), block_drop xs sheet)
    (sym (append_assoc (payload_of d.used (take block_length sheet)) (stream_from xs (drop block_length sheet)) _))

-- the blocks of the first, then those of the others
pub sheet_append : (letters : List ℕ) (n : ℕ) (xs ys : List Due) (stream : List ℕ)
    → sheet_from letters n (xs ++ ys) stream ≡ sheet_from letters n xs stream ++ sheet_from letters (n + length xs) ys (drop (used_all xs) stream)
sheet_append letters n [] ys stream = rw (add-zero n)
sheet_append letters n (d ∷ xs) ys stream =
    rw (sheet_append letters (suc n) xs ys (drop d.used stream), drop-drop (used_all xs) d.used stream, suc-add n (length xs), ← add-suc n (length xs))
    (sym (append_assoc (block_of letters d.kind n (take d.used stream)) (sheet_from letters (suc n) xs (drop d.used stream)) _))

-- a stream does not depend on the blocks' kind
pub stream_kind : (kind other size count bytes : ℕ) (sheet : List ℕ) → stream_from (dues_from kind size count bytes) sheet ≡ stream_from (dues_from other size count bytes) sheet
stream_kind kind other size zero bytes sheet = refl
stream_kind kind other size (suc count) bytes sheet =
    ap (λ (l : List ℕ). payload_of (min size bytes) (take block_length sheet) ++ l) (stream_kind kind other size count (bytes - size) (drop block_length sheet))

-- ---- what is refused of them

-- the first of five tests that fails has one of 32 to 36
first_codes : (a b c d e : Bool) → first_wrong a b c d e ≢ 0 → (32 ≤ first_wrong a b c d e) × (first_wrong a b c d e ≤ 36)
unfolding first_wrong
first_codes false b c d e z = (omega arith, omega arith)
first_codes true false c d e z = (omega arith, omega arith)
first_codes true true false d e z = (omega arith, omega arith)
first_codes true true true false e z = (omega arith, omega arith)
first_codes true true true true false z = (omega arith, omega arith)
first_codes true true true true true z = absurd (z refl)

-- so blocks are refused by one of these, with the number of one of them
pub fault_named : (letters : List ℕ) (n : ℕ) (ds : List Due) (sheet : List ℕ) → let r = fault_from letters n ds sheet in
    r.code ≢ 0 → ((32 ≤ r.code) × (r.code ≤ 36)) × ((n ≤ r.place) × (r.place < n + length ds))
unfolding wrong
fault_named letters n [] sheet z = absurd (z refl)
fault_named letters n (d ∷ ds) sheet z = go (wrong letters d.kind n d.used (take block_length sheet)) (first_codes _ _ _ _ _) (fault_named letters (suc n) ds (drop block_length sheet)) z
  where
    later : Refusal
    later = fault_from letters (suc n) ds (drop block_length sheet)

    go : (w : ℕ) → (w ≢ 0 → (32 ≤ w) × (w ≤ 36)) → (later.code ≢ 0 → ((32 ≤ later.code) × (later.code ≤ 36)) × ((suc n ≤ later.place) × (later.place < suc n + length ds)))
        → let r = or_later w n later in r.code ≢ 0 → ((32 ≤ r.code) × (r.code ≤ 36)) × ((n ≤ r.place) × (r.place < n + suc (length ds)))
    go zero codes next y = let p = next y in (p.0, (omega (arith, p.1.0), omega (arith, p.1.1)))
    go (suc w) codes next y = (codes y, (omega arith, omega arith))

-- ---- how long they are, and that a stream is bytes

-- a stream has the used bytes
pub length_stream : (ds : List Due) (sheet : List ℕ) → Small ds → block_length * length ds ≤ length sheet → length (stream_from ds sheet) ≡ used_all ds
length_stream [] sheet h k = refl
length_stream (d ∷ ds) sheet h k =
    let b : length (take block_length sheet) ≡ block_length = length-take-le block_length sheet (omega arith) in
    length-append (payload_of d.used (take block_length sheet)) (stream_from ds (drop block_length sheet))
    ∙ ap₂ ◌+◌ (length_part header_length (header_length + d.used) (take block_length sheet) (omega arith) (omega (arith, h.0)) ∙ omega arith) (length_stream ds (drop block_length sheet) h.1 (simp length-drop (omega arith)))

-- a sheet's bytes make a stream of bytes
pub bytes_stream : (ds : List Due) (sheet : List ℕ) → Bytes sheet → Bytes (stream_from ds sheet)
bytes_stream [] sheet b = λ i. lit< tt
bytes_stream (d ∷ ds) sheet b =
    bytes_append (payload_of d.used (take block_length sheet)) (stream_from ds (drop block_length sheet))
    (bytes_take (header_length + d.used - header_length) (drop header_length (take block_length sheet)) (bytes_drop header_length (take block_length sheet) (bytes_take block_length sheet b)))
    (bytes_stream ds (drop block_length sheet) (bytes_drop block_length sheet b))

-- ---- written and read

-- a code that is not 0 settles it
pub or_later_some : (w n : ℕ) (later : Refusal) → w ≢ 0 → or_later w n later ≡ refused w n
or_later_some zero n later h = absurd (h refl)
or_later_some (suc w) n later h = refl

-- where nothing is refused, the first code is 0 and nothing is refused later
pub later_none : (w n : ℕ) (later : Refusal) → (or_later w n later).code ≡ 0 → (w ≡ 0) × (later.code ≡ 0)
later_none zero n later e = (refl, e)
later_none (suc w) n later e = absurd (omega arith)

module _ (letters : List ℕ) (ds : List Due) (sheet : List ℕ) (z : (fault_from letters 0 ds sheet).code ≡ 0) where
  abbrev within : ℕ → ℕ → Refusal
  within from to = fault_within letters ds sheet from to

  -- where no block of a sheet is refused, none is of those from block `from` up to block `to`
  pub part_sound : (from to : ℕ) → from ≤ to → to ≤ length ds → (within from to).code ≡ 0
  part_sound from to h k =
      let n = length ds in
      let before = within 0 from in
      let own = within from to in
      let all : (within 0 n).code ≡ 0 = rw (part_rest 0 n ds (omega arith)) z in
      let later = (later_none before.code before.place (within from n) (rw (fault_cut letters ds sheet 0 from n (omega arith) (omega arith) (omega arith)) at all)).1 in
      (later_none own.code own.place (within to n) (rw (fault_cut letters ds sheet from to n h k (omega arith)) at later)).0

  -- and nothing is wrong with any
  pub none-wrong : (n : ℕ) → n < length ds → let d = get_or ds n no_due in wrong letters d.kind n d.used (block_at sheet n) ≡ 0
  none-wrong n h =
      let d = get_or ds n no_due in
      let rest = drop (block_length * n) sheet in
      (later_none (wrong letters d.kind n d.used (block_at sheet n)) n (fault_from letters (suc n) (part (n + 1) (n + 1) ds) (drop block_length rest))
      (rw (part-cons n (n + 1) ds no_due (omega arith) (omega arith)) at (part_sound n (n + 1) (omega arith) (omega arith)))).0

-- the other way: where nothing is wrong with any of the blocks that are due from block n on, none of them is refused
pub wrong-none : (letters : List ℕ) (n : ℕ) (ds : List Due) (sheet : List ℕ)
    → ((k : ℕ) → k < length ds → let d = get_or ds k no_due in wrong letters d.kind (n + k) d.used (block_at sheet (n + k)) ≡ 0)
    → fault_from letters n ds (drop (block_length * n) sheet) ≡ none
wrong-none letters n [] sheet right = refl
wrong-none letters n (d ∷ ds) sheet right =
    let own : wrong letters d.kind n d.used (block_at sheet n) ≡ 0 = rw (add-zero n) at (right 0 (omega arith)) in
    rw (own, after_block n sheet) (wrong-none letters (suc n) ds sheet (λ k h. let e : suc n + k ≡ n + suc k = omega arith in rw e (right (suc k) (omega arith))))

module _ (letters : List ℕ) (four : length letters ≡ letters_length) where
  -- a stream makes blocks of 512 bytes
  pub length_sheet : (n : ℕ) (ds : List Due) (stream : List ℕ) → Small ds → length (sheet_from letters n ds stream) ≡ block_length * length ds
  length_sheet n [] stream h = refl
  length_sheet n (d ∷ ds) stream h =
      let p = take d.used stream in
      let b = length_block letters d.kind n four p (omega (arith, length-take d.used stream, h.0)) in
      omega (arith, length-append (block_of letters d.kind n p) (sheet_from letters (suc n) ds (drop d.used stream)), b, length_sheet (suc n) ds (drop d.used stream) h.1)

  -- blocks of which none is refused are the blocks of their stream
  pub sheet_is : (n : ℕ) (ds : List Due) (sheet : List ℕ) → Small ds → block_length * length ds ≤ length sheet → (fault_from letters n ds sheet).code ≡ 0
      → sheet_from letters n ds (stream_from ds sheet) ≡ take (block_length * length ds) sheet
  sheet_is n [] sheet h k e = refl
  sheet_is n (d ∷ ds) sheet h k e =
      let b = take block_length sheet in
      let p = payload_of d.used b in
      let r = stream_from ds (drop block_length sheet) in
      let f = later_none (wrong letters d.kind n d.used b) n (fault_from letters (suc n) ds (drop block_length sheet)) e in
      let nb : length b ≡ block_length = length-take-le block_length sheet (omega arith) in
      let np : length p ≡ d.used = length_part header_length (header_length + d.used) b (omega arith) (omega (arith, h.0)) ∙ omega arith in
      let m : block_length * suc (length ds) ≡ block_length + block_length * length ds = omega arith in
      rw (
        take_at p r d.used np,
        drop_at p r d.used np,
        block_is letters d.kind n d.used b h.0 nb f.0,
        sheet_is (suc n) ds (drop block_length sheet) h.1 (simp length-drop (omega arith)) f.1,
        m,
      )
      (sym (take-add block_length (block_length * length ds) sheet))

  -- of the blocks of a stream, whatever follows them, none is refused, and they make the same stream
  pub sheet_right : (n : ℕ) (ds : List Due) (stream more : List ℕ) → Small ds → length stream ≡ used_all ds
      → (fault_from letters n ds (sheet_from letters n ds stream ++ more) ≡ none) × (stream_from ds (sheet_from letters n ds stream ++ more) ≡ stream)
  sheet_right n [] [] more h k = (refl, refl)
  sheet_right n [] (x ∷ stream) more h k = absurd (omega arith)
  sheet_right n (d ∷ ds) stream more h k =
      let u = d.used in
      let p = take u stream in
      let b = block_of letters d.kind n p in
      let t = sheet_from letters (suc n) ds (drop u stream) in
      let np : length p ≡ u = length-take-le u stream (omega arith) in
      let small : length p ≤ most_payload = omega (arith, h.0) in
      let nb : length b ≡ block_length = length_block letters d.kind n four p small in
      let w : wrong letters d.kind n u b ≡ 0 = rw np at (block_right letters d.kind n four p small) in
      let q : payload_of u b ≡ p = rw np at (block_payload letters d.kind n four p) in
      let ih = sheet_right (suc n) ds (drop u stream) more h.1 (simp length-drop (omega arith)) in
      let e : b ++ t ++ more ≡ b ++ (t ++ more) = append_assoc b t more in (
        rw (e, take_at b (t ++ more) block_length nb, drop_at b (t ++ more) block_length nb, w) ih.0,
        rw (e, take_at b (t ++ more) block_length nb, drop_at b (t ++ more) block_length nb, q, ih.1) (take-append-drop u stream),
      )
