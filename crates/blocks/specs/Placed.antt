-- Where a byte of a stream stands: which block holds it, and at which place. A number of one byte is that byte.
-- Assumes nothing.
use Rattle.std.specs.Prelude.{ℕ, zero, suc, ◌+◌, ◌-◌, ◌*◌, ◌/◌, ◌%◌, ◌≤◌, ◌<◌, min, ◌≡◌, refl, List, [], ◌∷◌, length, get_or, drop}
use Rattle.std.proofs.Common.{add-zero, zero-mul, suc-mul, mul-one, mod-lt, div-add-mod', div-lt_iff_lt-mul, arith, sym, ap, ◌∙◌, length-drop, length-take-le, get_or-take, get_or-drop, get_or-append-add}
use Rattle.std.proofs.Math.ListN.{get_or-append}
use Rattle.packing.specs.Part.{length_part}
use Rattle.packing.specs.Numbers.{unpack, rep}
use Rattle.blocks.specs.Block.{block_length, header_length, most_payload, payload_of}
use Rattle.blocks.specs.Section.{dues_from, section_dues}
use Rattle.blocks.specs.SectionLaws.{count-enough}
use Rattle.blocks.specs.Sheet.{block_at, stream_from}
use Rattle.blocks.specs.SheetLaws.{after_block}
use Rattle.blocks.specs.Layout.{Layout, section_of, blocks_in, numbers_at, Laid}

-- byte j of a used payload is as far after the header
payload_at_lem : (used : ℕ) (block : List ℕ) (j : ℕ) → j < used → get_or (payload_of used block) j 0 ≡ get_or block (header_length + j) 0
payload_at_lem used block j h = get_or-take (header_length + used - header_length) (drop header_length block) j 0 (omega arith) ∙ get_or-drop header_length block j 0

-- of a block of a sheet it has as many bytes as are used
payload_long : (used : ℕ) (sheet : List ℕ) (n : ℕ) → used ≤ most_payload → block_length * suc n ≤ length sheet → length (payload_of used (block_at sheet n)) ≡ used
payload_long used sheet n small long =
    let b : length (block_at sheet n) ≡ block_length = length-take-le block_length (drop (block_length * n) sheet) (simp length-drop (omega arith)) in
    length_part header_length (header_length + used) (block_at sheet n) (omega arith) (omega arith) ∙ omega arith

-- blocks from block n on hold `size` bytes each while the bytes last: byte j after those of k blocks is read from block n + k
stream_at : (kind size count bytes n : ℕ) (sheet : List ℕ) (k j : ℕ) → size ≤ most_payload → block_length * (n + count) ≤ length sheet → k < count → j < size → k * size + j < bytes
    → get_or (stream_from (dues_from kind size count bytes) (drop (block_length * n) sheet)) (k * size + j) 0 ≡ get_or (block_at sheet (n + k)) (header_length + j) 0
stream_at kind size zero bytes n sheet k j small long h l m = absurd (omega arith)
stream_at kind size (suc count) bytes n sheet zero j small long h l m =
    let used = min size bytes in
    let first = payload_of used (block_at sheet n) in
    let e : zero * size + j ≡ j = omega (arith, zero-mul size) in
    let inside : j < used = omega (arith, zero-mul size) in
    rw (e, add-zero n) (get_or-append first _ 0 j (rw (payload_long used sheet n (omega arith) (omega arith)) inside) ∙ payload_at_lem used (block_at sheet n) j inside)
stream_at kind size (suc count) bytes n sheet (suc k) j small long h l m =
    let used = min size bytes in
    let first = payload_of used (block_at sheet n) in
    let e : suc k * size + j ≡ length first + (k * size + j) = omega (arith, payload_long used sheet n (omega arith) (omega arith), suc-mul k size) in
    let i : suc n + k ≡ n + suc k = omega arith in
    rw (e, after_block n sheet, ← i)
    (get_or-append-add first _ (k * size + j) 0 ∙ stream_at kind size count (bytes - size) (suc n) sheet k j small (omega arith) (omega arith) l (omega (arith, suc-mul k size)))

-- number i of numbers of one byte each is byte i
unpack-at : (n : ℕ) (bs : List ℕ) (i : ℕ) → i < n → get_or (unpack (rep n (1 ∷ [])) bs) i 0 ≡ get_or bs i 0
unpack-at zero bs i h = absurd (omega arith)
unpack-at (suc n) [] zero h = refl
unpack-at (suc n) [] (suc i) h = unpack-at n [] i (omega arith)
unpack-at (suc n) (b ∷ bs) zero h = add-zero b
unpack-at (suc n) (b ∷ bs) (suc i) h = unpack-at n bs i (omega arith)

-- where the numbers of a layout have one byte each, number i is read from block n + i / size, at the place i % size after its header
pub number_at : {l : Layout} → Laid l → l.widths ≡ 1 ∷ [] → (n : ℕ) (sheet : List ℕ) → block_length * (n + blocks_in l) ≤ length sheet → (i : ℕ) → i < l.count
    → get_or (numbers_at l n sheet) i 0 ≡ get_or (block_at sheet (n + i / l.size)) (header_length + i % l.size) 0
number_at {l} laid ones n sheet long i h =
    let bytes = (section_of l).bytes in
    let stream = stream_from (section_dues (section_of l)) (drop (block_length * n) sheet) in
    let all : bytes ≡ l.count = rw ones (mul-one l.count) in
    let k = i / l.size in
    let j = i % l.size in
    let cut : k * l.size + j ≡ i = div-add-mod' i l.size in
    let own : k < blocks_in l = (div-lt_iff_lt-mul laid.low).1 (omega (arith, all, count-enough l.size bytes laid.low)) in
    let one : get_or (numbers_at l n sheet) i 0 ≡ get_or stream i 0 = rw ones (unpack-at l.count _ i h) in
    one
    ∙ ap (λ (m : ℕ). get_or stream m 0) (sym cut)
    ∙ stream_at l.kind l.size (blocks_in l) bytes n sheet k j laid.high long own (mod-lt i laid.low) (omega (arith, cut, all))
