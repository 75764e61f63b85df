-- Records read and written by loops: one number after the other, one record after the other.
-- Assumes nothing.
use Rattle.std.specs.Prelude.{ℕ, suc, ◌+◌, ◌-◌, ◌*◌, ◌≤◌, ◌<◌, ◌≡◌, List, ◌++◌, length, get_or, drop, set}
use Rattle.std.proofs.Common.{add-zero, suc-mul, arith, ap, ◌∙◌, length-drop, drop_of_length-le}
use Rattle.packing.specs.Part.{part}
use Rattle.packing.specs.Put.{put, Putting, putting_start, putting_room, putting_more, putting_store, putting_end}
use Rattle.packing.specs.Numbers.{le, val, pack, unpack, total, rep, Width, Widths, width-at, length-le, length-unpack, length-pack}
use Rattle.packing.specs.Cuts.{length-rep, total-rep, total-next, unpack-next, unpack_first, pack-next, pack_first}

-- n records are one, and the others
times_less : (n m : ℕ) → 0 < n → n * m ≡ m + (n - 1) * m
times_less n m h = let e : n ≡ suc (n - 1) = omega arith in ap (λ (k : ℕ). k * m) e ∙ omega (arith, suc-mul (n - 1) m)

-- ---- one number of a record after the other

-- of the record from byte `from` on the first k numbers are put down, and the next starts at byte i
pub record RecordRead (bytes ws : List ℕ) (from : ℕ) (out₀ : List ℕ) (at k i : ℕ) (out : List ℕ) : Type 0 where
  pub widths : Widths ws
  pub few : k ≤ length ws
  pub inside : i + total (drop k ws) ≤ length bytes
  pub putting : Putting out₀ at (unpack ws (drop from bytes)) out (at + k) (unpack (drop k ws) (drop i bytes))

-- none is put down
pub record_read_start : {bytes ws out₀ : List ℕ} {from at : ℕ} → Widths ws → from + total ws ≤ length bytes → at + length ws ≤ length out₀ → RecordRead bytes ws from out₀ at 0 from out₀
record_read_start {bytes} {ws} {from = from} {at} n b o =
    record {
      widths = n;
      few = omega arith;
      inside = b;
      putting = rw (add-zero at) (putting_start (omega (arith, length-unpack ws (drop from bytes))));
    }

module _ {bytes ws out₀ out : List ℕ} {from at k i : ℕ} (r : RecordRead bytes ws from out₀ at k i out) where
  -- all are
  pub record_read_end : length ws ≤ k → out ≡ put out₀ at (unpack ws (drop from bytes))
  record_read_end h = putting_end r.putting (rw (drop_of_length-le ws h))

  module _ (h : k < length ws) where
    -- the next has a width, its bytes are there, and so is its place
    pub record_read-next : Width (get_or ws k 0) × ((i + get_or ws k 0 ≤ length bytes) × (at + k < length out))
    record_read-next = (
      width-at ws k h r.widths,
      (omega (arith, r.inside, total-next ws k h), omega (arith, r.putting.room, length-unpack (drop k ws) (drop i bytes), length-drop k ws)),
    )

    -- the next is put down
    pub record_read_turn : {x : ℕ} → x ≡ val (part i (i + get_or ws k 0) bytes) → RecordRead bytes ws from out₀ at (k + 1) (i + get_or ws k 0) (set out (at + k) x)
    record_read_turn {x} e =
        record {
          widths = r.widths;
          few = omega arith;
          inside = omega (arith, r.inside, total-next ws k h);
          putting = putting_store r.putting (unpack-next ws bytes k i h ∙ rw e) (omega arith);
        }

-- of the record from number `from` on the first k numbers are put down, and the next goes to byte `to`
pub record RecordWritten (ws xs : List ℕ) (from : ℕ) (bytes₀ : List ℕ) (at k to : ℕ) (bytes : List ℕ) : Type 0 where
  pub widths : Widths ws
  pub few : k ≤ length ws
  pub inside : from + length ws ≤ length xs
  pub putting : Putting bytes₀ at (pack ws (drop from xs)) bytes to (pack (drop k ws) (drop (from + k) xs))

-- none is put down
pub record_written_start : {ws xs bytes₀ : List ℕ} {from at : ℕ} → Widths ws → from + length ws ≤ length xs → at + total ws ≤ length bytes₀ → RecordWritten ws xs from bytes₀ at 0 at bytes₀
record_written_start {ws} {xs} {from = from} n h b =
    record {
      widths = n;
      few = omega arith;
      inside = h;
      putting = rw (add-zero from) (putting_start (omega (arith, length-pack ws (drop from xs) (omega (arith, length-drop from xs)))));
    }

module _ {ws xs bytes₀ bytes : List ℕ} {from at k to : ℕ} (r : RecordWritten ws xs from bytes₀ at k to bytes) where
  -- all are
  pub record_written_end : length ws ≤ k → bytes ≡ put bytes₀ at (pack ws (drop from xs))
  record_written_end h = putting_end r.putting (rw (drop_of_length-le ws h))

  module _ (h : k < length ws) where
    piece : List ℕ
    piece = le (get_or ws k 0) (get_or xs (from + k) 0)

    next : pack (drop k ws) (drop (from + k) xs) ≡ piece ++ pack (drop (k + 1) ws) (drop (from + (k + 1)) xs)
    unfolding piece
    next = pack-next ws xs k from h (omega (arith, r.inside))

    -- the next has a width, and there is room for it
    pub record_written-next : Width (get_or ws k 0) × (to + get_or ws k 0 ≤ length bytes)
    unfolding piece
    record_written-next = (
      width-at ws k h r.widths,
      omega (arith, putting_room r.putting piece _ next, length-le (get_or ws k 0) (get_or xs (from + k) 0)),
    )

    -- the next is put down
    pub record_written_turn : {bytes' : List ℕ} → bytes' ≡ put bytes to (le (get_or ws k 0) (get_or xs (from + k) 0)) → RecordWritten ws xs from bytes₀ at (k + 1) (to + get_or ws k 0) bytes'
    unfolding piece
    record_written_turn e =
        record {
          widths = r.widths;
          few = omega arith;
          inside = r.inside;
          putting = putting_more r.putting piece next e (rw (length-le (get_or ws k 0) (get_or xs (from + k) 0)));
        }

-- ---- one record after the other

-- of `count` records `left` are left to put down from index `to` on, and they start at byte i
pub record RecordsRead (bytes ws : List ℕ) (count : ℕ) (out₀ : List ℕ) (at left i to : ℕ) (out : List ℕ) : Type 0 where
  pub widths : Widths ws
  pub inside : i + left * total ws ≤ length bytes
  pub putting : Putting out₀ at (unpack (rep count ws) bytes) out to (unpack (rep left ws) (drop i bytes))

-- all are left
pub records-read_start : {bytes ws out₀ : List ℕ} {count at : ℕ} → Widths ws → count * total ws ≤ length bytes → at + count * length ws ≤ length out₀ → RecordsRead bytes ws count out₀ at count 0 at out₀
records-read_start {bytes} {ws} {count = count} n b o =
    record { widths = n; inside = omega arith; putting = putting_start (omega (arith, length-unpack (rep count ws) bytes, length-rep count ws)) }

module _ {bytes ws out₀ out : List ℕ} {count at left i to : ℕ} (r : RecordsRead bytes ws count out₀ at left i to out) where
  -- none is
  pub records-read_end : left ≡ 0 → out ≡ put out₀ at (unpack (rep count ws) bytes)
  records-read_end e = putting_end r.putting (rw e)

  module _ (h : 0 < left) where
    -- the bytes of the next are there, and so is its place
    pub records-read-next : (i + total ws ≤ length bytes) × (to + length ws ≤ length out)
    records-read-next = (
      omega (arith, r.inside, times_less left (total ws) h),
      omega (arith, putting_room r.putting (unpack ws (drop i bytes)) _ (unpack_first left ws bytes i h), length-unpack ws (drop i bytes)),
    )

    -- the next is put down
    pub records-read_turn : {out' : List ℕ} → out' ≡ put out to (unpack ws (drop i bytes)) → RecordsRead bytes ws count out₀ at (left - 1) (i + total ws) (to + length ws) out'
    records-read_turn e =
        record {
          widths = r.widths;
          inside = omega (arith, r.inside, times_less left (total ws) h);
          putting = putting_more r.putting (unpack ws (drop i bytes)) (unpack_first left ws bytes i h) e (rw (length-unpack ws (drop i bytes)));
        }

-- of the records from number `from` on `left` are left to put down from byte `to` on, and they start at number i
pub record RecordsWritten (ws xs : List ℕ) (from count : ℕ) (bytes₀ : List ℕ) (at left i to : ℕ) (bytes : List ℕ) : Type 0 where
  pub widths : Widths ws
  pub inside : i + left * length ws ≤ length xs
  pub putting : Putting bytes₀ at (pack (rep count ws) (drop from xs)) bytes to (pack (rep left ws) (drop i xs))

-- all are left
pub records-written_start : {ws xs bytes₀ : List ℕ} {from count at : ℕ} → Widths ws → from + count * length ws ≤ length xs → at + count * total ws ≤ length bytes₀ → RecordsWritten ws xs from count bytes₀ at count from at bytes₀
records-written_start {ws} {xs} {from = from} {count} w h b =
    let n = length-pack (rep count ws) (drop from xs) (omega (arith, length-rep count ws, length-drop from xs)) in
    record { widths = w; inside = h; putting = putting_start (omega (arith, total-rep count ws)) }

module _ {ws xs bytes₀ bytes : List ℕ} {from count at left i to : ℕ} (r : RecordsWritten ws xs from count bytes₀ at left i to bytes) where
  -- none is
  pub records-written_end : left ≡ 0 → bytes ≡ put bytes₀ at (pack (rep count ws) (drop from xs))
  records-written_end e = putting_end r.putting (rw e)

  module _ (h : 0 < left) where
    size : length (pack ws (drop i xs)) ≡ total ws
    size = length-pack ws (drop i xs) (omega (arith, r.inside, length-drop i xs, times_less left (length ws) h))

    -- the numbers of the next are there, and so is its room
    pub records-written-next : (i + length ws ≤ length xs) × (to + total ws ≤ length bytes)
    records-written-next = (
      omega (arith, r.inside, times_less left (length ws) h),
      omega (arith, putting_room r.putting (pack ws (drop i xs)) _ (pack_first left ws xs i h), size),
    )

    -- the next is put down
    pub records-written_turn : {bytes' : List ℕ} → bytes' ≡ put bytes to (pack ws (drop i xs)) → RecordsWritten ws xs from count bytes₀ at (left - 1) (i + length ws) (to + total ws) bytes'
    records-written_turn e =
        record {
          widths = r.widths;
          inside = omega (arith, r.inside, times_less left (length ws) h);
          putting = putting_more r.putting (pack ws (drop i xs)) (pack_first left ws xs i h) e (rw size);
        }
