-- Numbers as bytes, cut in two: one number of more bytes, some numbers and then others, one record and then others.
-- Assumes nothing.
use Rattle.std.specs.Prelude.{ℕ, zero, suc, ◌+◌, ◌-◌, ◌*◌, ◌/◌, ◌^◌, ◌≤◌, ◌<◌, ◌≡◌, refl, List, [], ◌∷◌, ◌++◌, length, take, drop, get_or}
use Rattle.std.proofs.Common.{pow-suc, zero-mul, suc-mul, mul_comm, mul_assoc, zero-add, suc-add, div-one, add-one, arith, sym, ap, ◌∙◌, append_assoc, lit<, length-append, length-drop, drop_at, drop-drop, drop-cons}
use Rattle.std.proofs.Math.Nat.{div-div-eq-div-mul}
use Rattle.std.proofs.lemmas.List.{take-append-le, drop-append-le}
use Rattle.packing.specs.Part.{part}
use Rattle.packing.specs.Numbers.{le, val, Bytes, pack, unpack, total, rep}

-- ---- one number

-- more bytes make the number of the first, and that of the others as much higher
pub val-append : (bs cs : List ℕ) → val (bs ++ cs) ≡ val bs + 256 ^ length bs * val cs
val-append [] cs = omega arith
val-append (b ∷ bs) cs =
    let e : 256 ^ suc (length bs) * val cs ≡ 256 * (256 ^ length bs * val cs) = rw (pow-suc, mul_comm (256 ^ length bs) 256, mul_assoc 256) in
    omega (arith, val-append bs cs)

-- bytes make a number below 256 to their count
pub val-lt : (bs : List ℕ) → Bytes bs → val bs < 256 ^ length bs
val-lt [] h = lit< tt
val-lt (b ∷ bs) h = let k : b < 256 = h 0 in rw pow-suc (omega (arith, val-lt bs (λ i. h (suc i))))

-- more bytes are those of the number, and those of what is left of it
pub le-add : (v w x : ℕ) → le (v + w) x ≡ le v x ++ le w (x / 256 ^ v)
le-add zero w x = rw (zero-add w, div-one x)
le-add (suc v) w x =
    let e : x / 256 / 256 ^ v ≡ x / 256 ^ suc v = div-div-eq-div-mul x 256 (256 ^ v) ∙ ap (λ (n : ℕ). x / n) (mul_comm 256 (256 ^ v) ∙ sym (pow-suc 256 v)) in
    rw (suc-add v w, le-add v w (x / 256), e)

-- ---- some, and then others

-- the widths of some numbers, and then of others
pub total-append : (a b : List ℕ) → total (a ++ b) ≡ total a + total b
total-append [] b = omega arith
total-append (w ∷ a) b = omega (arith, total-append a b)

-- the numbers at the first widths, then those at the others
pub unpack-append : (a b bs : List ℕ) → unpack (a ++ b) bs ≡ unpack a bs ++ unpack b (drop (total a) bs)
unpack-append [] b bs = refl
unpack-append (w ∷ a) b bs =
    ap (λ (l : List ℕ). val (take w bs) ∷ l)
    (unpack-append a b (drop w bs) ∙ ap (λ (l : List ℕ). unpack a (drop w bs) ++ unpack b l) (drop-drop (total a) w bs))

pack-nil : (ws : List ℕ) → pack ws [] ≡ []
pack-nil [] = refl
pack-nil (w ∷ ws) = refl

-- the bytes of the first numbers, then those of the others
pub pack-append : (a b xs : List ℕ) → pack (a ++ b) xs ≡ pack a xs ++ pack b (drop (length a) xs)
pack-append [] b xs = refl
pack-append (w ∷ a) b [] = sym (pack-nil b)
pack-append (w ∷ a) b (x ∷ xs) = ap (λ (l : List ℕ). le w x ++ l) (pack-append a b xs) ∙ sym (append_assoc (le w x) (pack a xs) (pack b (drop (length a) xs)))

-- n records are the first, and the others
pub rep_first : (n : ℕ) (ws : List ℕ) → 0 < n → rep n ws ≡ ws ++ rep (n - 1) ws
rep_first n ws h = let e : n ≡ suc (n - 1) = omega arith in ap (λ (k : ℕ). rep k ws) e

-- some records, and then others
pub rep_add : (m n : ℕ) (ws : List ℕ) → rep (m + n) ws ≡ rep m ws ++ rep n ws
rep_add zero n ws = rw (zero-add n)
rep_add (suc m) n ws = rw (suc-add m n, rep_add m n ws, append_assoc)

-- n records have n times the bytes of one
pub total-rep : (n : ℕ) (ws : List ℕ) → total (rep n ws) ≡ n * total ws
total-rep zero ws = sym (zero-mul (total ws))
total-rep (suc n) ws = omega (arith, total-append ws (rep n ws), total-rep n ws, suc-mul n (total ws))

-- and n times its numbers
pub length-rep : (n : ℕ) (ws : List ℕ) → length (rep n ws) ≡ n * length ws
length-rep zero ws = sym (zero-mul (length ws))
length-rep (suc n) ws = omega (arith, length-append ws (rep n ws), length-rep n ws, suc-mul n (length ws))

-- what is read does not depend on bytes beyond
pub unpack-front : (ws p q : List ℕ) → total ws ≤ length p → unpack ws (p ++ q) ≡ unpack ws p
unpack-front [] p q h = refl
unpack-front (w ∷ ws) p q h =
    rw (take-append-le w p q (omega arith), drop-append-le w p q (omega arith), unpack-front ws (drop w p) q (simp length-drop (omega arith)))

-- m records from the first bytes, n from the others
pub unpack_split : (m n : ℕ) (ws p q : List ℕ) → length p ≡ m * total ws → unpack (rep (m + n) ws) (p ++ q) ≡ unpack (rep m ws) p ++ unpack (rep n ws) q
unpack_split m n ws p q h =
    let k : length p ≡ total (rep m ws) = h ∙ sym (total-rep m ws) in
    rw (rep_add m n ws, unpack-append (rep m ws) (rep n ws) (p ++ q), unpack-front (rep m ws) p q (omega arith), drop_at p q (total (rep m ws)) k)

-- m records of the first numbers, n of the others
pub pack_split : (m n : ℕ) (ws xs : List ℕ) → pack (rep (m + n) ws) xs ≡ pack (rep m ws) xs ++ pack (rep n ws) (drop (m * length ws) xs)
pack_split m n ws xs = rw (rep_add m n ws, pack-append (rep m ws) (rep n ws) xs, length-rep m ws)

-- ---- one number, or one record, after the other

-- from width k on: the bytes of one number, and those of the others
pub total-next : (ws : List ℕ) (k : ℕ) → k < length ws → total (drop k ws) ≡ get_or ws k 0 + total (drop (k + 1) ws)
total-next ws k h = rw (add-one k, drop-cons ws k 0 h)

-- from width k and byte i on: one number, and the others
pub unpack-next : (ws bs : List ℕ) (k i : ℕ) → k < length ws → unpack (drop k ws) (drop i bs) ≡ val (part i (i + get_or ws k 0) bs) ∷ unpack (drop (k + 1) ws) (drop (i + get_or ws k 0) bs)
unpack-next ws bs k i h =
    let w = get_or ws k 0 in
    let e : i + w - i ≡ w = omega arith in
    rw (drop-cons ws k 0 h, drop-drop w i bs, e, add-one k)

-- from byte i on: one record, and the others
pub unpack_first : (n : ℕ) (ws bs : List ℕ) (i : ℕ) → 0 < n → unpack (rep n ws) (drop i bs) ≡ unpack ws (drop i bs) ++ unpack (rep (n - 1) ws) (drop (i + total ws) bs)
unpack_first n ws bs i h = rw (rep_first n ws h, unpack-append ws (rep (n - 1) ws) (drop i bs), drop-drop (total ws) i bs)

-- from width k and the number as far after number i on: one number, and the others
pub pack-next : (ws xs : List ℕ) (k i : ℕ) → k < length ws → i + k < length xs
    → pack (drop k ws) (drop (i + k) xs) ≡ le (get_or ws k 0) (get_or xs (i + k) 0) ++ pack (drop (k + 1) ws) (drop (i + (k + 1)) xs)
pack-next ws xs k i h l =
    let e : i + (k + 1) ≡ suc (i + k) = omega arith in
    rw (e, add-one k, drop-cons ws k 0 h, drop-cons xs (i + k) 0 l)

-- from number i on: one record, and the others
pub pack_first : (n : ℕ) (ws xs : List ℕ) (i : ℕ) → 0 < n → pack (rep n ws) (drop i xs) ≡ pack ws (drop i xs) ++ pack (rep (n - 1) ws) (drop (i + length ws) xs)
pack_first n ws xs i h = rw (rep_first n ws h, pack-append ws (rep (n - 1) ws) (drop i xs), drop-drop (length ws) i xs)
