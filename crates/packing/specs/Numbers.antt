-- Numbers of given widths as bytes, the lowest byte first.
-- Assumes nothing.
use Rattle.std.specs.Prelude.{ℕ, zero, suc, ◌+◌, ◌*◌, ◌/◌, ◌%◌, ◌^◌, ◌≤◌, ◌<◌, ◌≡◌, refl, List, [], ◌∷◌, ◌++◌, ◌≢◌, length, take, drop, get_or}
use Rattle.std.proofs.Common.{pow-suc, div-lt_iff_lt-mul, arith, sym, ap, ap₂, ◌∙◌, lit<, length-append, length-drop, take-append-drop, take_at, drop_at, length-take-le, get_or-drop}
use Rattle.lists.specs.Sums.{Every}

-- x as w bytes, the lowest first
abbrev pub le : ℕ → ℕ → List ℕ
le zero x = []
le (suc w) x = x % 256 ∷ le w (x / 256)

-- the number that bytes make, the lowest first
abbrev pub val : List ℕ → ℕ
val [] = 0
val (b ∷ bs) = b + 256 * val bs

-- each of a list is a byte
abbrev pub Bytes : List ℕ → Type 0
Bytes bs = (i : ℕ) → get_or bs i 0 < 256

-- the bytes of numbers, each at its width, one after the other
abbrev pub pack : List ℕ → List ℕ → List ℕ
pack [] xs = []
pack (w ∷ ws) [] = []
pack (w ∷ ws) (x ∷ xs) = le w x ++ pack ws xs

-- the numbers at these widths that bytes make
abbrev pub unpack : List ℕ → List ℕ → List ℕ
unpack [] bs = []
unpack (w ∷ ws) bs = val (take w bs) ∷ unpack ws (drop w bs)

-- the bytes of one number at each width
abbrev pub total : List ℕ → ℕ
total [] = 0
total (w ∷ ws) = w + total ws

-- there is a number for each width, and below 256 to the width
abbrev pub Fits : List ℕ → List ℕ → Type 0
Fits [] [] = Unit {0}
Fits [] (x ∷ xs) = ⊥
Fits (w ∷ ws) [] = ⊥
Fits (w ∷ ws) (x ∷ xs) = (x < 256 ^ w) × Fits ws xs

-- the widths of n records, each of the widths ws
abbrev pub rep : ℕ → List ℕ → List ℕ
rep zero ws = []
rep (suc n) ws = ws ++ rep n ws

-- a number has 1, 2, 4 or 8 bytes
pub data Width : ℕ → Type 0 where
  one : Width 1
  two : Width 2
  four : Width 4
  eight : Width 8

-- each of a list has
abbrev pub Widths : List ℕ → Type 0
Widths ws = Every Width ws

-- ---- one number

-- there are w bytes
pub length-le : (w x : ℕ) → length (le w x) ≡ w
length-le zero x = refl
length-le (suc w) x = ap suc (length-le w (x / 256))

-- a number that fits is the number of its bytes
pub val-le : (w x : ℕ) → x < 256 ^ w → val (le w x) ≡ x
val-le zero x h = omega arith
val-le (suc w) x h =
    let k : x / 256 < 256 ^ w = (div-lt_iff_lt-mul (lit< tt)).1 (rw pow-suc at h) in
    let e : val (le w (x / 256)) ≡ x / 256 = val-le w (x / 256) k in
    omega arith

-- bytes are the bytes of their number
pub le_val : (bs : List ℕ) → Bytes bs → le (length bs) (val bs) ≡ bs
le_val [] h = refl
le_val (b ∷ bs) h =
    let k : b < 256 = h 0 in
    let e₀ : (b + 256 * val bs) % 256 ≡ b = omega arith in
    let e₁ : (b + 256 * val bs) / 256 ≡ val bs = omega arith in
    ap₂ (λ (x : ℕ) (l : List ℕ). x ∷ l) e₀ (ap (le (length bs)) e₁ ∙ le_val bs (λ i. h (suc i)))

-- ---- bytes

-- so is a front of them
pub bytes_take : (n : ℕ) (bs : List ℕ) → Bytes bs → Bytes (take n bs)
bytes_take zero bs h i = lit< tt
bytes_take (suc n) [] h i = lit< tt
bytes_take (suc n) (b ∷ bs) h zero = h 0
bytes_take (suc n) (b ∷ bs) h (suc i) = bytes_take n bs (λ j. h (suc j)) i

-- and a rest
pub bytes_drop : (n : ℕ) (bs : List ℕ) → Bytes bs → Bytes (drop n bs)
bytes_drop n bs h i = rw get_or-drop (h (n + i))

-- and one list of them after another
pub bytes_append : (cs bs : List ℕ) → Bytes cs → Bytes bs → Bytes (cs ++ bs)
bytes_append [] bs p q i = q i
bytes_append (a ∷ cs) bs p q zero = p 0
bytes_append (a ∷ cs) bs p q (suc i) = bytes_append cs bs (λ j. p (suc j)) q i

-- ---- widths

-- a width that is neither 1 nor 2 nor 4 is 8
pub width-last : {w : ℕ} → Width w → w ≢ 1 → w ≢ 2 → w ≢ 4 → w ≡ 8
width-last one a b c = absurd (a refl)
width-last two a b c = absurd (b refl)
width-last four a b c = absurd (c refl)
width-last eight a b c = refl

-- the width at index k is one
pub width-at : (ws : List ℕ) (k : ℕ) → k < length ws → Widths ws → Width (get_or ws k 0)
width-at [] k h e = absurd (omega arith)
width-at (w ∷ ws) zero h e = e.0
width-at (w ∷ ws) (suc k) h e = width-at ws k (omega arith) e.1

-- ---- numbers at widths

-- as many numbers are read as there are widths
pub length-unpack : (ws bs : List ℕ) → length (unpack ws bs) ≡ length ws
length-unpack [] bs = refl
length-unpack (w ∷ ws) bs = ap suc (length-unpack ws (drop w bs))

-- numbers that fit are as many as the widths
pub length_fits : (ws xs : List ℕ) → Fits ws xs → length xs ≡ length ws
length_fits [] [] h = refl
length_fits (w ∷ ws) (x ∷ xs) h = ap suc (length_fits ws xs h.1)
length_fits [] (x ∷ xs) h = elim h [ ]
length_fits (w ∷ ws) [] h = elim h [ ]

-- as many bytes are written as the widths have, if there is a number for each
pub length-pack : (ws xs : List ℕ) → length ws ≤ length xs → length (pack ws xs) ≡ total ws
length-pack [] xs h = refl
length-pack (w ∷ ws) [] h = absurd (omega arith)
length-pack (w ∷ ws) (x ∷ xs) h = length-append (le w x) (pack ws xs) ∙ ap₂ ◌+◌ (length-le w x) (length-pack ws xs (omega arith))

-- numbers that fit are read as they were written
pub unpack-pack : (ws xs : List ℕ) → Fits ws xs → unpack ws (pack ws xs) ≡ xs
unpack-pack [] [] h = refl
unpack-pack (w ∷ ws) (x ∷ xs) h =
    ap₂ (λ (a : ℕ) (l : List ℕ). a ∷ l)
    (ap val (take_at (le w x) (pack ws xs) w (length-le w x)) ∙ val-le w x h.0)
    (ap (unpack ws) (drop_at (le w x) (pack ws xs) w (length-le w x)) ∙ unpack-pack ws xs h.1)
unpack-pack [] (x ∷ xs) h = elim h [ ]
unpack-pack (w ∷ ws) [] h = elim h [ ]

-- bytes are written as they were read
pub pack-unpack : (ws bs : List ℕ) → length bs ≡ total ws → Bytes bs → pack ws (unpack ws bs) ≡ bs
pack-unpack [] [] n h = refl
pack-unpack [] (b ∷ bs) n h = absurd (omega arith)
pack-unpack (w ∷ ws) bs n h =
    let k : length (take w bs) ≡ w = length-take-le w bs (omega arith) in
    ap₂ ◌++◌ (ap (λ (j : ℕ). le j (val (take w bs))) (sym k) ∙ le_val (take w bs) (bytes_take w bs h))
    (pack-unpack ws (drop w bs) (simp length-drop (omega arith)) (bytes_drop w bs h))
    ∙ take-append-drop w bs
