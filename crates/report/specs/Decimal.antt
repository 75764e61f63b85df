-- A number in decimal, and what its digits say.
-- Assumes nothing.
use Prim.Native.Nat.{ℕ, zero, suc, ◌+◌, ◌-◌, ◌*◌, ◌/◌, ◌%◌, ◌^◌, ◌≤◌, ◌<◌}
use Rattle.std.proofs.Math.Nat.{pow-succ', one-le-pow}
use Rattle.std.proofs.Common.{not-suc-le-zero, arith, ap, ◌∙◌, length-append}
use Rattle.std.specs.Prelude.{◌≡◌, Bool, length, get_or}
use Rattle.std.proofs.Math.Path.{refl}
use mathlib.Core.List.{List, [], ◌∷◌, ◌++◌}
use Rattle.std.proofs.Math.Bool.{true, false}
use borrow.Author.Tests.{ltb-true, ltb-false, lt-ltb}
use Rattle.std.proofs.Math.Dec.{ltb}
use Rattle.std.specs.Fmt.{decimal as printed}
use Rattle.std.proofs.lemmas.Fmt.{decimal_digit, decimal_step}
use Rattle.lists.specs.Sums.{Every}
use Rattle.lists.specs.SumLaws.{every_append}
use Rattle.report.specs.Digits.{last_digits, IsDigitCount}

-- the ASCII code of a digit of 0..9
abbrev pub digit : ℕ → ℕ
digit d = 48 + d

-- a number below 10 is its digit; any other is the digits of n / 10, then the digit n % 10. The first argument is the turns left
unfoldable pub spelled : ℕ → ℕ → List ℕ
spelled zero n = []
spelled (suc turns) n = elim (ltb n 10) [ true ↦ digit n ∷ [] | false ↦ spelled turns (n / 10) ++ (digit (n % 10) ∷ []) ]

-- n in decimal: the most significant digit first, with no zeros in front
unfoldable pub decimal : ℕ → List ℕ
decimal n = spelled (suc n) n

-- ---- what the digits say

-- c is the ASCII code of a digit
pub record Digit (c : ℕ) : Type 0 where
  pub low : digit 0 ≤ c
  pub high : c ≤ digit 9

-- the number that digits say after those of n
abbrev pub read : ℕ → List ℕ → ℕ
read n [] = n
read n (c ∷ cs) = read (10 * n + (c - digit 0)) cs

-- a text of n: digits alone, which say n, of which the first is 0 only where it is the only one
pub record Spells (n : ℕ) (text : List ℕ) : Type 0 where
  pub some : 0 < length text
  pub each : Every Digit text
  pub says : read 0 text ≡ n
  pub first : get_or text 0 0 ≡ digit 0 → text ≡ digit 0 ∷ []

-- the most digits that a number below 2 ^ 64 has
abbrev pub most_digits : ℕ
most_digits = 20

-- ---- laws

-- what a digit alone has, and one digit more keeps, every number in decimal has
module _ (P : ℕ → List ℕ → Type 0) (one : (n : ℕ) → n < 10 → P n (digit n ∷ []))
    (more : (n : ℕ) (s : List ℕ) → 10 ≤ n → P (n / 10) s → P n (s ++ (digit (n % 10) ∷ []))) where
  spelled-each : (turns n : ℕ) → n < turns → P n (spelled turns n)
  unfolding spelled
  spelled-each zero n h = absurd (not-suc-le-zero h)
  spelled-each (suc turns) n h = go (ltb n 10) refl (spelled-each turns (n / 10))
    where
      go : (t : Bool) → ltb n 10 ≡ t → (n / 10 < turns → P (n / 10) (spelled turns (n / 10)))
          → P n (elim t [ true ↦ digit n ∷ [] | false ↦ spelled turns (n / 10) ++ (digit (n % 10) ∷ []) ])
      go true e rest = one n (ltb-true n 10 e)
      go false e rest = let l = ltb-false n 10 e in more n (spelled turns (n / 10)) l (rest (omega arith))

  decimal-each : (n : ℕ) → P n (decimal n)
  unfolding decimal
  decimal-each n = spelled-each (suc n) n (omega arith)

read-append : (n : ℕ) (s t : List ℕ) → read n (s ++ t) ≡ read (read n s) t
read-append n [] t = refl
read-append n (c ∷ s) t = read-append (10 * n + (c - digit 0)) s t

-- n in decimal is a text of n
pub decimal_spells : (n : ℕ) → Spells n (decimal n)
decimal_spells = decimal-each Spells one more
  where
    is_digit : (d : ℕ) → d < 10 → Digit (digit d)
    is_digit d h = record { low = omega arith; high = omega arith }

    one : (n : ℕ) → n < 10 → Spells n (digit n ∷ [])
    one n h = record { some = omega arith; each = (is_digit n h, tt); says = omega arith; first = ap (λ c. c ∷ []) }

    more : (n : ℕ) (s : List ℕ) → 10 ≤ n → Spells (n / 10) s → Spells n (s ++ (digit (n % 10) ∷ []))
    more n [] h p = absurd (omega (arith, p.some))
    more n (c ∷ s) h p =
        record {
          some = omega arith;
          each = every_append Digit (c ∷ s) _ p.each (is_digit (n % 10) (omega arith), tt);
          says = read-append 0 (c ∷ s) _ ∙ omega (arith, p.says);
          first = λ e. absurd (omega (arith, p.says, ap (read 0) (p.first e)));
        }

-- below 2 ^ 64 it has at most 20 digits
pub decimal-length : (n : ℕ) → n < 2 ^ 64 → length (decimal n) ≤ most_digits
decimal-length n h = decimal-each (λ n s. (k : ℕ) → n < 10 ^ suc k → length s ≤ suc k) (λ n h k l. omega arith) more n 19 (omega arith)
  where
    more : (n : ℕ) (s : List ℕ) → 10 ≤ n → ((k : ℕ) → n / 10 < 10 ^ suc k → length s ≤ suc k)
        → (k : ℕ) → n < 10 ^ suc k → length (s ++ (digit (n % 10) ∷ [])) ≤ suc k
    more n s h p zero l = absurd (omega arith)
    more n s h p (suc k) l = rw length-append (omega (arith, p k (omega (arith, pow-succ' 10 (suc k)))))

-- it is the fewest digits that hold n
pub decimal_fewest : (n k : ℕ) → IsDigitCount 10 1 n k → last_digits 10 k n ≡ decimal n
decimal_fewest = decimal-each (λ n s. (k : ℕ) → IsDigitCount 10 1 n k → last_digits 10 k n ≡ s) one more
  where
    low : (n k : ℕ) → IsDigitCount 10 1 n (suc (suc k)) → 10 ^ suc k ≤ n
    low n k f = let e : suc (suc k) - 1 ≡ suc k = omega arith in rw e at (f.2 (omega arith))

    one : (n : ℕ) → n < 10 → (k : ℕ) → IsDigitCount 10 1 n k → last_digits 10 k n ≡ digit n ∷ []
    one n h zero f = absurd (omega (arith, f.0))
    one n h (suc zero) f = let e : n % 10 ≡ n = omega arith in rw (e, lt-ltb n 10 h)
    one n h (suc (suc k)) f = absurd (omega (arith, low n k f, pow-succ' 10 k, one-le-pow k 10 (omega arith)))

    more : (n : ℕ) (s : List ℕ) → 10 ≤ n → ((k : ℕ) → IsDigitCount 10 1 (n / 10) k → last_digits 10 k (n / 10) ≡ s)
        → (k : ℕ) → IsDigitCount 10 1 n k → last_digits 10 k n ≡ s ++ (digit (n % 10) ∷ [])
    more n s h p zero f = absurd (omega (arith, f.0))
    more n s h p (suc zero) f = absurd (omega (arith, f.1))
    more n s h p (suc (suc k)) f =
        let e : suc k - 1 ≡ k = omega arith in
        let fewer : IsDigitCount 10 1 (n / 10) (suc k) =
        (omega arith, omega (arith, f.1, pow-succ' 10 (suc k)), λ l. rw e (omega (arith, low n k f, pow-succ' 10 k))) in
        rw (lt-ltb (n % 10) 10 (omega arith)) (ap (λ t. t ++ (digit (n % 10) ∷ [])) (p (suc k) fewer))

-- below 2 ^ 64 it is what std prints of the number
pub decimal_printed : (n : ℕ) → n < 2 ^ 64 → printed n ≡ decimal n
decimal_printed = decimal-each (λ n s. n < 2 ^ 64 → printed n ≡ s) (λ n h l. decimal_digit n h) more
  where
    more : (n : ℕ) (s : List ℕ) → 10 ≤ n → (n / 10 < 2 ^ 64 → printed (n / 10) ≡ s) → n < 2 ^ 64 → printed n ≡ s ++ (digit (n % 10) ∷ [])
    more n s h p l = decimal_step n h l ∙ ap (λ t. t ++ (digit (n % 10) ∷ [])) (p (omega arith))
