-- How long the texts are: what a buffer must hold.
-- Assumes nothing.
use Prim.Native.Nat.{ℕ, zero, suc, ◌+◌, ◌*◌, ◌/◌, ◌^◌, ◌≤◌, ◌<◌}
use native.Mathlib.Omega.{arith}
use Rattle.std.specs.Prelude.{◌≡◌, refl, List, [], ◌∷◌, ◌++◌, length, get_or, take, drop}
use Rattle.std.proofs.Common.{sym, ap, ◌∙◌, append_assoc, append-nil, take-append-drop, take-suc}
use Rattle.std.proofs.Math.ListN.{length-append}
use Rattle.meaning.specs.Plan.{constraint_length, most_constraints}
use Rattle.report.specs.Decimal.{decimal-length}
use Rattle.report.specs.Text.{space, newline, number, line, line_at, lines, total_line, verdict_text, refused_text, number_lines, most_number, most_line, most_refused, most_text}

-- each number of a list is below 2 ^ 64
pub record Words (xs : List ℕ) : Type 0 where
  pub each : (i : ℕ) → get_or xs i 0 < 2 ^ 64

-- a number has at most 20 digits, and one byte after it
number-length : (n after : ℕ) → n < 2 ^ 64 → length (number n after) ≤ most_number
unfolding number
number-length n after h = rw length-append (omega (arith, decimal-length n h))

-- a line has four numbers
line-length : (place kind holds violation : ℕ) → place < 2 ^ 64 → kind < 2 ^ 64 → holds < 2 ^ 64 → violation < 2 ^ 64 → length (line place kind holds violation) ≤ most_line
unfolding line
line-length place kind holds violation p k h v =
    simp length-append
    (omega (arith, number-length place space p, number-length kind space k, number-length holds space h, number-length violation newline v))

module _ {constraints verdicts : List ℕ} (cs : Words constraints) (vs : Words verdicts) where
  -- the line of one of few constraints
  pub line-at-length : (k : ℕ) → k < most_constraints → length (line_at constraints verdicts k) ≤ most_line
  line-at-length k h = line-length (k + 1) _ _ _ (omega arith) (cs.each _) (vs.each _) (vs.each _)

  -- the lines of the first n constraints, of which there are few
  pub lines-length : (n : ℕ) → n ≤ most_constraints → length (lines constraints verdicts n) ≤ most_line * n
  unfolding lines
  lines-length zero h = omega arith
  lines-length (suc n) h = rw length-append (omega (arith, lines-length n (omega arith), line-at-length n h))

  -- what is printed of the verdicts has room in a buffer of the most bytes
  pub verdict-length : {total : ℕ} → total < 2 ^ 64 → length constraints / constraint_length ≤ most_constraints → length (verdict_text constraints verdicts total) ≤ most_text
  unfolding verdict_text total_line
  verdict-length {total} t few =
      simp length-append (omega (arith, lines-length _ few, number-length total newline t))

-- a refusal has a word and two numbers
pub refused-length : (code place : ℕ) → code < 2 ^ 64 → place < 2 ^ 64 → length (refused_text code place) ≤ most_refused
unfolding refused_text
refused-length code place c p = simp length-append (omega (arith, number-length code space c, number-length place newline p))

-- ---- numbers, each on a line

-- the lines of two lists of numbers, one after the other
pub number-lines-append : (ms ns : List ℕ) → number_lines (ms ++ ns) ≡ number_lines ms ++ number_lines ns
unfolding number_lines
number-lines-append [] ns = refl
number-lines-append (m ∷ ms) ns = ap (λ (l : List ℕ). number m newline ++ l) (number-lines-append ms ns) ∙ sym (append_assoc (number m newline) (number_lines ms) (number_lines ns))

-- the lines of the first k numbers, and that of the next
pub number-lines-next : (ns : List ℕ) (k : ℕ) → k < length ns → number_lines (take k ns) ++ number (get_or ns k 0) newline ≡ number_lines (take (suc k) ns)
unfolding number_lines
number-lines-next ns k h =
    sym (ap number_lines (take-suc ns k 0 h) ∙ number-lines-append (take k ns) (get_or ns k 0 ∷ []) ∙ ap (λ (l : List ℕ). number_lines (take k ns) ++ l) (append-nil _))

-- the lines of the first k numbers are not longer than all
pub number-lines-front : (ns : List ℕ) (k : ℕ) → length (number_lines (take k ns)) ≤ length (number_lines ns)
number-lines-front ns k =
    omega (
      arith,
      length-append (number_lines (take k ns)) (number_lines (drop k ns)),
      ap length (number-lines-append (take k ns) (drop k ns)),
      ap (λ (l : List ℕ). length (number_lines l)) (take-append-drop k ns),
    )

-- each line has one number
pub number-lines-length : (ns : List ℕ) → Words ns → length (number_lines ns) ≤ most_number * length ns
unfolding number_lines
number-lines-length [] w = omega arith
number-lines-length (n ∷ ns) w =
    rw length-append (omega (arith, number-length n newline (w.each 0), number-lines-length ns (record { each = λ i. w.each (suc i) })))
