-- Document 02, C-22: the figures over many sheets.
-- Assumes nothing.
use Rattle.std.specs.Prelude.{ℕ, suc, ◌*◌, ◌/◌, Bool, cond, not, ◌&&◌, List, [], ◌∷◌, Option, None, Some, unwrap_or, map, eqb, ltb, length, get_or}
use Rattle.lists.specs.Sums.{from, up_to, sum, count}
use Rattle.meaning.specs.Plan.{constraint_length, constraint_at, most_kind}
use Rattle.meaning.specs.Moves.{verdict_length}
use Rattle.judging.specs.Judgement.{judgement}
use Rattle.judgement.specs.Promise.{code, total_of}
use Rattle.review.specs.declared.Extreme.{Extreme}
use Rattle.review.specs.declared.Review.{Review}

-- ---- one sheet

-- it is read soundly
abbrev pub sound : List ℕ → Bool
sound sheet = eqb (code sheet) 0

-- it is, and its total is zero
abbrev pub zero_total : List ℕ → Bool
zero_total sheet = sound sheet && eqb (total_of sheet) 0

-- constraint k, from 0, of the flat lists is of a kind, and does not hold
abbrev pub fails : ℕ → List ℕ → List ℕ → ℕ → Bool
fails kind constraints verdicts k = eqb (constraint_at constraints k).kind kind && eqb (get_or verdicts (verdict_length * k) 0) 0

-- how many constraints of a kind do not hold
unfoldable pub failing : ℕ → List ℕ → List ℕ → ℕ
failing kind constraints verdicts = count (from 0 (length constraints / constraint_length)) (fails kind constraints verdicts)

-- in a sheet: a refused one has no constraints
abbrev pub failed_in : ℕ → List ℕ → ℕ
failed_in kind sheet = let j = judgement sheet in failing kind j.constraints j.verdicts

-- ---- the smallest and the largest total

-- a total and its place
abbrev pub extreme : ℕ → ℕ → Extreme
extreme total place = record { total = total; place = place }

-- what is shown of it: both are 0 where there is none
abbrev pub shown : Option Extreme → Extreme
shown known = unwrap_or known (extreme 0 0)

-- a total at a place, where none is known yet or where it goes before the known one; else the known one, so that of equal totals the first stays
unfoldable pub better : (ℕ → ℕ → Bool) → Option Extreme → ℕ → ℕ → Option Extreme
better before None total place = Some (extreme total place)
better before (Some known) total place = cond (before total known.total) (Some (extreme total place)) (Some known)

-- the first of what is known and of the sheets from a place on, whose total none goes before; a refused sheet has no total
unfoldable pub extreme_from : (ℕ → ℕ → Bool) → Option Extreme → ℕ → List (List ℕ) → Option Extreme
extreme_from before known place [] = known
extreme_from before known place (s ∷ ss) = extreme_from before (cond (sound s) (better before known (total_of s) place) known) (suc place) ss

-- that of all sheets, whose places are from 1
abbrev pub extreme_of : (ℕ → ℕ → Bool) → List (List ℕ) → Option Extreme
extreme_of before sheets = extreme_from before None 1 sheets

-- the smallest goes before by being smaller, the largest by being larger
abbrev pub smaller : ℕ → ℕ → Bool
smaller x y = ltb x y

abbrev pub larger : ℕ → ℕ → Bool
larger x y = ltb y x

-- ---- the figures

-- how many are read soundly, are refused, have total zero; how many constraints of each kind from 1 on failed; the smallest and the largest total, each with its first place
unfoldable pub review_of : List (List ℕ) → Review
review_of sheets =
    record {
      sound = count sheets sound;
      refused = count sheets (λ s. not (sound s));
      zero = count sheets zero_total;
      failed = map (λ kind. sum sheets (failed_in kind)) (up_to most_kind);
      smallest = extreme_of smaller sheets;
      largest = extreme_of larger sheets;
    }
