-- Document 02, C-11, and the report's section 4.3: the stretches of a flight.
-- Assumes nothing.
use Rattle.std.specs.Prelude.{ℕ, List, [], ◌∷◌, Bool, false, cond, ◌||◌, eqb}
use Rattle.lists.specs.Sums.{at, sum}
use Rattle.meaning.specs.Plan.{Visit}

-- the sector that a visit is in
abbrev pub sector_of : List ℕ → Visit → ℕ
sector_of col v = at col v.region

-- a visit before some stretches: one with the first of them where both are in one sector, else a stretch of its own
unfoldable pub before : List ℕ → Visit → List (List Visit) → List (List Visit)
before col v [] = (v ∷ []) ∷ []
before col v ([] ∷ ss) = (v ∷ []) ∷ ss
before col v ((w ∷ s) ∷ ss) =
    cond (eqb (sector_of col v) (sector_of col w)) ((v ∷ w ∷ s) ∷ ss) ((v ∷ []) ∷ (w ∷ s) ∷ ss)

-- the stretches of a flight: the largest unbroken runs of its visits in one sector (`Stretched` proves that this is so)
unfoldable pub stretches : List ℕ → List Visit → List (List Visit)
stretches col [] = []
stretches col (v ∷ vs) = before col v (stretches col vs)

-- the summed dwell of a stretch
abbrev pub dwell_of : List Visit → ℕ
dwell_of s = sum s (λ v. v.dwell)

-- some of these visits is to region u
unfoldable pub visits : ℕ → List Visit → Bool
visits u [] = false
visits u (v ∷ vs) = eqb v.region u || visits u vs
