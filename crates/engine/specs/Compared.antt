-- Two lists of labels compared, by a loop that does one a turn.
-- Assumes nothing.
use Rattle.std.specs.Prelude.{ℕ, suc, ◌+◌, ◌≤◌, ◌<◌, ◌≡◌, List, ◌∷◌, not, eqb, length, get_or, drop}
use Rattle.std.proofs.Common.{add_comm, arith, ◌∙◌, drop-cons}
use Rattle.lists.specs.Sums.{at, up_to, bit}
use Rattle.lists.specs.SumLaws.{length_from, get_or-from}
use Rattle.lists.specs.Places.{at_next}
use Rattle.lists.specs.Counts.{count-le}
use Rattle.lists.specs.Loops.{Summed, summed_start, summed_room, summed_turn, summed_end}
use Rattle.meaning.specs.Moves.{differing}

-- 1 where region u has another label, and otherwise 0
abbrev pub differs : List ℕ → List ℕ → ℕ → ℕ
differs before after u = bit (not (eqb (at before u) (at after u)))

-- n of the regions before index i have another label
pub record Compared (before after : List ℕ) (i n : ℕ) : Type 0 where
  pub sum : Summed (up_to (length before)) (differs before after) i n

-- before the first region none is compared
pub compared_start : {before after : List ℕ} → Compared before after 0 0
compared_start = record { sum = summed_start }

module _ {before after : List ℕ} {i n : ℕ} (s : Compared before after i n) where
  -- past the last region all are compared
  pub compared_end : length before ≤ i → n ≡ differing (length before) before after
  unfolding differing
  compared_end h = summed_end s.sum (rw (length_from 1 (length before)) h)

  module _ (h : i < length before) {r : ℕ} (e : r ≡ bit (not (eqb (get_or before i 0) (get_or after i 0)))) where
    -- the next region
    next : drop i (up_to (length before)) ≡ (i + 1) ∷ drop (suc i) (up_to (length before))
    next =
        drop-cons (up_to (length before)) i 0 (rw (length_from 1 (length before)) h)
        ∙ rw (get_or-from 1 (length before) i h, add_comm 1 i)

    -- whether it has another label
    here : r ≡ differs before after (i + 1)
    here = rw (at_next before i, at_next after i) e

    -- at most all regions have
    pub compared_room : n + r ≤ length before
    compared_room =
        omega (
          arith,
          summed_room s.sum next here,
          count-le (length before) (λ u. not (eqb (at before u) (at after u))),
        )

    -- the next region is compared
    pub compared_turn : Compared before after (i + 1) (n + r)
    compared_turn = record { sum = summed_turn s.sum next here }
