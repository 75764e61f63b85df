-- The visits of one flight are right where the test of each index is passed.
-- Assumes nothing.
use Rattle.std.specs.Prelude.{ℕ, zero, suc, ◌≡◌, Bool, true, false, ◌&&◌, map}
use Rattle.std.specs.List.{list_all, range_with_len}
use Rattle.std.proofs.Common.{refl, add-one}
use Rattle.lists.specs.Sums.{from}
use Rattle.terms.specs.Plan.{within}
use Rattle.meaning.specs.Plan.{Visit, most_dwell}
use Rattle.scans.specs.Items.{visits_right}

-- the test of a visit
abbrev pub fits : ℕ → Visit → Bool
fits R v = within 1 v.region R && within 1 v.dwell most_dwell

pub visits_listed : (R k n : ℕ) (visit : ℕ → Visit) → list_all (λ j. fits R (visit j)) (range_with_len k n) ≡ visits_right R (map visit (from k n))
unfolding visits_right
visits_listed R k zero visit = refl
visits_listed R k (suc n) visit =
    rw add-one (joined (within 1 (visit k).region R) (within 1 (visit k).dwell most_dwell) (visits_listed R (suc k) n visit))
  where
    joined : (a b : Bool) {x y : Bool} → x ≡ y → ((a && b) && x) ≡ (a && b && y)
    joined true true e = e
    joined true false e = refl
    joined false b e = refl
