-- The text of an input, in the parts that are put down one after the other.
-- Assumes nothing.
use Rattle.std.specs.Prelude.{◌≡◌, [], ◌∷◌, ◌++◌}
use Rattle.std.proofs.Common.{append_assoc}
use Rattle.report.specs.Text.{number_lines}
use Rattle.report.specs.TextLaws.{number-lines-append}
use Rattle.review.specs.declared.Review.{Review}
use Rattle.review.specs.Review.{shown}
use Rattle.review.specs.Stream.{numbers}

-- the lines of the three counts, of what failed of each kind, and of the two totals with their places
pub figure_lines : (r : Review)
    → number_lines (r.sound ∷ r.refused ∷ r.zero ∷ []) ++ number_lines r.failed ++ number_lines ((shown r.smallest).total ∷ (shown r.smallest).place ∷ (shown r.largest).total ∷ (shown r.largest).place ∷ [])
    ≡ number_lines (numbers r)
unfolding numbers
figure_lines r =
    let counts = r.sound ∷ r.refused ∷ r.zero ∷ [] in
    let totals = (shown r.smallest).total ∷ (shown r.smallest).place ∷ (shown r.largest).total ∷ (shown r.largest).place ∷ [] in
    rw (← number-lines-append counts r.failed, ← number-lines-append (counts ++ r.failed) totals, append_assoc counts r.failed totals)
