-- Each part is put down where the one before it ends, and the longest refusal has room.
use Prim.Native.Nat.{◌≤◌}
use native.Mathlib.Omega.{arith}
use lib.ListN.{length, length-append}
use Rattle.report.specs.Placed.{placed_then}
use Rattle.report.specs.Text.{refused_text, most_refused}
use Rattle.report.specs.TextLaws.{refused-length}
use Rattle.report.proofs.put_refused.Goals as goal
use Rattle.report.proofs.put_refused.Goals.{Start}

fits : (c : Start) → length (refused_text c.args.code c.args.place) ≤ most_refused
fits c = refused-length _ _ c.ranges.code.fits c.ranges.place.fits

pub put_number-past_code-requires : goal.put_number-past_code-requires
unfolding refused_text
put_number-past_code-requires c = omega (arith, c.requires, simp length-append at (fits (goal.at.put_number-past_code-requires c).Start))

pub put_number-requires : goal.put_number-requires
unfolding refused_text
put_number-requires c = omega (arith, c.requires, simp length-append at (fits (goal.at.put_number-requires c).Start))

pub returns : goal.returns
unfolding refused_text
returns c = placed_then (placed_then c.put_word-past_word.ensures c.put_number-past_code.ensures) c.put_number.ensures
