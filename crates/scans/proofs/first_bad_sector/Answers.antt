-- The first number that the test passes is the first that is not right.
use Rattle.std.specs.Prelude.{not}
use Rattle.std.proofs.Common.{rules, tests}
use Rattle.std.proofs.lemmas.Iterator.{YieldsList-from_slice}
use Rattle.std.proofs.lemmas.Iterator.Search.{position_from_yields_List}
use Rattle.terms.specs.Plan.{within}
use Rattle.scans.proofs.Positions.{place_of_number}
use Rattle.scans.proofs.first_bad_sector.Goals as goal

pub returns : goal.returns
returns c =
    place_of_number (λ x. within 1 x c.args.sectors) _
    (position_from_yields_List (λ x. not (within 1 x c.args.sectors)) _ _ _ c.position.ensures.ran (YieldsList-from_slice c.args.colouring.now cc) (λ x b q k. search (rules, tests)))
