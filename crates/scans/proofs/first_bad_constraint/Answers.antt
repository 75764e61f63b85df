-- The first index that the test passes is that of the first item that is not right.
use Rattle.std.specs.Prelude.{not, ◌/◌, length}
use Rattle.std.proofs.Common.{rules, tests}
use Rattle.std.proofs.lemmas.Iterator.{YieldsList-from_range}
use Rattle.std.proofs.lemmas.Iterator.Search.{position_from_yields_List}
use Rattle.meaning.specs.Plan.{constraint_length}
use Rattle.scans.specs.Items.{constraint_right}
use Rattle.scans.proofs.Positions.{place_in_range}
use Rattle.scans.proofs.first_bad_constraint.Goals as goal

pub returns : goal.returns
returns c =
    place_in_range (constraint_right c.args.kinds c.args.constraints.now) _
    (position_from_yields_List (λ k. not (constraint_right c.args.kinds c.args.constraints.now k)) _ _ _ c.position.ensures.ran (YieldsList-from_range 0 (length c.args.constraints.now / constraint_length) _ (cc) (search rules)) (λ x b q k. search (rules, tests)))
