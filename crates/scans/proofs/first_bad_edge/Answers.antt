-- The first index that the test passes is that of the first item that is not right.
use Rattle.std.specs.Prelude.{not, ◌/◌, length}
use Rattle.std.proofs.Common.{rules, tests}
use Rattle.std.proofs.lemmas.Iterator.{YieldsList-from_range}
use Rattle.std.proofs.lemmas.Iterator.Search.{position_from_yields_List}
use Rattle.meaning.specs.Plan.{edge_length}
use Rattle.scans.specs.Items.{edge_right}
use Rattle.scans.proofs.Positions.{place_in_range}
use Rattle.scans.proofs.first_bad_edge.Goals as goal

pub returns : goal.returns
returns c =
    place_in_range (edge_right c.args.regions c.args.edges.now) _
    (position_from_yields_List (λ k. not (edge_right c.args.regions c.args.edges.now k)) _ _ _ c.position.ensures.ran (YieldsList-from_range 0 (length c.args.edges.now / edge_length) _ (cc) (search rules)) (λ x b q k. search (rules, tests)))
