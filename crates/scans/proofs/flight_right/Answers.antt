-- Each index of a visit passes the test, or one fails.
use Rattle.std.specs.Prelude.{◌/◌, length}
use Rattle.std.proofs.Common.{rules, tests, ◌∙◌}
use Rattle.std.proofs.lemmas.Iterator.{YieldsList-from_range}
use Rattle.std.proofs.lemmas.Iterator.Search.{all_from_yields_List}
use Rattle.meaning.specs.Plan.{visit_length, visit_at, visits_of}
use Rattle.scans.proofs.Visits.{fits, visits_listed}
use Rattle.scans.proofs.flight_right.Goals as goal

pub returns : goal.returns
unfolding visits_of
returns c =
    all_from_yields_List (λ k. fits c.args.regions (visit_at c.args.visits.now k)) _ _ _ c.all.ensures.ran (YieldsList-from_range 0 (length c.args.visits.now / visit_length) (length c.args.visits.now / visit_length) (cc) (search rules)) (λ x b q k. search (rules, tests))
    ∙ visits_listed c.args.regions 0 _ (visit_at c.args.visits.now)
