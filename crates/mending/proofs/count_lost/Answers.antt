-- The sectors that are kept by the filter are those of the lost regions.
use Rattle.std.specs.Prelude.{eqb}
use Rattle.std.proofs.Common.{rules, tests, ◌∙◌}
use Rattle.std.proofs.lemmas.Iterator.{YieldsList-from_slice}
use Rattle.std.proofs.lemmas.Iterator.Consumers.{YieldsList-at, YieldsList-from_filter, count_from_yields_List}
use Rattle.mending.specs.MendedLaws.{lost_counted}
use Rattle.mending.proofs.count_lost.Goals as goal

pub returns : goal.returns
returns c =
    count_from_yields_List c.filter.result _ c.count.ensures.ran (YieldsList-from_filter _ (λ x. eqb x 0) (YieldsList-at c.filter.ensures.source (YieldsList-from_slice c.args.survivors.now cc)) c.filter.ensures.closure (λ x b q k. search (rules, tests)))
    ∙ lost_counted c.args.survivors.now
