-- The chain adds up the distance of each workload, and that fits.
use Rattle.std.proofs.Common.{rules, arith}
use Rattle.std.proofs.lemmas.Iterator.{YieldsList-from_slice}
use Rattle.std.proofs.lemmas.Iterator.Adapters.{serves_from_places}
use Rattle.std.proofs.lemmas.Iterator.Consumers.{YieldsList-at}
use Rattle.lists.specs.Few.{few_item}
use Rattle.lists.proofs.Chains.{sum_from_chain, fits_from_chain}
use Rattle.terms.specs.Distance.{distance}
use Rattle.judge.specs.Small.{distances_small}
use Rattle.judge.proofs.measures.distances.Goals as goal

pub sum-requires-clause-can : goal.sum-requires-clause-can
sum-requires-clause-can c =
    (tt, serves_from_places (YieldsList-at c.map.ensures.source (YieldsList-from_slice c.args.loads.now cc)) (λ x q h. search rules) (λ x k below e. let b = few_item c.requires.few below e in search rules))

pub sum-requires-clause-fits : goal.sum-requires-clause-fits
sum-requires-clause-fits c =
    fits_from_chain (λ x. distance c.args.relation x c.args.limit) (YieldsList-at c.map.ensures.source (YieldsList-from_slice c.args.loads.now cc)) c.map.ensures.closure (λ x r q h. search rules)
    (omega (arith, distances_small c.requires.few c.args.relation c.requires.limit_le_most_limit))

pub returns : goal.returns
returns c = sum_from_chain (λ x. distance c.args.relation x c.args.limit) (YieldsList-at c.map.ensures.source (YieldsList-from_slice c.args.loads.now cc)) c.map.ensures.closure (λ x r q h. search rules) c.sum.ensures.ran
