-- The chain adds up how far each workload is from the average, and that fits.
use Rattle.std.proofs.Common.{◌*◌, ◌≤◌, rules, arith, mul-le-mul}
use Rattle.std.proofs.lemmas.Iterator.{YieldsList-from_slice}
use Rattle.std.proofs.lemmas.Iterator.Adapters.{serves_from_places}
use Rattle.std.proofs.lemmas.Iterator.Consumers.{YieldsList-at}
use Rattle.lists.specs.Few.{few_item}
use Rattle.lists.proofs.Chains.{sum_from_chain, fits_from_chain}
use Rattle.terms.specs.Distance.{gap}
use Rattle.meaning.specs.Plan.{most_sectors}
use Rattle.meaning.specs.Bounds.{most_load}
use Rattle.judge.specs.Small.{deviation_small}
use Rattle.judge.proofs.measures.deviation_of.Goals as goal

pub sum-requires-clause-can : goal.sum-requires-clause-can
sum-requires-clause-can c = (
  tt,
  serves_from_places (YieldsList-at c.map.ensures.source (YieldsList-from_slice c.args.loads.now cc)) (λ x q h. search rules)
      (λ x k below e.
      let m : c.args.sectors * x.now ≤ most_sectors * most_load = mul-le-mul c.requires.sectors_le_most_sectors (few_item c.requires.few below e) in
      search rules),
)

pub sum-requires-clause-fits : goal.sum-requires-clause-fits
sum-requires-clause-fits c =
    fits_from_chain (λ x. gap (c.args.sectors * x) c.args.whole) (YieldsList-at c.map.ensures.source (YieldsList-from_slice c.args.loads.now cc)) c.map.ensures.closure (λ x r q h. search rules)
    (omega (arith, deviation_small c.requires.few c.requires.sectors_le_most_sectors c.requires.whole_le_most_load))

pub returns : goal.returns
returns c = sum_from_chain (λ x. gap (c.args.sectors * x) c.args.whole) (YieldsList-at c.map.ensures.source (YieldsList-from_slice c.args.loads.now cc)) c.map.ensures.closure (λ x r q h. search rules) c.sum.ensures.ran
