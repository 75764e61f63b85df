-- The chain adds up what each sector has above its first, and that fits.
use Rattle.std.proofs.Common.{◌-◌, rules, arith}
use Rattle.std.proofs.lemmas.Iterator.{YieldsList-from_slice}
use Rattle.std.proofs.lemmas.Iterator.Consumers.{YieldsList-at}
use Rattle.lists.specs.Few.{few_sum}
use Rattle.lists.proofs.Chains.{sum_from_chain, fits_from_chain}
use Rattle.meaning.specs.Plan.{most_regions}
use Rattle.judge.proofs.measures.excess_of.Goals as goal

pub sum-requires-clause-fits : goal.sum-requires-clause-fits
sum-requires-clause-fits c =
    fits_from_chain (λ n. n - 1) (YieldsList-at c.map.ensures.source (YieldsList-from_slice c.args.counts.now cc)) c.map.ensures.closure (λ x r q h. search rules)
    (omega (arith, few_sum c.requires most_regions (λ n. n - 1) (λ n h. omega arith)))

pub returns : goal.returns
returns c = sum_from_chain (λ n. n - 1) (YieldsList-at c.map.ensures.source (YieldsList-from_slice c.args.counts.now cc)) c.map.ensures.closure (λ x r q h. search rules) c.sum.ensures.ran
