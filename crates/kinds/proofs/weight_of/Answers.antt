-- The chain adds up what each constraint of the kind weighs, and that fits.
use Rattle.std.proofs.Common.{rules, arith}
use borrow.Author.Tests.{tests}
use Rattle.meaning.specs.Prices.{weight_of}
use Rattle.kinds.specs.Paid.{weight_by, paying_weight}
use Rattle.lists.proofs.Chains.{sum_from_chain, fits_from_chain}
use Rattle.kinds.proofs.Chains.{all_constraints}
use Rattle.kinds.proofs.weight_of.Goals as goal

pub sum-requires-clause-fits : goal.sum-requires-clause-fits
unfolding weight_of
sum-requires-clause-fits c =
    fits_from_chain (weight_by c.args.kind) (all_constraints c.map.ensures.source) c.map.ensures.closure (λ k r q h. search (rules, tests)) (omega (arith, paying_weight c.requires c.args.kind))

pub returns : goal.returns
unfolding weight_of
returns c = sum_from_chain (weight_by c.args.kind) (all_constraints c.map.ensures.source) c.map.ensures.closure (λ k r q h. search (rules, tests)) c.sum.ensures.ran
