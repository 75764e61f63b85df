-- The chain adds up what x pays for each constraint, and that fits.
use Rattle.std.proofs.Common.{rules, arith}
use Rattle.std.proofs.lemmas.Iterator.Adapters.{serves_from_places}
use Rattle.meaning.specs.Prices.{price}
use Rattle.kinds.specs.Paid.{price_by, paying_bound, paying_item}
use Rattle.lists.proofs.Chains.{sum_from_chain, fits_from_chain}
use Rattle.kinds.proofs.Chains.{all_constraints}
use Rattle.kinds.proofs.price.Goals as goal

pub sum-requires-clause-can : goal.sum-requires-clause-can
sum-requires-clause-can c =
    (tt, serves_from_places (all_constraints c.map.ensures.source) (λ k q h. search rules) (λ k i below e. let l = paying_item c.requires.paying below e in search rules))

pub sum-requires-clause-fits : goal.sum-requires-clause-fits
unfolding price
sum-requires-clause-fits c =
    fits_from_chain (price_by c.args.x) (all_constraints c.map.ensures.source) c.map.ensures.closure (λ k r q h. search rules) (omega (arith, paying_bound c.requires.paying c.args.x c.requires.x_le_most_load))

pub returns : goal.returns
unfolding price
returns c = sum_from_chain (price_by c.args.x) (all_constraints c.map.ensures.source) c.map.ensures.closure (λ k r q h. search rules) c.sum.ensures.ran
