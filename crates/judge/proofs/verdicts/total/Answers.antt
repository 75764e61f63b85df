-- The chain adds up what each constraint adds, which fits with what the figures have besides.
use Rattle.std.proofs.Common.{◌≡◌, rules, arith}
use Rattle.std.proofs.lemmas.Iterator.Adapters.{serves_from_places}
use Rattle.lists.specs.Sums.{sum}
use Rattle.lists.proofs.Chains.{sum_from_chain, fits_from_chain}
use Rattle.meaning.specs.Plan.{constraints_of}
use Rattle.kinds.specs.Paid.{paying_item}
use Rattle.kinds.proofs.Chains.{all_constraints}
use Rattle.judge.specs.Figures.{weighted_by, total_by}
use Rattle.judge.specs.Small.{total_bound}
use Rattle.judge.proofs.verdicts.total.Goals as goal
use Rattle.judge.proofs.verdicts.total.Goals.{After-sum-weighted}

pub sum-weighted-requires-clause-can : goal.sum-weighted-requires-clause-can
sum-weighted-requires-clause-can c =
    (tt, serves_from_places (all_constraints c.map.ensures.source) (λ k q h. search rules) (λ k i below e. let l = paying_item c.requires.paying below e in search rules))

pub sum-weighted-requires-clause-fits : goal.sum-weighted-requires-clause-fits
unfolding total_by
sum-weighted-requires-clause-fits c =
    fits_from_chain (weighted_by c.args.figures) (all_constraints c.map.ensures.source) c.map.ensures.closure (λ k r q h. search rules)
    (omega (arith, total_bound c.requires.small_figures c.requires.paying))

-- all are added up
all_added : (c : After-sum-weighted) → c.sum-weighted.result ≡ sum (constraints_of c.args.shared.now) (weighted_by c.args.figures)
all_added c = sum_from_chain (weighted_by c.args.figures) (all_constraints c.map.ensures.source) c.map.ensures.closure (λ k r q h. search rules) c.sum-weighted.ensures.ran

pub overflow_add-result : goal.overflow_add-result
unfolding total_by
overflow_add-result c = omega (arith, all_added (goal.at.overflow_add-result c).After-sum-weighted, total_bound c.requires.small_figures c.requires.paying)

pub overflow_add-result-2 : goal.overflow_add-result-2
unfolding total_by
overflow_add-result-2 c = omega (arith, all_added (goal.at.overflow_add-result-2 c).After-sum-weighted, total_bound c.requires.small_figures c.requires.paying)

pub returns : goal.returns
unfolding total_by
returns c = rw (all_added (goal.at.returns c).After-sum-weighted)
