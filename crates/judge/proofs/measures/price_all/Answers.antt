-- What is passed has its price, and each turn stores the next.
use native.Mathlib.Omega.{arith}
use borrow.Author.Rules.{rules}
use lib.ListN.{length-set}
use lib.Seq.{drop-cons}
use Rattle.lists.specs.Few.{few_at}
use Rattle.lists.specs.Loops.{mapped_start, mapped_turn, mapped_end}
use Rattle.judge.proofs.measures.price_all.Goals as goal

pub loop-i-init : goal.loop-i-init
loop-i-init c = (search rules, mapped_start c.requires.prices_len)

pub price-requires : goal.price-requires
price-requires c = record { paying = c.requires.paying; x_le_most_load = few_at c.requires.few c.loop-i.i }

pub loop-i-preserved : goal.loop-i-preserved
loop-i-preserved c = (simp length-set c.loop-i.invariant.0, mapped_turn c.loop-i.invariant.1 (drop-cons _ c.loop-i.i 0 (omega arith)) c.price.ensures)

pub shape_of-prices : goal.shape_of-prices
shape_of-prices c = c.loop-i.invariant.0

pub returns : goal.returns
returns c = mapped_end c.loop-i.invariant.1 (omega arith)
