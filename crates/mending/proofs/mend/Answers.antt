-- What is passed has the sectors of the mended colouring, and each turn stores the next.
use mathlib.Core.Path.{sym, ◌∙◌}
use borrow.Author.Rules.{rules}
use lib.ListN.{length, length-set}
use Rattle.lists.specs.SumLaws.{length_from}
use Rattle.lists.specs.ListLaws.{drop-up_to}
use Rattle.lists.specs.Loops.{mapped_start, mapped_turn, mapped_end}
use Rattle.mending.specs.Mended.{mended}
use Rattle.mending.proofs.mend.Goals as goal

pub loop-i-init : goal.loop-i-init
loop-i-init c = (search rules, mapped_start (c.requires.colouring_len ∙ sym (length_from 1 (length c.args.survivors.now))))

pub loop-i-preserved : goal.loop-i-preserved
loop-i-preserved c = (simp length-set c.loop-i.invariant.0, mapped_turn c.loop-i.invariant.1 (drop-up_to (length c.args.survivors.now) c.loop-i.i (rw c.requires.colouring_len at c.loop-i-test.true)) c.sector_mended.ensures)

pub returns : goal.returns
unfolding mended
returns c = mapped_end c.loop-i.invariant.1 (rw (length_from 1 (length c.args.survivors.now)) (rw c.requires.colouring_len at c.loop-i-test.false))
