-- Each turn keeps the sector of one region by its block, and the block of each region is the first of the colouring or the last.
use Prim.Native.Nat.{◌<◌}
use native.Mathlib.Omega.{arith}
use mathlib.Core.Path.{sym, ◌∙◌}
use borrow.Author.Rules.{rules}
use lib.ListN.{length-set}
use Rattle.lists.specs.SumLaws.{length_from}
use Rattle.lists.specs.ListLaws.{drop-up_to}
use Rattle.lists.specs.Loops.{mapped_start, mapped_turn, mapped_end}
use Rattle.form.proofs.FirstLaws.{some_colouring, blocks_all}
use Rattle.salvage.specs.Keeping.{kept_next, last-due, length-colouring, kept-all}
use Rattle.salvage.proofs.surviving.keep_survivors.Goals as goal

pub block_sound-first-requires : goal.block_sound-first-requires
block_sound-first-requires c = (c.requires.has_blocks.0, omega (arith, c.colouring_first.ensures, some_colouring c.args.form c.requires.has_blocks.0.limits, blocks_all c.args.form c.args.head))

pub block_sound-last-requires : goal.block_sound-last-requires
block_sound-last-requires c = (c.requires.has_blocks.0, last-due c.args.form c.requires.has_blocks.0.limits c.count_first.ensures)

pub loop-i-init : goal.loop-i-init
loop-i-init c = (search rules, mapped_start (c.requires.colouring_value.1 ∙ sym (length_from 1 c.args.head.regions)))

pub bounds-colouring-i : goal.bounds-colouring-i
bounds-colouring-i c = omega (arith, c.loop-i-test.true, c.loop-i.invariant.0, c.requires.colouring_value.1, length-colouring c.args.form c.args.sheet.now c.requires.has_blocks.1 c.requires.colouring_value.0)

pub loop-i-preserved : goal.loop-i-preserved
loop-i-preserved c =
    let h : c.loop-i.i < c.args.head.regions = omega (arith, c.loop-i-test.true, c.loop-i.invariant.0, c.requires.colouring_value.1) in (
      simp length-set c.loop-i.invariant.0,
      mapped_turn c.loop-i.invariant.1 (drop-up_to c.args.head.regions c.loop-i.i h) (kept_next _ _ c.args.head.sectors c.args.colouring.now c.loop-i.i c.of_block.ensures c.kept.ensures),
    )

pub returns : goal.returns
returns c = kept-all c.args.form c.args.sheet.now c.requires.has_blocks.0.limits c.requires.has_blocks.1 c.colouring_first.ensures c.count_first.ensures c.block_sound-first.ensures c.block_sound-last.ensures c.requires.colouring_value.0 (mapped_end c.loop-i.invariant.1 (rw length_from (omega (arith, c.loop-i-test.false, c.loop-i.invariant.0, c.requires.colouring_value.1))))
