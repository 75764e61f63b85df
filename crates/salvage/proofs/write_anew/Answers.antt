-- The sheet is copied to the front of the lent bytes, and the colouring's blocks are written there.
use Rattle.std.proofs.Common.{arith}
use Rattle.form.proofs.FirstLaws.{blocks_all}
use Rattle.form.proofs.AcceptedLaws.{opened_blocks}
use Rattle.salvage.specs.Steps.{written_anew}
use Rattle.salvage.proofs.write_anew.Goals as goal

pub colouring_first-first-requires : goal.colouring_first-first-requires
colouring_first-first-requires c = (opened_blocks c.requires.opened.0 c.requires.opened.1).limits

pub write_kind-requires : goal.write_kind-requires
write_kind-requires c =
    let b = opened_blocks c.requires.opened.0 c.requires.opened.1 in
    record { head_limits = b.limits; blocks = omega (arith, b.long, c.requires.sheet_in_bounds.0, c.copy_to.auto.bytes, c.colouring_first-first.ensures, blocks_all c.args.form c.args.head); numbers_len = omega (arith, c.requires.sheet_in_bounds.1) }

pub returns : goal.returns
returns c = written_anew c.requires.opened.0 c.requires.opened.1 c.args.salvaged.now c.args.colouring.now c.copy_to.ensures (rw c.colouring_first-first.ensures at c.write_kind.ensures.sheet_after)
