-- The letters, the kind and two numbers, put down in ten zeros, are the header.
use Rattle.std.proofs.Common.{arith, rules, length-set}
use Rattle.packing.specs.Numbers.{two}
use Rattle.blocks.specs.Block.{kind_at}
use Rattle.blocks.specs.BlockLaws.{header-put}
use Rattle.blocks.proofs.header_of.Goals as goal

pub write_number-requires : goal.write_number-requires
write_number-requires c = (two, omega (arith, c.copy_to.auto.bytes, length-set c.copy_to.new.bytes kind_at c.args.due.kind))

pub write_number-requires-2 : goal.write_number-requires-2
write_number-requires-2 c = (two, search rules)

pub returns : goal.returns
returns c =
    header-put c.args.letters.now c.args.due.kind c.args.number c.args.due.used c.requires
    c.copy_to.ensures
    c.write_number.ensures
    c.write_number-2.ensures
