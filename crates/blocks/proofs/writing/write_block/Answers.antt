-- The check is put down after the bytes that it is over.
use Rattle.std.proofs.Common.{◌*◌}
use Rattle.blocks.specs.Block.{block_length}
use Rattle.blocks.specs.Filling.{block_put}
use Rattle.blocks.proofs.writing.write_block.Goals as goal

pub returns : goal.returns
returns c =
    block_put c.requires.filling c.args.block.kind c.args.block.number c.args.sheet.now (block_length * c.args.block.number) c.requires.block_length_in_bounds
    c.write_body.ensures
    c.write_check.ensures
