-- The header, the payload and the zeros are put down one after the other.
use Rattle.blocks.specs.Filling.{body-put}
use Rattle.blocks.proofs.writing.write_body.Goals as goal

pub returns : goal.returns
returns c =
    body-put c.requires.filling c.args.block.kind c.args.block.number c.args.sheet.now c.args.at c.requires.block_length_in_bounds
    c.header_of.ensures
    c.copy_to.ensures
    c.write_records.ensures
    c.zero_to.ensures
