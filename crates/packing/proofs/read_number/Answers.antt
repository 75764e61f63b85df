-- The number's bytes, and zeros after them, make the number.
use Rattle.std.proofs.Common.{◌≡◌, ◌+◌, ◌∙◌, arith, length}
use Rattle.packing.specs.Part.{part, length_part}
use Rattle.packing.proofs.Wide.{val_filled, width_few}
use Rattle.packing.proofs.read_number.Goals as goal

pub returns : goal.returns
returns c =
    let bytes = part c.args.at (c.args.at + c.args.width) c.args.bytes.now in
    let n : length bytes ≡ c.args.width = length_part c.args.at (c.args.at + c.args.width) c.args.bytes.now (omega arith) c.requires.1 ∙ omega arith in
    rw c.copy_from_slice.ensures.after at c.from_le_bytes.ensures ∙ val_filled c.args.width bytes n (width_few c.requires.0)
