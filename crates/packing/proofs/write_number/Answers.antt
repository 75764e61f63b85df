-- The number's first bytes are put down.
use Rattle.std.proofs.Common.{◌∙◌, ap}
use Rattle.packing.specs.Put.{put}
use Rattle.packing.proofs.Wide.{le_wide, width_few}
use Rattle.packing.proofs.write_number.Goals as goal

pub returns : goal.returns
returns c = rw c.to_le_bytes-wide.ensures at c.copy_to.ensures ∙ ap (put c.args.bytes.now c.args.at) (le_wide c.args.width c.args.number (width_few c.requires.0))
