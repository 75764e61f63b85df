-- What survives is mended in the front of an array, and the colouring's blocks are written with it.
use mathlib.Core.Path.{sym, ◌∙◌}
use Rattle.lists.specs.Fronts.{zeros, take_back, back_length}
use Rattle.meaning.specs.Plan.{most_regions}
use Rattle.salvage.specs.Steps.{regions_room, regions_lent, length_surviving, written-mended}
use Rattle.salvage.proofs.write_mended.Goals as goal

pub mend-requires : goal.mend-requires
mend-requires c = record { ends = c.requires.mendable.ends; colouring_len = regions_lent c.requires.mendable.opened c.requires.mendable.head ∙ sym (length_surviving c.requires.mendable) }

pub write_anew-requires : goal.write_anew-requires
write_anew-requires c = record { opened = (c.requires.mendable.opened, c.requires.mendable.head); sheet_in_bounds = (c.requires.sheet_in_bounds, back_length c.args.head.regions (zeros most_regions) (regions_room c.requires.mendable.opened c.requires.mendable.head) c.mend.new.colouring c.mend.auto.colouring) }

pub returns : goal.returns
returns c = written-mended c.requires.mendable c.args.salvaged.now c.mend.ensures (take_back c.args.head.regions (zeros most_regions) (regions_room c.requires.mendable.opened c.requires.mendable.head) c.mend.new.colouring c.mend.auto.colouring) c.write_anew.ensures
