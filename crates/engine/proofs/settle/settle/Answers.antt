-- The figures and the total follow the change, and with the numbers of the two sectors put down all is that of the new colouring.
use Rattle.engine.specs.Changing.{changing_shifting, changing_totalling, standing_changed}
use Rattle.engine.specs.Settling.{settling_placed, settling_left}
use Rattle.engine.proofs.settle.settle.Goals as goal

pub figures_after-figures-requires : goal.figures_after-figures-requires
figures_after-figures-requires c = changing_shifting c.requires.settling.changing

pub total-after-requires : goal.total-after-requires
total-after-requires c = let r = changing_totalling c.requires.settling.changing c.figures_after-figures.ensures c.requires.shared_value in record { small_figures = r.0; paying = r.1 }

pub put_sides-requires : goal.put_sides-requires
put_sides-requires c = settling_placed c.requires.settling

pub returns : goal.returns
returns c = record { left = settling_left c.requires.settling c.put_sides.ensures.work_after c.put_sides.ensures.prices_after; r_value = standing_changed c.requires.settling.changing c.figures_after-figures.ensures c.requires.shared_value c.total-after.ensures }
