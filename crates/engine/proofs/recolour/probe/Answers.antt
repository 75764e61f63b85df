-- A region given to its own sector leaves the total; given to another, the figures and the total follow the change.
use Rattle.engine.specs.Changing.{ready_changing, changing_shifting, changing_totalling, total_changed}
use Rattle.engine.proofs.recolour.probe.Goals as goal

pub figures_after-figures-requires : goal.figures_after-figures-requires
figures_after-figures-requires c = changing_shifting (ready_changing c.requires.recolouring.setting c.requires.recolouring.ready c.change_at-change.ensures.turns.changed)

pub total-requires : goal.total-requires
total-requires c = let r = changing_totalling (ready_changing c.requires.recolouring.setting c.requires.recolouring.ready c.change_at-change.ensures.turns.changed) c.figures_after-figures.ensures c.requires.sorted.shared in record { small_figures = r.0; paying = r.1 }

pub returns : goal.returns
returns c =
    let changing = ready_changing c.requires.recolouring.setting c.requires.recolouring.ready c.change_at-change.ensures.turns.changed in
    record { remembered = c.change_at-change.ensures.remembered; r_value = total_changed changing c.figures_after-figures.ensures c.requires.sorted.shared c.total.ensures; colouring_after = c.change_at-change.ensures.colouring_after }
