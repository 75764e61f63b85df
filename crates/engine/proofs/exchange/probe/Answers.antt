-- The figures and the total follow the change of both recolourings.
use Rattle.engine.specs.Changing.{ready_changing, changing_shifting, changing_totalling, total_changed}
use Rattle.engine.proofs.exchange.probe.Goals as goal

pub figures_after-figures-requires : goal.figures_after-figures-requires
figures_after-figures-requires c = changing_shifting (ready_changing c.requires.exchanging.setting c.requires.exchanging.ready c.change_both-change.ensures.changed)

pub total-requires : goal.total-requires
total-requires c = let r = changing_totalling (ready_changing c.requires.exchanging.setting c.requires.exchanging.ready c.change_both-change.ensures.changed) c.figures_after-figures.ensures c.requires.sorted.shared in record { small_figures = r.0; paying = r.1 }

pub returns-clause-r_value : goal.returns-clause-r_value
returns-clause-r_value c = total_changed (ready_changing c.requires.exchanging.setting c.requires.exchanging.ready c.change_both-change.ensures.changed) c.figures_after-figures.ensures c.requires.sorted.shared c.total.ensures
