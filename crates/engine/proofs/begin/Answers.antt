-- What is laid out in the work memory makes the prices of the sectors; these, with the border and the price of the flights, make the figures, and the figures make the total.
use Rattle.engine.specs.Flown.{priced_total}
use Rattle.engine.specs.Opening.{opening_blank, opening_faces, opening_tallies, opening_paying, opening_room, opening_small, opening_opened}
use Rattle.engine.proofs.begin.Goals as goal

pub lay_out-requires : goal.lay_out-requires
lay_out-requires c = opening_blank c.requires.setting c.requires.opening

pub border_of-border-requires : goal.border_of-border-requires
border_of-border-requires c = let r = opening_faces c.requires.setting c.requires.opening c.lay_out.ensures.colouring_after in record { few = r.0; small_edges = r.1 }

pub price_all-requires : goal.price_all-requires
price_all-requires c = let r = opening_paying c.requires.setting c.requires.opening c.lay_out.ensures.work_after c.requires.sorted in record { paying = r.0; few = r.1.0; prices_len = r.1.1 }

pub sum_of-bounded-requires : goal.sum_of-bounded-requires
sum_of-bounded-requires c = opening_room c.requires.setting c.requires.opening c.lay_out.ensures.work_after c.requires.sorted c.price_all.ensures

pub figures_of-figures-requires : goal.figures_of-figures-requires
figures_of-figures-requires c = opening_tallies c.requires.setting c.requires.opening c.lay_out.ensures.work_after

pub total-total-requires : goal.total-total-requires
total-total-requires c =
    let r = opening_small c.requires.setting c.requires.opening c.lay_out.ensures.work_after c.requires.sorted c.price_all.ensures c.lay_out.ensures.colouring_after c.border_of-border.ensures c.sum_of-bounded.ensures
    (priced_total c.requires.priced _ c.price_all-dwell.ensures) c.figures_of-figures.ensures in record { small_figures = r.0; paying = r.1 }

pub returns : goal.returns
returns c =
    opening_opened c.requires.setting c.requires.opening c.lay_out.ensures.work_after c.requires.sorted c.price_all.ensures c.lay_out.ensures.colouring_after c.border_of-border.ensures c.sum_of-bounded.ensures
    (priced_total c.requires.priced _ c.price_all-dwell.ensures) c.figures_of-figures.ensures c.total-total.ensures
