-- The lent bytes or the list's room are too little, or the sheet is salvaged by what survives of its colouring: a law says of each way that it is the outcome.
use Rattle.std.specs.Prelude.{◌≡◌, ◌++◌, take, drop}
use Rattle.std.proofs.Common.{refl, ◌∙◌}
use Rattle.lists.specs.Fronts.{zeros, take_back}
use Rattle.meaning.specs.Plan.{most_regions}
use Rattle.form.proofs.FirstLaws.{some_blocks}
use Rattle.form.proofs.AcceptedLaws.{opened_blocks}
use Rattle.salvage.specs.Surviving.{survivors}
use Rattle.salvage.specs.Steps.{held-colouring, others_mendable, regions_room, regions_lent, promise_short, promise_crowded, promise_salvaged}
use Rattle.salvage.proofs.salvage_held.Goals as goal
use Rattle.salvage.proofs.salvage_held.Goals.{After-keep_survivors}

-- the array's front holds what survives
survived : (c : After-keep_survivors) → take c.head_in-head.result.regions (c.keep_survivors.new.surviving ++ drop c.head_in-head.result.regions (zeros most_regions)) ≡ survivors c.args.form c.args.sheet.now
survived c = take_back c.head_in-head.result.regions (zeros most_regions) (regions_room c.requires.others.opened c.head_in-head.ensures) c.keep_survivors.new.surviving c.keep_survivors.auto.surviving ∙ c.keep_survivors.ensures

pub returns-then-salvaged-sheet : goal.returns-then-salvaged-sheet
returns-then-salvaged-sheet c = promise_short c.requires.form_value.0 c.args.salvaged.now c.args.list.now c.requires.others c.if-salvaged-sheet.true c.from.ensures

pub head_in-head-requires : goal.head_in-head-requires
head_in-head-requires c = some_blocks (opened_blocks c.requires.others.opened refl)

pub keep_survivors-requires : goal.keep_survivors-requires
keep_survivors-requires c = record { has_blocks = (opened_blocks c.requires.others.opened c.head_in-head.ensures, c.head_in-head.ensures); colouring_value = (held-colouring c.requires.others c.head_in-head.ensures c.colouring_in-colouring.ensures, regions_lent c.requires.others.opened c.head_in-head.ensures) }

pub returns-then-list-lost : goal.returns-then-list-lost
returns-then-list-lost c = promise_crowded c.requires.form_value.0 c.args.salvaged.now c.args.list.now c.requires.others c.if-salvaged-sheet.false (survived (goal.at.returns-then-list-lost c).After-keep_survivors) c.count_lost-lost.ensures c.if-list-lost.true c.from-then-list-lost.ensures

pub put_down-requires : goal.put_down-requires
put_down-requires c = record { mendable = others_mendable c.requires.others c.head_in-head.ensures c.lists_in.ensures.edges (survived (goal.at.put_down-requires c).After-keep_survivors); sheet_in_bounds = (c.if-salvaged-sheet.false, rw c.count_lost-lost.ensures at c.if-list-lost.false) }

pub returns : goal.returns
returns c = promise_salvaged c.requires.form_value.0 c.args.salvaged.now c.args.list.now c.requires.others c.if-salvaged-sheet.false (survived (goal.at.returns c).After-keep_survivors) c.count_lost-lost.ensures c.if-list-lost.false c.put_down.ensures.salvaged_after c.put_down.ensures.list_after
