-- Each call puts down its part of the front of the work memory, and leaves the rest.
use Rattle.std.proofs.Common.{arith, length-take-le}
use Rattle.engine.specs.Opening.{laid_out}
use Rattle.engine.proofs.memory.lay_out.Goals as goal

pub returns-clause-work_after : goal.returns-clause-work_after
returns-clause-work_after c =
    laid_out c.requires c.label_all.ensures.colouring_unchanged c.label_all.ensures.labels_after c.split_at_mut-components.ensures.front_len c.tally_components.ensures
    (length-take-le _ _ (omega (arith, c.split_at_mut-labels.ensures.back_len, c.split_at_mut-components.ensures.back_len, c.requires.room))) c.tally_workloads.ensures
    c.split_at_mut-labels.ensures.back c.split_at_mut-components.ensures.back
