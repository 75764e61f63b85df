-- The move is one of the plan, so that the step answers it, and what it answers is its row.
use Rattle.std.proofs.Common.{arith}
use Rattle.engine.specs.Prepared.{plan_prepared}
use Rattle.turns.specs.Decoded.{move_within}
use Rattle.turns.specs.StateLaws.{answered_opened, remembered_move}
use Rattle.turns.specs.RowLaws.{said_row, said_fits}
use Rattle.turns.proofs.turn.Goals as goal

pub step-stepped-requires : goal.step-stepped-requires
step-stepped-requires c =
    record {
      sorted = c.requires.sorted;
      remembered = c.requires.remembered;
      clock_bound = c.requires.k_bound;
      setting = c.requires.setting;
      ready = c.requires.ready;
      within = rw c.new-asked.ensures (move_within (plan_prepared c.args.prepared) _ _ _);
      flown = c.requires.flown;
    }

pub returns : goal.returns
returns c =
    record {
      remembered = remembered_move c.args.colouring.now c.new-asked.ensures c.step-stepped.ensures.remembered;
      opened = answered_opened c.step-stepped.ensures.answered c.new-asked.ensures;
      row_value = said_row c.requires.setting.limits c.step-stepped.ensures.answered c.new-asked.ensures c.status_of.ensures;
      every = said_fits c.requires.setting.limits c.step-stepped.ensures.answered c.new-asked.ensures c.status_of.ensures (move_within (plan_prepared c.args.prepared) _ _ _);
    }
