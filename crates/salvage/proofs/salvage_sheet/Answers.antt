-- The form is the one that the sheet's letters say; the sheet is refused by it, its colouring passed over, or it is held and salvaged.
use Rattle.std.proofs.Common.{arith, refl, sym}
use Rattle.refusals.specs.Checked.{checked_err}
use Rattle.salvage.specs.Steps.{promise_refused}
use Rattle.salvage.proofs.salvage_sheet.Goals as goal

pub returns-in-Err : goal.returns-in-Err
returns-in-Err c = promise_refused c.of-form.ensures c.args.salvaged.now c.args.list.now c.in-Err.ensures.held_after (checked_err _ _ (sym c.in-Err.ensures.refusal)).1 c.from.ensures

pub salvage_held-requires : goal.salvage_held-requires
salvage_held-requires c = record { form_value = (c.of-form.ensures, omega (arith, c.hold_others.auto.held)); others = c.in_default.ensures.held_after.others refl }
