-- The first fault before the colouring, or else the first after it.
use Rattle.std.proofs.Common.{arith, refl, sym, ap, ◌∙◌}
use Rattle.refusals.specs.Checked.{checked, checked_some, checked_ok, checked_err}
use Rattle.form.proofs.FirstLaws.{blocks_all}
use Rattle.holding.specs.HoldLaws.{handed}
use Rattle.salvage.specs.Others.{other_early, other_late}
use Rattle.salvage.proofs.others.other_fault.Goals as goal

pub fault_between-requires : goal.fault_between-requires
fault_between-requires c = (c.requires, omega (arith, c.colouring_first.ensures, blocks_all c.args.form c.args.head))

pub returns-in_err-fault_between : goal.returns-in_err-fault_between
returns-in_err-fault_between c =
    let p = checked_err _ _ (sym c.in_err-fault_between.ensures) in
    handed c.from_residual.result c.from_residual.ensures.1 ∙ sym (checked_some _ p.1) ∙ ap checked (other_early c.args.form c.args.head c.args.sheet.now c.colouring_first.ensures (sym p.0) p.1)

pub returns : goal.returns
returns c = c.fault_between-2.ensures ∙ ap checked (other_late c.args.form c.args.head c.args.sheet.now c.colouring_first.ensures refl (checked_ok _ (sym c.in_ok-fault_between.ensures)) c.count_first.ensures c.all_blocks.ensures refl)
