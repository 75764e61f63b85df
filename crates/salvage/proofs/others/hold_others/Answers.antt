-- Each way out is the first row of the table that is given; where no block but the colouring's is refused, what was read decides, and it is the contents.
use Rattle.std.proofs.Common.{arith, refl}
use Rattle.form.specs.Accepted.{Opened}
use Rattle.form.proofs.AcceptedLaws.{opened_blocks}
use Rattle.form.proofs.FirstLaws.{some_blocks}
use Rattle.form.proofs.FormLaws.{bounded}
use Rattle.holding.specs.HoldLaws.{opens}
use Rattle.salvage.specs.Others.{answers_shut, answers_faulty, answers_right, answers_wrong}
use Rattle.salvage.proofs.others.hold_others.Goals as goal
use Rattle.salvage.proofs.others.hold_others.Goals.{In_ok-open_refusal}

-- a sheet of which nothing is refused at first is opened
opened : (c : In_ok-open_refusal) → Opened c.args.form c.args.sheet.now
opened c = opens c.args.form c.args.sheet.now c.in_ok-open_refusal.ensures

pub returns-in_err-open_refusal : goal.returns-in_err-open_refusal
returns-in_err-open_refusal c = let r = answers_shut c.from_residual.result c.args.held.now c.from_residual.ensures.1 c.in_err-open_refusal.ensures in record { refusal = r.0; held_after = r.1 }

pub head_in-head-requires : goal.head_in-head-requires
head_in-head-requires c = some_blocks (opened_blocks (opened c) refl)

pub other_fault-requires : goal.other_fault-requires
other_fault-requires c = opened_blocks (opened (goal.at.other_fault-requires c).In_ok-open_refusal) c.head_in-head.ensures

pub returns-in_err-other_fault : goal.returns-in_err-other_fault
returns-in_err-other_fault c = let r = answers_faulty c.from_residual-in_err-other_fault.result (opened (goal.at.returns-in_err-other_fault c).In_ok-open_refusal) c.head_in-head.ensures c.args.held.now c.from_residual-in_err-other_fault.ensures.1 c.in_err-other_fault.ensures in record { refusal = r.0; held_after = r.1 }

pub read_lists-requires : goal.read_lists-requires
read_lists-requires c = record { has_blocks = (opened_blocks (opened (goal.at.read_lists-requires c).In_ok-open_refusal) c.head_in-head.ensures, c.requires); head_value = c.head_in-head.ensures }

pub contents_refusal-requires : goal.contents_refusal-requires
contents_refusal-requires c = (bounded _ (opened_blocks (opened (goal.at.contents_refusal-requires c).In_ok-open_refusal) c.head_in-head.ensures).limits, omega (arith, c.read_lists.auto.held, c.requires))

pub returns-in-Ok : goal.returns-in-Ok
returns-in-Ok c = let r = answers_right _ (opened (goal.at.returns-in-Ok c).In_ok-open_refusal) c.head_in-head.ensures c.in_ok-other_fault.ensures c.read_lists.ensures c.in-Ok.ensures refl in record { refusal = r.0; held_after = r.1 }

pub returns-in-Err : goal.returns-in-Err
returns-in-Err c = let r = answers_wrong c.refuse_if.result (opened (goal.at.returns-in-Err c).In_ok-open_refusal) c.head_in-head.ensures c.in_ok-other_fault.ensures c.read_lists.ensures c.in-Err.ensures c.refuse_if.ensures in record { refusal = r.0; held_after = r.1 }
