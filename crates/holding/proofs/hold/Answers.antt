-- Each way out is the first row of the table that is given; where no block is refused, what was read decides, and it is the contents.
use Rattle.std.specs.Prelude.{◌≡◌, Ok, IsErrAnd, MatchResult}
use Rattle.std.proofs.Common.{arith, refl, rules}
use Rattle.refusals.specs.Table.{refused}
use Rattle.form.specs.Accepted.{Opened}
use Rattle.form.proofs.AcceptedLaws.{opened_blocks}
use Rattle.form.proofs.FirstLaws.{some_blocks}
use Rattle.form.proofs.FormLaws.{bounded}
use Rattle.holding.specs.HoldLaws.{opens, answers_shut, answers_faulty, answers_read}
use Rattle.holding.proofs.hold.Goals as goal
use Rattle.holding.proofs.hold.Goals.{In_ok-open_refusal}

-- a sheet of which nothing is refused at first is opened
opened : (c : In_ok-open_refusal) → Opened c.args.form c.args.sheet.now
opened c = opens c.args.form c.args.sheet.now c.in_ok-open_refusal.ensures

pub returns-in_err-open_refusal : goal.returns-in_err-open_refusal
returns-in_err-open_refusal c = let r = answers_shut c.from_residual.result c.args.held.now c.from_residual.ensures.1 c.in_err-open_refusal.ensures in record { refusal = r.0; held_after = r.1 }

pub head_in-head-requires : goal.head_in-head-requires
head_in-head-requires c = some_blocks (opened_blocks (opened c) refl)

pub later_fault-requires : goal.later_fault-requires
later_fault-requires c = opened_blocks (opened (goal.at.later_fault-requires c).In_ok-open_refusal) c.head_in-head.ensures

pub returns-in_err-later_fault : goal.returns-in_err-later_fault
returns-in_err-later_fault c = let r = answers_faulty c.from_residual-in_err-later_fault.result (opened (goal.at.returns-in_err-later_fault c).In_ok-open_refusal) c.head_in-head.ensures c.args.held.now c.from_residual-in_err-later_fault.ensures.1 c.in_err-later_fault.ensures in record { refusal = r.0; held_after = r.1 }

pub read_lists-requires-clause-has_blocks : goal.read_lists-requires-clause-has_blocks
read_lists-requires-clause-has_blocks c = (opened_blocks (opened (goal.at.read_lists-requires-clause-has_blocks c).In_ok-open_refusal) c.head_in-head.ensures, c.requires)

pub contents_refusal-requires : goal.contents_refusal-requires
contents_refusal-requires c = (bounded _ (opened_blocks (opened (goal.at.contents_refusal-requires c).In_ok-open_refusal) c.head_in-head.ensures).limits, omega (arith, c.read_lists.auto.held, c.requires))

pub returns : goal.returns
returns c =
    let w : MatchResult c.contents_refusal.result (λ x. c.map_err.result ≡ Ok x) (λ e. IsErrAnd c.map_err.result (λ r. r ≡ refused 37 e.code)) = search (rules, c.map_err.ensures.cases) in
    let r = answers_read c.map_err.result (opened (goal.at.returns c).In_ok-open_refusal) c.head_in-head.ensures c.in_ok-later_fault.ensures c.read_lists.ensures c.contents_refusal.ensures w in record { refusal = r.0; held_after = r.1 }
