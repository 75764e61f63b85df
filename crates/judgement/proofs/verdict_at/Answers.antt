-- A place within the list has its verdict at the front of the lent list; for another, and where there is no list, the answer is 0.
use Rattle.std.proofs.Common.{◌∙◌, sym}
use Rattle.judgement.specs.Told.{verdict_outside, verdict_refused, verdict-within}
use Rattle.judgement.proofs.verdict_at.Goals as goal

pub returns-in-Ok : goal.returns-in-Ok
returns-in-Ok c = verdict-within c.in-Ok.ensures c.args.place c.in_limits.ensures c.args.number c.requires c.if-in_limits.true

pub returns-in_default : goal.returns-in_default
returns-in_default c = verdict_outside c.in-Ok.ensures c.args.place c.args.number (sym c.in_limits.ensures ∙ c.if-in_limits.false)

pub returns-in_default-2 : goal.returns-in_default-2
returns-in_default-2 c = verdict_refused c.in_default.ensures c.args.place c.args.number
