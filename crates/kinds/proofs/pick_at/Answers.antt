-- Where the kind is one of low to high the four numbers of the constraint come after those picked, and else nothing does.
use mathlib.Core.Path.{sym, ◌∙◌}
use Rattle.kinds.specs.Picked.{picks_own, picks_other}
use Rattle.kinds.proofs.pick_at.Goals as goal

pub returns-then-in_limits : goal.returns-then-in_limits
returns-then-in_limits c = picks_own c.requires _ _ _ c.copy.ensures (sym c.in_limits.ensures ∙ c.if-in_limits.true)

pub returns : goal.returns
returns c = picks_other c.requires (sym c.in_limits.ensures ∙ c.if-in_limits.false)
