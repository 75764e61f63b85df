-- A refused call answers before anything is written, and one that is not refused is valid, so that it runs.
use Rattle.std.proofs.Common.{refl, sym, ◌∙◌}
use Rattle.refusals.specs.Checked.{checked_ok, checked_err}
use Rattle.call.specs.Promised.{valid_here, promise_ran, promise_refused}
use Rattle.call.proofs.judge.Goals as goal

pub returns-in-Err : goal.returns-in-Err
returns-in-Err c = let e = checked_err _ _ (sym c.call_refusal.ensures ∙ c.in-Err.is) in promise_refused (sym e.0) e.1

pub run-requires : goal.run-requires
run-requires c = valid_here refl (checked_ok _ (sym c.call_refusal.ensures ∙ c.in-Ok.is))

pub returns-in-Ok : goal.returns-in-Ok
returns-in-Ok c = promise_ran refl (checked_ok _ (sym c.call_refusal.ensures ∙ c.in-Ok.is)) c.run.ensures
