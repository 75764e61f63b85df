-- Contents that are refused are answered so. Those that are not are as many of each as their head says, and what is put down of them is the outcome.
use Rattle.std.proofs.Common.{refl, sym}
use Rattle.refusals.specs.Checked.{checked_ok, checked_err}
use Rattle.form.specs.declared.Form.TheVariants.{First}
use Rattle.form.specs.Form.{Contents}
use Rattle.writing.specs.Promise.{plain}
use Rattle.writing.specs.WriteLaws.{promise_refused, contents_handed, promise_put}
use Rattle.writing.proofs.write.Goals as goal
use Rattle.writing.proofs.write.Goals.{Start}

-- the contents that are given
abbrev given : (c : Start) → Contents
given c = plain c.args.regions c.args.sectors c.args.workloads.now c.args.edges.now c.args.constraints.now c.args.colouring.now

pub write_where_room-requires : goal.write_where_room-requires
write_where_room-requires c = let r = contents_handed First (given (goal.at.write_where_room-requires c).Start) refl refl (checked_ok _ (sym c.in-Ok.ensures)) in rw c.head_of.ensures (record { head_limits = r.0; so_many = r.1 })

pub returns-in-Ok : goal.returns-in-Ok
returns-in-Ok c = promise_put First (given (goal.at.returns-in-Ok c).Start) refl refl (checked_ok _ (sym c.in-Ok.ensures)) (rw c.head_of.ensures at c.write_where_room.ensures)

pub returns-in-Err : goal.returns-in-Err
returns-in-Err c = let p = checked_err _ _ (sym c.in-Err.ensures) in promise_refused First (given (goal.at.returns-in-Err c).Start) (sym p.0) p.1 c.from.ensures
