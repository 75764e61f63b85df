-- Contents that are refused are answered so. Those that are not are as many of each as their head says, and what is put down of them is the outcome.
use Rattle.std.proofs.Common.{refl, sym}
use Rattle.refusals.specs.Checked.{checked_ok, checked_err}
use Rattle.form.specs.declared.Form.TheVariants.{Second}
use Rattle.form.specs.Form.{Contents}
use Rattle.writing.specs.Promise.{contents}
use Rattle.writing.specs.WriteLaws.{promise_refused, contents_handed, promise_put}
use Rattle.writing.proofs.write_second.Goals as goal
use Rattle.writing.proofs.write_second.Goals.{Start}

-- the contents that are given
abbrev given : (c : Start) → Contents
given c = contents c.args.regions c.args.lists.sectors c.args.lists.workloads.now c.args.lists.outside.now c.args.lists.edges.now c.args.lists.counts.now c.args.lists.visits.now c.args.lists.constraints.now c.args.colouring.now

pub write_where_room-requires : goal.write_where_room-requires
write_where_room-requires c = let r = contents_handed Second (given (goal.at.write_where_room-requires c).Start) refl refl (checked_ok _ (sym c.in-Ok.ensures)) in rw c.head_of.ensures (record { head_limits = r.0; so_many = r.1 })

pub returns-in-Ok : goal.returns-in-Ok
returns-in-Ok c = promise_put Second (given (goal.at.returns-in-Ok c).Start) refl refl (checked_ok _ (sym c.in-Ok.ensures)) (rw c.head_of.ensures at c.write_where_room.ensures)

pub returns-in-Err : goal.returns-in-Err
returns-in-Err c = let p = checked_err _ _ (sym c.in-Err.ensures) in promise_refused Second (given (goal.at.returns-in-Err c).Start) (sym p.0) p.1 c.from.ensures
