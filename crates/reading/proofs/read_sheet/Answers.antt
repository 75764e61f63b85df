-- Each way out is the refusal that its step gives, or none is and what is held is handed over.
use Rattle.std.specs.Prelude.{◌≡◌, length}
use Rattle.std.proofs.Common.{arith, refl, sym, ap, ◌∙◌}
use Rattle.refusals.specs.Checked.{checked_err}
use Rattle.form.specs.declared.Form.{Form}
use Rattle.form.specs.Form.{head_in, head_by}
use Rattle.holding.specs.HeldLaws.{holds_head, holds-bounded}
use Rattle.reading.specs.Promise.{Input, input}
use Rattle.reading.specs.ReadLaws.{enough_room, promise_refused, promise_short, promise_held}
use Rattle.reading.proofs.read_sheet.Goals as goal
use Rattle.reading.proofs.read_sheet.Goals.{After-head_in-head, Start}

-- what reading is given
abbrev given : (c : Start) → Input
given c = input c.args.sheet.now c.args.workloads.now c.args.outside.now c.args.edges.now c.args.counts.now c.args.visits.now c.args.constraints.now c.args.colouring.now

-- the head is that of the sheet as its letters have it
head : (c : After-head_in-head) → c.head_in-head.result ≡ head_by c.args.sheet.now
head c = c.head_in-head.ensures ∙ ap (λ (f : Form). head_in f c.args.sheet.now) c.of.ensures

pub returns-in-Err : goal.returns-in-Err
returns-in-Err c = promise_refused (given (goal.at.returns-in-Err c).Start) c.in-Err.ensures.held_after (checked_err _ _ (sym c.in-Err.ensures.refusal)).1 c.from.ensures

pub head_in-head-requires : goal.head_in-head-requires
head_in-head-requires c = holds_head c.in_default.ensures.held_after refl

pub room_right-room-requires : goal.room_right-room-requires
room_right-room-requires c = holds-bounded c.in_default.ensures.held_after refl (head (goal.at.room_right-room-requires c).After-head_in-head)

pub returns-then-not-room : goal.returns-then-not-room
returns-then-not-room c = promise_short (given (goal.at.returns-then-not-room c).Start) c.in_default.ensures.held_after refl (head (goal.at.returns-then-not-room c).After-head_in-head) c.room_right-room.ensures c.if-not-room.true c.from-then-not-room.ensures

pub hand_over-requires : goal.hand_over-requires
hand_over-requires c = record { bounded = (holds-bounded c.in_default.ensures.held_after refl (head (goal.at.hand_over-requires c).After-head_in-head), omega (arith, c.read.auto.held)); room = enough_room c.head_in-head.result (length c.args.workloads.now) (length c.args.outside.now) (length c.args.edges.now) (length c.args.counts.now) (length c.args.visits.now) (length c.args.constraints.now) (length c.args.colouring.now) c.room_right-room.ensures c.if-not-room.false }

pub returns : goal.returns
returns c = promise_held (given (goal.at.returns c).Start) c.in_default.ensures.held_after refl (head (goal.at.returns c).After-head_in-head) c.room_right-room.ensures c.if-not-room.false c.hand_over.ensures
