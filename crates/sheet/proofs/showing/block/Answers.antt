-- A place that is not past the end has a block that is due; what is wrong with it decides between an empty part and its used payload.
use Rattle.std.proofs.Common.{◌≡◌, ◌<◌, ◌∙◌, refl, sym, length, get_or}
use Rattle.std.proofs.lemmas.Option.{get_or_from_slice_get, slice_get-get_or}
use Rattle.blocks.specs.Section.{no_due}
use Rattle.blocks.specs.Faults.{fault_some}
use Rattle.form.specs.Form.{dues}
use Rattle.form.proofs.AcceptedLaws.{opened_blocks}
use Rattle.sheet.specs.ShowLaws.{DueThere, due-there, shown_past, shown_faulty, shown-sound, promised, block_room, opened_head, opened_as}
use Rattle.sheet.proofs.showing.block.Goals as goal
use Rattle.sheet.proofs.showing.block.Goals.{Else-past_end, After-unwrap-due}

-- the block is due where the place is not past the end
due_here : (c : Else-past_end) → DueThere c.args.sheet.now c.args.number
due_here c = due-there _ _ c.past_end.ensures c.if-past_end.false

-- what is unwrapped is due of it
due : (c : After-unwrap-due) → c.unwrap-due.result ≡ get_or (dues c.of-form.result c.head_in.result) c.args.number no_due
due c = sym (get_or_from_slice_get (dues c.of-form.result c.head_in.result) c.args.number c.unwrap-due.result no_due (sym c.due_of.ensures ∙ c.unwrap-due.ensures))

pub returns-then-past_end : goal.returns-then-past_end
returns-then-past_end c = promised (shown_past _ _ c.past_end.ensures c.if-past_end.true) c.empty_part.ensures

pub head_in-requires : goal.head_in-requires
head_in-requires c = opened_head (opened_as c.of-form.ensures (due_here (goal.at.head_in-requires c).Else-past_end).opened)

pub due_of-requires : goal.due_of-requires
due_of-requires c = (opened_blocks (opened_as c.of-form.ensures (due_here (goal.at.due_of-requires c).Else-past_end).opened) c.head_in.ensures).limits

pub unwrap-due-requires : goal.unwrap-due-requires
unwrap-due-requires c =
    let there : c.args.number < length (dues c.of-form.result c.head_in.result) = rw (c.head_in.ensures, c.of-form.ensures) (due_here (goal.at.unwrap-due-requires c).Else-past_end).before_last in
    rw (c.due_of.ensures, slice_get-get_or (dues c.of-form.result c.head_in.result) c.args.number no_due there) refl

pub block_fault-requires-clause-block_length_in_bounds : goal.block_fault-requires-clause-block_length_in_bounds
block_fault-requires-clause-block_length_in_bounds c =
    block_room (due_here (goal.at.block_fault-requires-clause-block_length_in_bounds c).Else-past_end) c.of-form.ensures c.head_in.ensures (due (goal.at.block_fault-requires-clause-block_length_in_bounds c).After-unwrap-due)

-- Whatever is wrong with the block, it lies in the sheet,
-- and so does its used payload.
pub payload-requires : goal.payload-requires
payload-requires c = block_room (due_here (goal.at.payload-requires c).Else-past_end) c.of-form.ensures c.head_in.ensures (due (goal.at.payload-requires c).After-unwrap-due)

pub returns-in-Ok : goal.returns-in-Ok
returns-in-Ok c =
    promised (shown-sound _ _ c.past_end.ensures c.if-past_end.false c.of-form.ensures c.head_in.ensures (due (goal.at.returns-in-Ok c).After-unwrap-due) c.letters.ensures c.in-Ok.ensures refl)
    c.payload.ensures

pub returns-in-Err : goal.returns-in-Err
returns-in-Err c =
    promised (shown_faulty _ _ c.past_end.ensures c.if-past_end.false c.of-form.ensures c.head_in.ensures (due (goal.at.returns-in-Err c).After-unwrap-due) c.letters.ensures c.in-Err.ensures (fault_some c.in-Err.field-0))
    c.empty_part-in-Err.ensures
