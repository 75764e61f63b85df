-- The sheet is refused, or what is lent is too short, or the new form doesn't carry the contents, or what is held is put down as a sheet of the new form: a law says of each way that it is the outcome.
use Rattle.std.proofs.Common.{arith, refl, sym}
use Rattle.refusals.specs.Checked.{checked_err}
use Rattle.form.proofs.FormLaws.{few_either}
use Rattle.holding.specs.HeldLaws.{holds_head, holds-bounded, holds-taken}
use Rattle.conversion.specs.ConvertLaws.{Measured, carried-limits, measured, promise_refused, promise_short, promise_uncarried, sheet_room, promise_converted}
use Rattle.conversion.proofs.convert.Goals as goal
use Rattle.conversion.proofs.convert.Goals.{After-all_blocks-bytes}

-- the sheet is held, and as a sheet of the new form takes so many blocks
held : (c : After-all_blocks-bytes) → Measured c.args.from c.args.to c.args.sheet.now c.hold.new.held c.head_in-head.result c.all_blocks-bytes.result
held c = measured c.in_default.ensures.held_after refl c.head_in-head.ensures c.args.to c.carried_head.ensures c.all_blocks-bytes.ensures

pub returns-in-Err : goal.returns-in-Err
returns-in-Err c = promise_refused c.args.to c.args.converted.now c.in-Err.ensures.held_after (checked_err _ _ (sym c.in-Err.ensures.refusal)).1 c.from.ensures

pub head_in-head-requires : goal.head_in-head-requires
head_in-head-requires c = holds_head c.in_default.ensures.held_after refl

pub all_blocks-bytes-requires : goal.all_blocks-bytes-requires
all_blocks-bytes-requires c = carried-limits c.in_default.ensures.held_after refl c.head_in-head.ensures c.args.to c.carried_head.ensures

pub overflow_mul-bytes : goal.overflow_mul-bytes
overflow_mul-bytes c = omega (arith, few_either c.args.to (carried-limits c.in_default.ensures.held_after refl c.head_in-head.ensures c.args.to c.carried_head.ensures))

pub returns-then-converted-bytes : goal.returns-then-converted-bytes
returns-then-converted-bytes c = promise_short (held (goal.at.returns-then-converted-bytes c).After-all_blocks-bytes) c.args.converted.now c.if-converted-bytes.true c.from-then-converted-bytes.ensures

pub carries_whole-requires : goal.carries_whole-requires
carries_whole-requires c = record { bounded = (holds-bounded c.in_default.ensures.held_after refl c.head_in-head.ensures, omega (arith, c.hold.auto.held)); held_value = holds-taken c.in_default.ensures.held_after refl c.head_in-head.ensures }

pub returns-then-not-carries_whole : goal.returns-then-not-carries_whole
returns-then-not-carries_whole c = promise_uncarried (held (goal.at.returns-then-not-carries_whole c).After-all_blocks-bytes) c.args.converted.now c.if-converted-bytes.false c.carries_whole.ensures c.if-not-carries_whole.true c.from-then-not-carries_whole.ensures

pub write_held-requires : goal.write_held-requires
write_held-requires c = (sheet_room (held (goal.at.write_held-requires c).After-all_blocks-bytes) c.args.converted.now c.if-converted-bytes.false c.carries_whole.ensures c.if-not-carries_whole.false, omega (arith, c.hold.auto.held))

pub returns : goal.returns
returns c = promise_converted (held (goal.at.returns c).After-all_blocks-bytes) c.args.converted.now c.if-converted-bytes.false c.carries_whole.ensures c.if-not-carries_whole.false c.write_held.ensures
