-- A sheet that is not opened has no block at any place; an opened one has those that are due of its head.
use Rattle.std.proofs.Common.{◌≡◌, ◌∙◌, ap, sym, refl}
use Rattle.std.specs.Prelude.{is_err}
use Rattle.refusals.specs.Table.{refusal}
use Rattle.form.specs.Refusals.{open_table}
use Rattle.form.proofs.AcceptedLaws.{opened_blocks, opened}
use Rattle.sheet.specs.ShowLaws.{past_shut, past_last, opened_head}
use Rattle.sheet.proofs.Checks.{err_code, no-err}
use Rattle.sheet.proofs.showing.past_end.Goals as goal
use Rattle.sheet.proofs.showing.past_end.Goals.{Else-is_err}

-- nothing is refused
opens : (c : Else-is_err) → (refusal (open_table c.of-form.result c.args.sheet.now)).code ≡ 0
opens c = no-err _ (ap is_err (sym c.open_refusal.ensures) ∙ sym c.is_err.ensures.value ∙ c.if-is_err.false)

pub head_in-requires : goal.head_in-requires
head_in-requires c = opened_head (opened c.of-form.result c.args.sheet.now (opens c))

pub all_blocks-requires : goal.all_blocks-requires
all_blocks-requires c = (opened_blocks (opened c.of-form.result c.args.sheet.now (opens (goal.at.all_blocks-requires c).Else-is_err)) c.head_in.ensures).limits

pub returns-then-is_err : goal.returns-then-is_err
returns-then-is_err c = past_shut c.args.sheet.now c.args.number c.of-form.ensures refl (err_code _ (ap is_err (sym c.open_refusal.ensures) ∙ sym c.is_err.ensures.value ∙ c.if-is_err.true)) c.if-is_err.true

pub returns-else-is_err : goal.returns-else-is_err
returns-else-is_err c = past_last c.args.sheet.now c.args.number c.of-form.ensures refl (opens (goal.at.returns-else-is_err c).Else-is_err) c.head_in.ensures c.all_blocks.ensures refl
