-- The block is asked for what is due of it, and is sound where nothing of it is wrong.
use Rattle.std.specs.Prelude.{◌≡◌, get_or}
use Rattle.std.proofs.Common.{arith, sym, ◌∙◌}
use Rattle.std.proofs.lemmas.Option.{get_or_from_slice_get}
use Rattle.blocks.specs.Section.{no_due}
use Rattle.blocks.specs.SectionLaws.{small_at}
use Rattle.blocks.specs.Faults.{ok_code}
use Rattle.form.specs.Form.{dues}
use Rattle.form.proofs.FormLaws.{four_letters, small_form}
use Rattle.salvage.specs.Surviving.{sound_at}
use Rattle.salvage.proofs.surviving.block_sound.Goals as goal
use Rattle.salvage.proofs.surviving.block_sound.Goals.{After-unwrap-due}

-- what is due of the block
due : (c : After-unwrap-due) → get_or (dues c.args.form c.args.head) c.args.number no_due ≡ c.unwrap-due.result
due c = get_or_from_slice_get (dues c.args.form c.args.head) c.args.number _ no_due (sym c.due_of.ensures ∙ c.unwrap-due.ensures)

pub block_fault-requires : goal.block_fault-requires
block_fault-requires c = record { letters_len = rw c.letters.ensures (four_letters c.args.form); block_length_in_bounds = (omega (arith, c.requires.1, c.requires.0.long), rw (due (goal.at.block_fault-requires c).After-unwrap-due) at (small_at (dues c.args.form c.args.head) c.args.number (small_form c.args.form c.args.head))) }

pub returns : goal.returns
unfolding sound_at
returns c = c.is_ok.ensures.value ∙ ok_code _ ∙ rw (c.block_fault.ensures, c.letters.ensures, due (goal.at.returns c).After-unwrap-due)
