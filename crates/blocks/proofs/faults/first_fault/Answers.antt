-- The first block with a fault settles it.
use Rattle.std.proofs.Common.{◌≡◌, ◌≢◌, ◌∙◌, sym, ap, arith, refl, get_or}
use Rattle.std.proofs.lemmas.Option.{get_or_from_slice_get}
use Rattle.refusals.specs.Checked.{checked, checked_some}
use Rattle.blocks.specs.Section.{no_due, due_of}
use Rattle.blocks.specs.SectionLaws.{small_due, small_at}
use Rattle.blocks.specs.Faults.{fault_some}
use Rattle.blocks.specs.Scan.{scan_off, scan_turn}
use Rattle.blocks.proofs.faults.first_fault.Goals as goal
use Rattle.blocks.proofs.faults.first_fault.Goals.{After-unwrap-due}

-- what is unwrapped is due of the block
due : (c : After-unwrap-due) → c.unwrap-due.result ≡ get_or (due_of c.args.sections.now) c.loop-number.number no_due
due c = sym (get_or_from_slice_get (due_of c.args.sections.now) c.loop-number.number c.unwrap-due.result no_due (sym c.due_at.ensures ∙ c.unwrap-due.ensures))

pub block_fault-requires-clause-block_length_in_bounds : goal.block_fault-requires-clause-block_length_in_bounds
block_fault-requires-clause-block_length_in_bounds c = (
  omega (arith, c.requires.to_in_bounds.1),
  rw (due (goal.at.block_fault-requires-clause-block_length_in_bounds c).After-unwrap-due)
      (small_at (due_of c.args.sections.now) c.loop-number.number (small_due c.args.sections.now c.requires.sections.sized)),
)

pub returns-in-Err : goal.returns-in-Err
returns-in-Err c =
    let some = fault_some c.in-Err.fault in
    rw c.at.ensures (sym (checked_some _ some) ∙ ap checked (scan_off c.loop-number.invariant c.loop-number-test.true (due (goal.at.returns-in-Err c).After-unwrap-due) c.in-Err.ensures some))

pub loop-number-preserved : goal.loop-number-preserved
loop-number-preserved c = scan_turn c.loop-number.invariant c.loop-number-test.true (due (goal.at.loop-number-preserved c).After-unwrap-due) c.in_default.ensures refl
