-- The rows of the table, one after the other.
use Rattle.std.specs.Prelude.{ℕ, ◌*◌, ◌≡◌, ◌/◌, ◌++◌, [], ◌∷◌, true, eqb, length}
use Rattle.std.proofs.Common.{arith, sym, ap, ◌∙◌, refl}
use Rattle.refusals.specs.Table.{whole, refusal}
use Rattle.refusals.specs.Checked.{checked, checked_some, checked_stops, checked_goes_on, checked_passed}
use Rattle.packing.specs.Numbers.{total}
use Rattle.blocks.specs.Block.{block_length}
use Rattle.blocks.specs.Faults.{fault_code, fault_some}
use Rattle.form.specs.Form.{dues, head_in, head_widths}
use Rattle.form.specs.Refusals.{head_fault, head_table, open_table}
use Rattle.form.proofs.AcceptedLaws.{passed_head}
use Rattle.sheet.specs.Opening.{open_faulty, open_head}
use Rattle.sheet.proofs.Checks.{row_stops, row_last, passes}
use Rattle.sheet.proofs.opening.open_refusal.Goals as goal
use Rattle.sheet.proofs.opening.open_refusal.Goals.{After-head_in-head}

-- the length is right
long : (c : After-head_in-head) → c.length_right.result ≡ true
long c = passes c.length_right.result c.in_ok-refuse_if.ensures

once : (n : ℕ) → 1 * n ≡ n
once n = omega arith

-- nor is anything wrong with the head as a block
sound : (c : After-head_in-head) → 0 ≡ head_fault c.args.form c.args.sheet.now
sound c = rw (c.letters.ensures, c.head_section-section.ensures, once (total (head_widths c.args.form))) at c.in_default.ensures

-- so the head's numbers and the number of blocks settle it
settled : (c : After-head_in-head)
    → refusal (head_table c.args.form c.head_in-head.result ++ (whole 38 (eqb (length c.args.sheet.now / block_length) (length (dues c.args.form (head_in c.args.form c.args.sheet.now)))) ∷ [])) ≡ refusal (open_table c.args.form c.args.sheet.now)
settled c = open_head c.args.form c.args.sheet.now c.length_right.ensures (long c) (sound c) refl c.head_in-head.ensures

pub returns-in_err-refuse_if : goal.returns-in_err-refuse_if
unfolding open_table
returns-in_err-refuse_if c = rw (← c.length_right.ensures) (row_stops (whole 31 c.length_right.result) _ c.from_residual.ensures.1 c.in_err-refuse_if.ensures)

pub returns-in-Err : goal.returns-in-Err
returns-in-Err c =
    let some = fault_some c.in-Err.fault in
    let wrong : fault_code c.in-Err.fault ≡ head_fault c.args.form c.args.sheet.now = rw (c.letters.ensures, c.head_section-section.ensures, once (total (head_widths c.args.form))) at c.in-Err.ensures in
    rw c.at.ensures (sym (checked_some _ some) ∙ ap checked (open_faulty c.args.form c.args.sheet.now c.length_right.ensures (passes c.length_right.result c.in_ok-refuse_if.ensures) wrong some))

pub returns-in_err-head_refusal : goal.returns-in_err-head_refusal
returns-in_err-head_refusal c =
    checked_stops (head_table c.args.form c.head_in-head.result) _ c.from_residual-in_err-head_refusal.ensures.1 c.in_err-head_refusal.ensures
    ∙ ap checked (settled (goal.at.returns-in_err-head_refusal c).After-head_in-head)

pub all_blocks-requires : goal.all_blocks-requires
all_blocks-requires c = passed_head c.args.form c.head_in-head.result (checked_passed (head_table c.args.form c.head_in-head.result) tt c.in_ok-head_refusal.ensures)

pub returns : goal.returns
returns c =
    checked_goes_on (head_table c.args.form c.head_in-head.result) _ tt c.in_ok-head_refusal.ensures
    (row_last (whole 38 (eqb (length c.args.sheet.now / block_length) c.all_blocks.result)) c.refuse_if-2.ensures ∙ rw (c.all_blocks.ensures, c.head_in-head.ensures) refl)
    ∙ ap checked (settled (goal.at.returns c).After-head_in-head)
