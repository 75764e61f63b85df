-- A sheet that is refused leaves the lists as they are; what is held of another is its contents, whose constraints are copied and judged.
use Rattle.std.proofs.Common.{◌≡◌, ◌≤◌, ◌++◌, length, drop, arith, sym, ap, refl, ◌∙◌, length-take-le}
use Rattle.std.proofs.lemmas.Result.{err_from_is_err_and}
use Rattle.form.specs.declared.Form.{Form}
use Rattle.form.specs.Form.{head_in, head_by}
use Rattle.form.specs.FormLaws.{Bounded}
use Rattle.form.specs.Over.{over}
use Rattle.holding.specs.Held.{contents_held}
use Rattle.holding.specs.HeldLaws.{counted_held, holds_head, holds-bounded, holds-taken}
use Rattle.judging.specs.JudgedLaws.{leaves_refused, leaves_judged}
use Rattle.judging.proofs.judge_sheet.Goals as goal
use Rattle.judging.proofs.judge_sheet.Goals.{After-head_in-head, After-lists_in}

-- the head is that of the sheet as its letters have it
head : (c : After-head_in-head) → c.head_in-head.result ≡ head_by c.args.sheet.now
head c = c.head_in-head.ensures ∙ ap (λ (f : Form). head_in f c.args.sheet.now) c.of.ensures

-- so its numbers are within the limits
few : (c : After-head_in-head) → Bounded c.head_in-head.result
few c = holds-bounded c.in_ok-read.ensures.held_after refl (head c)

-- there is room for the constraints
room : (c : After-lists_in) → Bounded c.head_in-head.result → length c.lists_in.result.constraints.now ≤ length c.args.constraints.now
room c few =
    let n = counted_held c.head_in-head.result c.read.new.held few (omega (arith, c.read.auto.held)) in
    omega (arith, ap length c.lists_in.ensures.constraints, n.constraints, few.constraints, c.requires.most_constraints_in_bounds)

pub returns-in_err-read : goal.returns-in_err-read
returns-in_err-read c =
    let is = err_from_is_err_and c.from_residual.result c.from_residual.ensures.1 in
    rw (is.1, is.2) (leaves_refused c.args.sheet.now (sym c.in_err-read.ensures.refusal))

pub head_in-head-requires : goal.head_in-head-requires
head_in-head-requires c = holds_head c.in_ok-read.ensures.held_after refl

pub lists_in-requires : goal.lists_in-requires
lists_in-requires c = (few (goal.at.lists_in-requires c).After-head_in-head, omega (arith, c.read.auto.held))

pub slice_bounds-copy_from_slice-end : goal.slice_bounds-copy_from_slice-end
slice_bounds-copy_from_slice-end c = room (goal.at.slice_bounds-copy_from_slice-end c).After-lists_in (few (goal.at.slice_bounds-copy_from_slice-end c).After-head_in-head)

pub slice_bounds-copy_from_slice-end-2 : goal.slice_bounds-copy_from_slice-end-2
slice_bounds-copy_from_slice-end-2 c = sym (length-take-le _ c.args.constraints.now (room (goal.at.slice_bounds-copy_from_slice-end-2 c).After-lists_in (few (goal.at.slice_bounds-copy_from_slice-end-2 c).After-head_in-head)))

pub copy_from_slice-requires : goal.copy_from_slice-requires
copy_from_slice-requires c = length-take-le _ c.args.constraints.now (room (goal.at.copy_from_slice-requires c).After-lists_in (few (goal.at.copy_from_slice-requires c).After-head_in-head))

pub judge_held-total-requires-clause-bounded : goal.judge_held-total-requires-clause-bounded
judge_held-total-requires-clause-bounded c = (few (goal.at.judge_held-total-requires-clause-bounded c).After-head_in-head, omega (arith, c.read.auto.held))

pub judge_held-total-requires-clause-held_value : goal.judge_held-total-requires-clause-held_value
judge_held-total-requires-clause-held_value c = holds-taken c.in_ok-read.ensures.held_after refl (head (goal.at.judge_held-total-requires-clause-held_value c).After-head_in-head)

pub returns : goal.returns
returns c =
    let left : c.copy_from_slice.new.self ++ drop (length c.lists_in.result.constraints.now) c.args.constraints.now ≡ over (contents_held c.head_in-head.result c.read.new.held).constraints c.args.constraints.now =
    rw (c.copy_from_slice.ensures.after, c.lists_in.ensures.constraints) in
    leaves_judged c.args.sheet.now c.in_ok-read.ensures.held_after refl (head (goal.at.returns c).After-head_in-head) left c.judge_held-total.ensures.0 c.judge_held-total.ensures.1
