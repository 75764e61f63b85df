-- What was read so far goes from turn to turn, and each way out is one of its laws.
use Rattle.std.proofs.Common.{◌≡◌, ℕ, ◌*◌, ◌<◌, ◌≤◌, List, ◌++◌, arith, sym, ◌∙◌, length, take, drop, length-take-le, take_all, take_at}
use Rattle.std.proofs.Math.Seq.{length_front}
use Rattle.std.proofs.lemmas.List.{length-replicate}
use Rattle.blocks.specs.Block.{block_length}
use Rattle.form.specs.declared.Form.TheVariants.{Second}
use Rattle.form.specs.Form.{most_blocks}
use Rattle.review.specs.Stream.{count_length}
use Rattle.review.specs.StreamLaws.{Counted, blocks_counted}
use Rattle.review.specs.SoFar.{so_far_none, so_far_next, ends_full, ends_well, ends_count, ends_cut}
use Rattle.figures.proofs.read_all.Given.{Over}
use Rattle.figures.proofs.read_all.Goals as goal
use Rattle.figures.proofs.read_all.Goals.{After-by, In-Blocks}

-- the bytes of the count
abbrev count : (g : Over) → After-by g → List ℕ
count g c = take c.read_full-counted.result c.read_full-counted.new.buffer

-- the count is right
counted : (g : Over) (c : In-Blocks g) → Counted (take c.read_full-counted.result c.read_full-counted.new.buffer) c.in-Blocks.blocks
counted g c =
    let count = take c.read_full-counted.result c.read_full-counted.new.buffer in
    let few : length count ≤ count_length = omega (arith, c.read_full-counted.ensures.prefix_len.1, c.read_full-counted.auto.buffer) in
    blocks_counted count c.in-Blocks.blocks few (sym c.by.ensures ∙ c.in-Blocks.is)

-- and its sheet has room
room : (g : Over) (c : In-Blocks g) → block_length * c.in-Blocks.blocks ≤ length c.loop-place.sheet
room g c = omega (arith, (counted g c).few, c.loop-place.invariant.1)

pub loop-place-init : goal.loop-place-init
loop-place-init g c = rw c.none-review.ensures (so_far_none, length-replicate {A = ℕ} (most_blocks Second * block_length) 0)

pub returns-in-Nothing : goal.returns-in-Nothing
returns-in-Nothing g c = ends_well c.loop-place.invariant.0 (count g (goal.at.returns-in-Nothing g c).After-by) (sym c.by.ensures ∙ c.in-Nothing.is)

pub returns-in-Wrong : goal.returns-in-Wrong
returns-in-Wrong g c = ends_count c.loop-place.invariant.0 (omega arith) (count g (goal.at.returns-in-Wrong g c).After-by) (sym c.by.ensures ∙ c.in-Wrong.is)

pub overflow_mul-size : goal.overflow_mul-size
overflow_mul-size g c = omega (arith, (counted g (goal.at.overflow_mul-size g c).In-Blocks).few)

pub slice_bounds-sheet-end : goal.slice_bounds-sheet-end
slice_bounds-sheet-end g c = room g (goal.at.slice_bounds-sheet-end g c).In-Blocks

pub slice_bounds-read_full-end-in-loop-place : goal.slice_bounds-read_full-end-in-loop-place
slice_bounds-read_full-end-in-loop-place g c = sym (length-take-le _ c.loop-place.sheet (room g (goal.at.slice_bounds-read_full-end-in-loop-place g c).In-Blocks))

pub returns-then-read-size : goal.returns-then-read-size
returns-then-read-size g c =
    let sheet = take c.read_full-read.result c.read_full-read.new.buffer in
    let few : length sheet < block_length * c.in-Blocks.blocks = omega (arith, c.read_full-read.ensures.prefix_len.1, c.if-read-size.true) in
    ends_cut c.loop-place.invariant.0 (omega arith) (counted g (goal.at.returns-then-read-size g c).In-Blocks) sheet few

pub loop-place-preserved : goal.loop-place-preserved
loop-place-preserved g c =
    let size = block_length * c.in-Blocks.blocks in
    let buffer = c.read_full-read.new.buffer in
    let at = (goal.at.loop-place-preserved g c).In-Blocks in
    let all : length buffer ≡ size = c.read_full-read.auto.buffer ∙ length-take-le size c.loop-place.sheet (room g at) in
    let sheet = take c.read_full-read.result buffer in
    let read : length sheet ≡ size = omega (arith, c.read_full-read.ensures.prefix_len.0, c.read_full-read.ensures.prefix_len.1, c.if-read-size.false) in
    let same : take size (buffer ++ drop size c.loop-place.sheet) ≡ sheet = take_at buffer (drop size c.loop-place.sheet) size all ∙ sym (take_all c.read_full-read.result buffer (omega (arith, c.if-read-size.false))) in
    let more = so_far_next c.loop-place.invariant.0 (omega arith) (counted g at) sheet read in
    (rw (c.with_sheet-review.ensures, same) more, length_front c.loop-place.sheet buffer size c.read_full-read.auto.buffer ∙ c.loop-place.invariant.1)

pub returns : goal.returns
returns g c = ends_full c.loop-place.invariant.0 (omega arith)
