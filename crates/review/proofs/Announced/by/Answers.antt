-- No byte announces nothing; a count that is too short or not within its limits is wrong, and another says the number that its bytes make.
use Rattle.std.specs.Prelude.{ℕ, ◌≡◌, ◌≤◌, cond, List, [], ◌∷◌, length, get_or}
use Rattle.std.specs.Int.{from_le_bytes}
use Rattle.std.proofs.Common.{arith, sym, ◌∙◌, w16}
use borrow.Author.Tests.{le-leb, lt-leb}
use Rattle.review.specs.declared.Announced.TheVariants.{Wrong, Blocks}
use Rattle.review.specs.Stream.{said_by, count_length, count_right, announced_by}
use Rattle.review.specs.StreamLaws.{announced_none, announced_some}
use Rattle.review.proofs.Announced.by.Goals as goal
use Rattle.review.proofs.Announced.by.Goals.{After-in_limits}

pub returns-in-empty : goal.returns-in-empty
returns-in-empty c = sym (announced_none _ (omega (arith, c.in-empty.len_below)))

pub returns-in_default : goal.returns-in_default
unfolding count_right
returns-in_default c = rw (announced_some c.args.count.now (omega (arith, c.in_default.len_at_least)), lt-leb _ _ c.in_default.len_below)

-- the number of the first two bytes
said : (count : List ℕ) → count_length ≤ length count → from_le_bytes w16 (get_or count 0 0 ∷ get_or count 1 0 ∷ []) ≡ said_by count
said [] h = absurd (omega arith)
said (b ∷ []) h = absurd (omega arith)
said (b ∷ d ∷ bs) h = omega arith

-- where both bytes are there, their number is tested
both : (c : After-in_limits) → announced_by c.args.count.now ≡ cond c.in_limits.result (Blocks c.from-blocks.result) Wrong
unfolding count_right
both c =
    let blocks : c.from-blocks.result ≡ said_by c.args.count.now = c.from-blocks.ensures ∙ c.from_le_bytes.ensures ∙ said c.args.count.now c.in-len2-up.len_at_least in
    rw (announced_some c.args.count.now (omega (arith, c.in-len2-up.len_at_least)), le-leb _ _ c.in-len2-up.len_at_least, ← blocks, ← c.most_blocks.ensures, ← c.in_limits.ensures)

pub returns-then-in_limits : goal.returns-then-in_limits
returns-then-in_limits c = rw (both (goal.at.returns-then-in_limits c).After-in_limits, c.if-in_limits.true)

pub returns-else-in_limits : goal.returns-else-in_limits
returns-else-in_limits c = rw (both (goal.at.returns-else-in_limits c).After-in_limits, c.if-in_limits.false)
