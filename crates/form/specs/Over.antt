-- What is held stands at the front of what is lent.
-- Assumes nothing.
use Rattle.std.specs.Prelude.{ℕ, ◌+◌, ◌≤◌, ◌≡◌, List, ◌++◌, length, drop}
use Rattle.std.proofs.Common.{zero-add, ◌∙◌}
use Rattle.packing.specs.Put.{put, length-put}
use Rattle.packing.specs.Puts.{put-append}

-- what is held stands at the front of a lent list, and what lies beyond stays
abbrev pub over : List ℕ → List ℕ → List ℕ
over held lent = held ++ drop (length held) lent

-- a list put down from index 0 on stands at the front
pub put_front : (d s : List ℕ) → put d 0 s ≡ over s d
unfolding put
put_front d s = rw (zero-add (length s))

-- what is put down in what stands at the front
pub put-over-front : (d s : List ℕ) (at : ℕ) (xs : List ℕ) → at + length xs ≤ length s → put (over s d) at xs ≡ over (put s at xs) d
put-over-front d s at xs h = put-append s (drop (length s) d) at xs h ∙ rw (length-put s at xs h)
