-- What the functions of a change take for granted: that no sum falls below 0 and none gets too large.
-- Assumes nothing.
use Rattle.std.specs.Prelude.{ℕ, ◌+◌, ◌≤◌, ◌<◌, ◌^◌}
use Rattle.meaning.specs.Plan.{most_sectors}
use Rattle.meaning.specs.Bounds.{most_load}
use Rattle.judge.specs.declared.Figures.{Figures}
use Rattle.change.specs.declared.Pair.{Pair}
use Rattle.change.specs.declared.Swing.{Swing}
use Rattle.change.specs.declared.Change.{Change}
use Rattle.change.specs.Shift.{less_one, off_balance}

-- neither number is above B
pub record AtMost (B : ℕ) (p : Pair) : Type 0 where
  pub old : p.old ≤ B
  pub new : p.new ≤ B

-- a sum has room for two terms more, and with them is no less than the two that they take the place of
pub record Fits (sum : ℕ) (before after : Pair) : Type 0 where
  pub low : before.old + before.new ≤ sum + (after.old + after.new)
  pub high : sum + (after.old + after.new) < 2 ^ 64

-- a figure has room for what it gains, and with it is no less than what it loses
pub record Swings (x : ℕ) (s : Swing) : Type 0 where
  pub low : s.lost ≤ x + s.gained
  pub high : x + s.gained < 2 ^ 64

-- the figures can follow the change
pub record Shifting (S W : ℕ) (F : Figures) (c : Change) : Type 0 where
  pub components : Fits F.components c.before.components c.after.components
  pub excess : Fits F.excess (less_one c.before.components) (less_one c.after.components)
  pub border : Swings F.border c.border
  pub sectors : S ≤ most_sectors
  pub before : AtMost most_load c.before.workloads
  pub after : AtMost most_load c.after.workloads
  pub deviation : Fits F.deviation (off_balance S W c.before.workloads) (off_balance S W c.after.workloads)
  pub bounded : Fits F.bounded c.before.prices c.after.prices
  pub dwell : Swings F.dwell c.dwell

-- two swings can be added up
pub record Summable (first second : Swing) : Type 0 where
  pub gained : first.gained + second.gained < 2 ^ 64
  pub lost : first.lost + second.lost < 2 ^ 64

-- those of two changes can
pub record Addable (first second : Change) : Type 0 where
  pub border : Summable first.border second.border
  pub dwell : Summable first.dwell second.dwell
