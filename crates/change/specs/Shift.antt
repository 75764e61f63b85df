-- The figures after a change, from those before it and from what changes in two sectors.
-- Assumes nothing.
use Rattle.std.specs.Prelude.{ℕ, ◌+◌, ◌-◌, ◌*◌}
use Rattle.terms.specs.Distance.{gap}
use Rattle.judge.specs.declared.Figures.{Figures}
use Rattle.change.specs.declared.Pair.{Pair}
use Rattle.change.specs.declared.Sides.{Sides}
use Rattle.change.specs.declared.Swing.{Swing}
use Rattle.change.specs.declared.Change.{Change}

-- f of both numbers
abbrev pub each : (ℕ → ℕ) → Pair → Pair
each f p = record { old = f p.old; new = f p.new }

-- the components of each sector above its first
abbrev pub less_one : Pair → Pair
less_one components = each (λ n. n - 1) components

-- how far each workload is from the average, times the number of sectors
abbrev pub off_balance : ℕ → ℕ → Pair → Pair
off_balance S W workloads = each (λ x. gap (S * x) W) workloads

-- a sum of which two terms change
abbrev pub shift : ℕ → Pair → Pair → ℕ
shift sum before after = sum + (after.old + after.new) - (before.old + before.new)

-- a figure that gains and loses
abbrev pub swing : ℕ → Swing → ℕ
swing x s = x + s.gained - s.lost

-- the figures after the change, of S sectors and the whole workload W
unfoldable pub figures_after : ℕ → ℕ → Figures → Change → Figures
figures_after S W F c =
    record {
      components = shift F.components c.before.components c.after.components;
      excess = shift F.excess (less_one c.before.components) (less_one c.after.components);
      border = swing F.border c.border;
      deviation = shift F.deviation (off_balance S W c.before.workloads) (off_balance S W c.after.workloads);
      bounded = shift F.bounded c.before.prices c.after.prices;
      dwell = swing F.dwell c.dwell;
    }

-- the two sectors the other way round
abbrev pub turned_round : Sides → Sides
turned_round s =
    record {
      components = record { old = s.components.new; new = s.components.old };
      workloads = record { old = s.workloads.new; new = s.workloads.old };
      prices = record { old = s.prices.new; new = s.prices.old };
    }

-- two swings in one
abbrev pub together : Swing → Swing → Swing
together first second = record { gained = first.gained + second.gained; lost = first.lost + second.lost }

-- two changes in one, the second of which has the two sectors the other way round
abbrev pub in_turn : Change → Change → Change
in_turn first second =
    record {
      before = first.before;
      after = turned_round second.after;
      border = together first.border second.border;
      dwell = together first.dwell second.dwell;
    }
