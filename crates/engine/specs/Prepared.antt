-- What is prepared once in a call: its lists, and what of the plan the rest holds.
-- Assumes nothing.
use Rattle.std.specs.Prelude.{ℕ, List, length}
use Rattle.meaning.specs.Plan.{Plan, plan_of}
use Rattle.engine.specs.declared.Prepared.{Prepared}
use Rattle.engine.specs.State.{Setting}
use Rattle.engine.specs.Sorted.{Sorted}
use Rattle.engine.specs.Flown.{Priced, Flown}

-- the plan: that of the lists, with the edges that its faces are gathered from
abbrev pub plan_prepared : Prepared → Plan
plan_prepared p =
    plan_of (length p.lists.workloads.now) p.lists.sectors p.lists.workloads.now p.lists.outside.now p.faces.edges.now p.lists.counts.now p.lists.visits.now p.lists.constraints.now

-- the constraints of the plan, sorted by kind
abbrev pub SortedBy : Prepared → Type 0
SortedBy p = Sorted (plan_prepared p) p.shared.now p.limited.now

-- what no move changes, and a queue that is long enough
abbrev pub SettingBy : Prepared → List ℕ → Type 0
SettingBy p q = Setting (plan_prepared p) p.whole p.faces.start.now p.faces.near.now p.faces.areas.now q

-- the flights of the plan and its constraints of kind 5
abbrev pub PricedBy : Prepared → Type 0
PricedBy p = Priced (plan_prepared p) p.visitors.timed.now p.visitors.counts.now p.visitors.visits.now

-- and the flights that visit each region
abbrev pub FlownBy : Prepared → Type 0
FlownBy p =
    Flown (plan_prepared p) p.visitors.timed.now p.visitors.counts.now p.visitors.visits.now p.visitors.starts.now p.visitors.numbers.now p.visitors.firsts.now
