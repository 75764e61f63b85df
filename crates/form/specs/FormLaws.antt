-- Every form is sound: a block of each kind holds whole records and no more than a payload, and there are no more blocks than a sheet has at most.
-- Assumes nothing.
use Rattle.std.specs.Prelude.{ℕ, ◌*◌, ◌≤◌, List, [], ◌∷◌}
use Rattle.lists.specs.Sums.{In}
use Rattle.meaning.specs.Plan.{most_regions, most_sectors, most_edges, most_constraints, most_flights, most_visits}
use Rattle.form.specs.declared.Form.{Form}
use Rattle.form.specs.declared.Head.{Head}
use Rattle.form.specs.Form.{flight_count}

-- the widths of the longest head
abbrev pub longest_head : List ℕ
longest_head = 2 ∷ 2 ∷ 2 ∷ 2 ∷ 2 ∷ 2 ∷ []

-- all flights have at most so many visits
abbrev pub most_visits_in_all : ℕ
most_visits_in_all = most_visits * most_flights

-- the head's numbers are within the limits
pub record HeadLimits (f : Form) (h : Head) : Type 0 where
  pub regions : In most_regions h.regions
  pub sectors : In most_sectors h.sectors
  pub edges : h.edges ≤ most_edges
  pub constraints : In most_constraints h.constraints
  pub flights : h.flights ≤ flight_count f
  pub visits_some : h.flights ≤ h.visits
  pub visits_few : h.visits ≤ most_visits * h.flights

-- no number of a head is larger than the call's limits allow, in either sheet
pub record Bounded (h : Head) : Type 0 where
  pub regions : h.regions ≤ most_regions
  pub edges : h.edges ≤ most_edges
  pub constraints : h.constraints ≤ most_constraints
  pub flights : h.flights ≤ most_flights
  pub visits : h.visits ≤ most_visits_in_all
