-- What the blocks after the head hold, kind by kind: each kind's number, how its records stand in bytes, and how many there are.
-- Assumes nothing.
use Rattle.std.specs.Prelude.{ℕ, List}
use Rattle.meaning.specs.Plan.{most_regions, most_edges, most_constraints, most_flights}
use Rattle.blocks.specs.Layout.{Layout}
use Rattle.form.specs.declared.Form.{Form}
use Rattle.form.specs.declared.Head.{Head}
use Rattle.form.specs.declared.sections.Kind.{Kind}
use Rattle.form.specs.declared.sections.Kind.TheVariants.{Workloads, Outside, Edges, Constraints, Colouring, Counts, Visits}
use Rattle.form.specs.Form.{outside_count, workload_widths, outside_widths, edge_widths, constraint_widths, sector_widths, count_widths, visit_widths, records}
use Rattle.form.specs.FormLaws.{most_visits_in_all}

-- the number that a block has for its kind
abbrev pub number_of : Kind → ℕ
number_of Workloads = 2
number_of Outside = 6
number_of Edges = 3
number_of Constraints = 4
number_of Colouring = 5
number_of Counts = 7
number_of Visits = 8

-- the bytes of each number of a record
abbrev pub widths_of : Kind → List ℕ
widths_of Workloads = workload_widths
widths_of Outside = outside_widths
widths_of Edges = edge_widths
widths_of Constraints = constraint_widths
widths_of Colouring = sector_widths
widths_of Counts = count_widths
widths_of Visits = visit_widths

-- how many records a full block holds
abbrev pub full_of : Kind → ℕ
full_of Workloads = 125
full_of Outside = 125
full_of Edges = 62
full_of Constraints = 41
full_of Colouring = 500
full_of Counts = 500
full_of Visits = 83

-- how many records there are
abbrev pub count_of : Kind → Form → Head → ℕ
count_of Workloads f h = h.regions
count_of Outside f h = outside_count f h.regions
count_of Edges f h = h.edges
count_of Constraints f h = h.constraints
count_of Colouring f h = h.regions
count_of Counts f h = h.flights
count_of Visits f h = h.visits

-- and how many at most
abbrev pub most_of : Kind → ℕ
most_of Workloads = most_regions
most_of Outside = most_regions
most_of Edges = most_edges
most_of Constraints = most_constraints
most_of Colouring = most_regions
most_of Counts = most_flights
most_of Visits = most_visits_in_all

-- how they are laid out: for each kind its layout among those of the form
abbrev pub layout_of : Kind → Form → Head → Layout
layout_of k f h = records (number_of k) (widths_of k) (full_of k) (count_of k f h)
