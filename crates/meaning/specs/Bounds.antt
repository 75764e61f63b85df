-- How large the numbers of a colouring get within the limits of the documents, whatever the colouring's length and sectors.
-- Assumes nothing.
use Rattle.std.specs.Prelude.{ℕ, ◌+◌, ◌*◌}
use Rattle.meaning.specs.Plan.{most_regions, most_workload, most_edges, most_area, most_flights, most_visits, most_limit}

-- the most workload that a sector, or the whole plan, can have
abbrev pub most_load : ℕ
most_load = most_regions * most_workload

-- the largest distance that such a workload can have from a limit
abbrev pub most_distance : ℕ
most_distance = most_load + most_limit + 1

-- the most that a stretch may be from a limit: 32 * 86,400 + 10 ^ 11 + 1
abbrev pub most_off : ℕ
most_off = 100_002_764_801

-- the most that a border may be
abbrev pub most_border : ℕ
most_border = (most_edges + most_regions) * most_area

-- the most that a total may be
abbrev pub most_total : ℕ
most_total = 4_000_000_000_000_000_000

-- the most that kind 5 may have: 64 flights of 32 stretches
abbrev pub most_dwelling : ℕ
most_dwelling = most_flights * (most_visits * most_off)
