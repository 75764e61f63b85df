-- Sheet A as bytes and back, and as a second sheet with outside areas and flights.
-- Assumes nothing.
use Rattle.std.specs.Prelude.{◌≡◌, refl, [], ◌∷◌}
use Rattle.scans.specs.Items.{off_from, edge_right, visits_right, constraint_right}
use Rattle.refusals.specs.Table.{refusal, none, plan_table, plan_refusal}
use Rattle.meaning.specs.Plan.{edges_of, visits_of, flights_of, constraints_of}
use Rattle.blocks.specs.Block.{header, body, block_of, first_wrong, wrong}
use Rattle.form.specs.declared.Form.TheVariants.{First, Second}
use Rattle.form.specs.Form.{Contents, carried, form_in, layouts, turned, numbers, sheet_of, head_in, contents_of, contents_in}
use Rattle.form.specs.Refusals.{open_table, held_table, sheet_refusal}

unfoldable pub sheet_a : Contents
sheet_a =
    record {
      R = 5;
      S = 2;
      workloads = 10 ∷ 20 ∷ 30 ∷ 25 ∷ 15 ∷ [];
      outside = 0 ∷ 0 ∷ 0 ∷ 0 ∷ 0 ∷ [];
      edges = 1 ∷ 2 ∷ 4 ∷ 2 ∷ 3 ∷ 6 ∷ 3 ∷ 4 ∷ 2 ∷ 4 ∷ 5 ∷ 3 ∷ [];
      counts = [];
      visits = [];
      constraints = 1 ∷ 3 ∷ 2 ∷ 100 ∷ 2 ∷ 1 ∷ 5 ∷ 1 ∷ 3 ∷ 1 ∷ 40 ∷ 2 ∷ 4 ∷ 1 ∷ 55 ∷ 3 ∷ [];
      colouring = 1 ∷ 1 ∷ 1 ∷ 2 ∷ 2 ∷ [];
    }

-- sheet A with faces to the outside, a flight of four visits, and a constraint on its stretches
unfoldable pub flown_a : Contents
unfolding sheet_a
flown_a =
    record {
      R = 5;
      S = 2;
      workloads = sheet_a.workloads;
      outside = 7 ∷ 0 ∷ 1 ∷ 0 ∷ 3 ∷ [];
      edges = sheet_a.edges;
      counts = 4 ∷ [];
      visits = 4 ∷ 20 ∷ 5 ∷ 10 ∷ 4 ∷ 15 ∷ 3 ∷ 80 ∷ [];
      constraints = 1 ∷ 3 ∷ 2 ∷ 100 ∷ 2 ∷ 1 ∷ 5 ∷ 1 ∷ 3 ∷ 1 ∷ 40 ∷ 2 ∷ 4 ∷ 1 ∷ 55 ∷ 3 ∷ 5 ∷ 6 ∷ 60 ∷ 2 ∷ [];
      colouring = sheet_a.colouring;
    }

-- the first sheet carries sheet A whole
carried-whole : carried First sheet_a ≡ sheet_a
unfolding sheet_a
carried-whole = refl

-- read again, its sheet holds sheet A
read_again : contents_in First (sheet_of First sheet_a) ≡ sheet_a
unfolding sheet_a sheet_of contents_in contents_of head_in numbers layouts turned header body block_of
read_again = refl

-- nothing of it is refused
not-refused : sheet_refusal First (sheet_of First sheet_a) ≡ none
unfolding sheet_a sheet_of contents_in contents_of form_in head_in numbers layouts turned header body block_of open_table held_table sheet_refusal refusal plan_refusal plan_table wrong first_wrong off_from edge_right visits_right constraint_right edges_of visits_of flights_of constraints_of
not-refused = refl

-- so it is with the second sheet
flown_again : contents_in Second (sheet_of Second flown_a) ≡ flown_a
unfolding sheet_a flown_a sheet_of contents_in contents_of head_in numbers layouts turned header body block_of
flown_again = refl

flown_not-refused : sheet_refusal Second (sheet_of Second flown_a) ≡ none
unfolding sheet_a flown_a sheet_of contents_in contents_of form_in head_in numbers layouts turned header body block_of open_table held_table sheet_refusal refusal plan_refusal plan_table wrong first_wrong off_from edge_right visits_right constraint_right edges_of visits_of flights_of constraints_of
flown_not-refused = refl
