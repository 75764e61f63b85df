-- Sheet A with its colouring block spoiled, and with a sector that the plan does not have: what salvaging refuses, lists and gives.
-- Assumes nothing.
use Rattle.std.specs.Prelude.{ℕ, ◌≡◌, refl, List, [], ◌∷◌, set}
use Rattle.lists.specs.Sums.{passing}
use Rattle.packing.specs.Put.{put}
use Rattle.meaning.specs.Plan.{edges_of, visits_of, flights_of, constraints_of}
use Rattle.meaning.specs.Kinds.{leads_to}
use Rattle.scans.specs.Items.{off_from, edge_right, visits_right, constraint_right}
use Rattle.refusals.specs.Table.{refused, none, refusal, plan_table, plan_refusal}
use Rattle.blocks.specs.Block.{header, body, block_of, first_wrong, wrong}
use Rattle.form.specs.declared.Form.TheVariants.{First, Second}
use Rattle.form.specs.Form.{coloured, form_in, layouts, turned, numbers, sheet_of, head_in, contents_of, contents_in}
use Rattle.form.specs.Refusals.{open_table, held_table, sheet_refusal}
use Rattle.form.proofs.SheetA.{sheet_a, flown_a}
use Rattle.mending.specs.Mended.{lost, joins, lowest_beside, sector_given, mended}
use Rattle.salvage.specs.Surviving.{sound_at, survives, survivors}
use Rattle.salvage.specs.Promise.{other_table, salvage_refusal, salvaged_sheet}

-- ---- a spoiled block

-- a byte of the colouring's block is another
unfoldable spoiled : List ℕ
spoiled = set (sheet_of First sheet_a) 2400 1

-- reading refuses it by 33 for block 4
spoiled-read : sheet_refusal First spoiled ≡ refused 33 4
unfolding spoiled sheet_a sheet_of numbers layouts turned header body block_of head_in contents_in contents_of wrong first_wrong form_in open_table refusal plan_refusal plan_table off_from edge_right visits_right constraint_right edges_of visits_of flights_of constraints_of held_table sheet_refusal
spoiled-read = refl

-- with room for the sheet and for five regions, salvaging it is not refused
spoiled_salvaged : salvage_refusal First spoiled 2560 5 ≡ none
unfolding spoiled sheet_a sheet_of numbers layouts turned header body block_of head_in contents_in contents_of wrong first_wrong form_in open_table refusal plan_refusal plan_table off_from edge_right visits_right constraint_right edges_of visits_of flights_of constraints_of other_table salvage_refusal sound_at survives survivors passing
spoiled_salvaged = refl

-- with room for a region less it is
room_short : salvage_refusal First spoiled 2560 4 ≡ refused 17 0
unfolding spoiled sheet_a sheet_of numbers layouts turned header body block_of head_in contents_in contents_of wrong first_wrong form_in open_table refusal plan_refusal plan_table off_from edge_right visits_right constraint_right edges_of visits_of flights_of constraints_of other_table salvage_refusal sound_at survives survivors passing
room_short = refl

-- and before that with a byte less
bytes_short : salvage_refusal First spoiled 2559 4 ≡ refused 40 0
unfolding spoiled sheet_a sheet_of numbers layouts turned header body block_of head_in contents_in contents_of wrong first_wrong form_in open_table refusal plan_refusal plan_table off_from edge_right visits_right constraint_right edges_of visits_of flights_of constraints_of other_table salvage_refusal sound_at survives survivors passing
bytes_short = refl

-- all regions are lost
all-lost : lost (survivors First spoiled) ≡ 1 ∷ 2 ∷ 3 ∷ 4 ∷ 5 ∷ []
unfolding spoiled sheet_a sheet_of numbers layouts turned header body block_of head_in contents_in contents_of wrong first_wrong sound_at survives survivors passing
all-lost = refl

-- and each is given sector 1
all-given : salvaged_sheet First spoiled ≡ sheet_of First (coloured sheet_a (1 ∷ 1 ∷ 1 ∷ 1 ∷ 1 ∷ []))
unfolding spoiled sheet_a sheet_of numbers layouts turned header body block_of head_in contents_in contents_of wrong first_wrong sound_at survives survivors edges_of leads_to joins lowest_beside sector_given mended passing put salvaged_sheet
all-given = refl

-- ---- stray sectors

-- regions 2, 3 and 5 have sectors that the plan does not have
unfoldable strayed : List ℕ
strayed = sheet_of First (coloured sheet_a (2 ∷ 9 ∷ 3 ∷ 1 ∷ 0 ∷ []))

-- reading refuses it by 37 for the colouring
strayed-read : sheet_refusal First strayed ≡ refused 37 8
unfolding strayed sheet_a sheet_of numbers layouts turned header body block_of head_in contents_in contents_of wrong first_wrong form_in open_table refusal plan_refusal plan_table off_from edge_right visits_right constraint_right edges_of visits_of flights_of constraints_of held_table sheet_refusal
strayed-read = refl

-- salvaging it is not refused
strayed_salvaged : salvage_refusal First strayed 2560 3 ≡ none
unfolding strayed sheet_a sheet_of numbers layouts turned header body block_of head_in contents_in contents_of wrong first_wrong form_in open_table refusal plan_refusal plan_table off_from edge_right visits_right constraint_right edges_of visits_of flights_of constraints_of other_table salvage_refusal sound_at survives survivors passing
strayed_salvaged = refl

-- these three are lost
three_lost : lost (survivors First strayed) ≡ 2 ∷ 3 ∷ 5 ∷ []
unfolding strayed sheet_a sheet_of numbers layouts turned header body block_of head_in contents_in contents_of wrong first_wrong sound_at survives survivors passing
three_lost = refl

-- region 2 is given the sector of region 1; region 3 that of region 4, since its lower neighbour, region 2, is lost itself; region 5 that of region 4
three_given : salvaged_sheet First strayed ≡ sheet_of First (coloured sheet_a (2 ∷ 2 ∷ 1 ∷ 1 ∷ 1 ∷ []))
unfolding strayed sheet_a sheet_of numbers layouts turned header body block_of head_in contents_in contents_of wrong first_wrong sound_at survives survivors edges_of leads_to joins lowest_beside sector_given mended passing put salvaged_sheet
three_given = refl

-- ---- a fault elsewhere

-- of the second sheet a byte of the colouring's block is another, and one of the visits'
unfoldable spoiled_twice : List ℕ
spoiled_twice = set (set (sheet_of Second flown_a) 3000 1) 4000 1

-- reading refuses it for the first of them
twice_read : sheet_refusal Second spoiled_twice ≡ refused 33 5
unfolding spoiled_twice flown_a sheet_a sheet_of numbers layouts turned header body block_of head_in contents_in contents_of wrong first_wrong form_in open_table refusal plan_refusal plan_table off_from edge_right visits_right constraint_right edges_of visits_of flights_of constraints_of held_table sheet_refusal
twice_read = refl

-- and salvaging for the other
twice_refused : salvage_refusal Second spoiled_twice 4096 5 ≡ refused 33 7
unfolding spoiled_twice flown_a sheet_a sheet_of numbers layouts turned header body block_of head_in contents_in contents_of wrong first_wrong form_in open_table refusal plan_refusal plan_table off_from edge_right visits_right constraint_right edges_of visits_of flights_of constraints_of other_table salvage_refusal sound_at survives survivors passing
twice_refused = refl
