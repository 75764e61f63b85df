-- Documents 01, "The sheet", and 02, C-13: what a sheet is refused for, in the order in which it is checked, whatever is lent to read it into.
-- Assumes nothing.
use Rattle.std.specs.Prelude.{ℕ, ◌*◌, ◌/◌, ◌%◌, Bool, not, ◌&&◌, List, [], ◌∷◌, ◌++◌, eqb, leb, length, drop}
use Rattle.packing.specs.Numbers.{total}
use Rattle.terms.specs.Plan.{within}
use Rattle.meaning.specs.Plan.{most_regions, most_sectors, most_edges, most_constraints, most_visits}
use Rattle.refusals.specs.declared.Refusal.{Refusal}
use Rattle.refusals.specs.Table.{Row, whole, item, refusal, plan_table, plan_refusal}
use Rattle.blocks.specs.Block.{block_length, wrong}
use Rattle.blocks.specs.Sheet.{block_at, fault_from}
use Rattle.form.specs.declared.Form.{Form}
use Rattle.form.specs.declared.Head.{Head}
use Rattle.form.specs.Form.{letters, most_blocks, flight_count, kind_count, form_in, head_widths, dues, Contents, head_in, contents_in}

-- ---- length, head and number of blocks

-- a fault of a block, which has a code of its own
abbrev pub fault : Refusal → Row
fault f = record { code = f.code; given = not (eqb f.code 0); place = f.place }

-- a whole number of blocks, at least one and not too many: how many are too many goes by the first four bytes
abbrev pub length_right : List ℕ → Bool
length_right sheet = eqb (length sheet % block_length) 0 && within 1 (length sheet / block_length) (most_blocks (form_in sheet))

-- 37 for a number of the head: the place is the call's code for it
abbrev pub head_row : ℕ → Bool → Row
head_row place right = record { code = 37; given = not right; place = place }

-- not too many flights, and 1 to 32 visits for each
abbrev pub flights_right : Form → Head → Bool
flights_right f h = leb h.flights (flight_count f) && within h.flights h.visits (most_visits * h.flights)

-- the rows on the head's numbers
abbrev pub head_table : Form → Head → List Row
head_table f h =
    head_row 1 (within 1 h.regions most_regions)
    ∷ head_row 2 (within 1 h.sectors most_sectors)
    ∷ head_row 4 (leb h.edges most_edges)
    ∷ head_row 6 (within 1 h.constraints most_constraints)
    ∷ head_row 13 (flights_right f h)
    ∷ []

-- what is wrong with the head as a block
abbrev pub head_fault : Form → List ℕ → ℕ
head_fault f sheet = wrong (letters f) 1 0 (total (head_widths f)) (block_at sheet 0)

-- the rows on the length, on the head and on the number of blocks
unfoldable pub open_table : Form → List ℕ → List Row
open_table f sheet =
    whole 31 (length_right sheet)
    ∷ fault (record { code = head_fault f sheet; place = 0 })
    ∷ head_table f (head_in f sheet)
    ++ (whole 38 (eqb (length sheet / block_length) (length (dues f (head_in f sheet)))) ∷ [])

-- ---- the later blocks, and what they hold

-- the call's rows on a plan, for what a sheet holds
abbrev pub contents_table : Form → Contents → List Row
contents_table f k = plan_table (kind_count f) k.R k.S k.workloads k.outside k.edges k.counts k.visits k.constraints k.colouring

-- what is refused of it
abbrev pub contents_refusal : Form → Contents → Refusal
contents_refusal f k = plan_refusal (kind_count f) k.R k.S k.workloads k.outside k.edges k.counts k.visits k.constraints k.colouring

-- the first of the blocks after the head that is refused
abbrev pub later_fault : Form → Head → List ℕ → Refusal
later_fault f h sheet = fault_from (letters f) 1 (drop 1 (dues f h)) (drop block_length sheet)

-- the rows on the later blocks in turn and on what they hold: 37 with the call's code for it
unfoldable pub held_table : Form → List ℕ → List Row
held_table f sheet = fault (later_fault f (head_in f sheet) sheet) ∷ item 37 (contents_refusal f (contents_in f sheet)).code ∷ []

-- ---- all of it

-- what a sheet is refused for as one of a form
unfoldable pub sheet_refusal : Form → List ℕ → Refusal
sheet_refusal f sheet = refusal (open_table f sheet ++ held_table f sheet)

-- and as the one that its letters say it is
abbrev pub refusal_by : List ℕ → Refusal
refusal_by sheet = sheet_refusal (form_in sheet) sheet
