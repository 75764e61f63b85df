-- Document 01, "The sheet", and document 02, C-13: the two sheets, the kinds of blocks in order, and what they hold.
-- Assumes nothing.
use Rattle.std.specs.Prelude.{ℕ, ◌*◌, ◌/◌, cond, List, [], ◌∷◌, length, get_or, take}
use Rattle.packing.specs.Numbers.{unpack, rep, total}
use Rattle.meaning.specs.Plan.{edge_length, visit_length, constraint_length, most_flights, most_kind, no_outside}
use Rattle.blocks.specs.declared.Due.{Due}
use Rattle.blocks.specs.Same.{same}
use Rattle.blocks.specs.Block.{letters_length, payload_of}
use Rattle.blocks.specs.Sheet.{block_at}
use Rattle.blocks.specs.Layout.{Layout, all_dues, numbers_of}
use Rattle.blocks.specs.Layout as blocks
use Rattle.form.specs.declared.Form.{Form}
use Rattle.form.specs.declared.Form.TheVariants.{First, Second}
use Rattle.form.specs.declared.Head.{Head}

-- ---- what the two sheets differ in

-- S C T R in ASCII, and S C T 2
abbrev pub letters : Form → List ℕ
letters First = 83 ∷ 67 ∷ 84 ∷ 82 ∷ []
letters Second = 83 ∷ 67 ∷ 84 ∷ 50 ∷ []

-- how many blocks there are at most
abbrev pub most_blocks : Form → ℕ
most_blocks First = 43
most_blocks Second = 74

-- how many numbers the head has: R, S, edge count, constraint count; the second's also flight count and count of all visits
abbrev pub head_length : Form → ℕ
head_length First = 4
head_length Second = 6

-- how many regions have an outside area in it: of the first none
abbrev pub outside_count : Form → ℕ → ℕ
outside_count First R = 0
outside_count Second R = R

-- how many flights there are at most: in the first none
abbrev pub flight_count : Form → ℕ
flight_count First = 0
flight_count Second = most_flights

-- constraints are of the kinds 1 to so many
abbrev pub kind_count : Form → ℕ
kind_count First = 4
kind_count Second = most_kind

-- a sheet that starts with the second's letters is a second sheet, and any other is taken for a first
unfoldable pub form_in : List ℕ → Form
form_in sheet = cond (same (take letters_length sheet) (letters Second)) Second First

-- ---- what a sheet holds

pub record Contents : Type 0 where
  pub R : ℕ
  pub S : ℕ
  pub workloads : List ℕ
  pub outside : List ℕ
  pub edges : List ℕ
  pub counts : List ℕ
  pub visits : List ℕ
  pub constraints : List ℕ
  pub colouring : List ℕ

-- the numbers of its head
abbrev pub head_of : Contents → Head
head_of k =
    record {
      regions = k.R;
      sectors = k.S;
      edges = length k.edges / edge_length;
      constraints = length k.constraints / constraint_length;
      flights = length k.counts;
      visits = length k.visits / visit_length;
    }

-- what of it a form carries: the first sheet has zeros for outside areas, and no flights
abbrev pub carried : Form → Contents → Contents
carried First k =
    record {
      R = k.R;
      S = k.S;
      workloads = k.workloads;
      outside = no_outside k.R;
      edges = k.edges;
      counts = [];
      visits = [];
      constraints = k.constraints;
      colouring = k.colouring;
    }
carried Second k = k

-- the same with another colouring
abbrev pub coloured : Contents → List ℕ → Contents
coloured k colouring =
    record {
      R = k.R;
      S = k.S;
      workloads = k.workloads;
      outside = k.outside;
      edges = k.edges;
      counts = k.counts;
      visits = k.visits;
      constraints = k.constraints;
      colouring = colouring;
    }

-- ---- the bytes of each number

-- each number of the head
abbrev pub head_widths : Form → List ℕ
head_widths f = rep (head_length f) (2 ∷ [])

-- a workload
abbrev pub workload_widths : List ℕ
workload_widths = 4 ∷ []

-- an outside area
abbrev pub outside_widths : List ℕ
outside_widths = 4 ∷ []

-- a, b, area
abbrev pub edge_widths : List ℕ
edge_widths = 2 ∷ 2 ∷ 4 ∷ []

-- kind, relation, weight, limit
abbrev pub constraint_widths : List ℕ
constraint_widths = 1 ∷ 1 ∷ 2 ∷ 8 ∷ []

-- the sector of a region
abbrev pub sector_widths : List ℕ
sector_widths = 1 ∷ []

-- the visit count of a flight
abbrev pub count_widths : List ℕ
count_widths = 1 ∷ []

-- region, dwell
abbrev pub visit_widths : List ℕ
visit_widths = 2 ∷ 4 ∷ []

-- ---- the kinds in order

-- so many records of a kind, with so many in a full block
abbrev pub records : ℕ → List ℕ → ℕ → ℕ → Layout
records kind widths full count = record { kind = kind; size = full * total widths; widths = widths; count = count }

-- 1 head
abbrev pub head_layout : Form → Layout
head_layout f = records 1 (head_widths f) 1 1

-- 2 workloads
abbrev pub workload_layout : Head → Layout
workload_layout h = records 2 workload_widths 125 h.regions

-- 6 outside areas
abbrev pub outside_layout : Form → Head → Layout
outside_layout f h = records 6 outside_widths 125 (outside_count f h.regions)

-- 3 edges
abbrev pub edge_layout : Head → Layout
edge_layout h = records 3 edge_widths 62 h.edges

-- 4 constraints
abbrev pub constraint_layout : Head → Layout
constraint_layout h = records 4 constraint_widths 41 h.constraints

-- 5 colouring
abbrev pub colouring_layout : Head → Layout
colouring_layout h = records 5 sector_widths 500 h.regions

-- 7 visit counts
abbrev pub count_layout : Head → Layout
count_layout h = records 7 count_widths 500 h.flights

-- 8 visits
abbrev pub visit_layout : Head → Layout
visit_layout h = records 8 visit_widths 83 h.visits

-- all of them
unfoldable pub layouts : Form → Head → List Layout
layouts f h =
    head_layout f
    ∷ workload_layout h
    ∷ outside_layout f h
    ∷ edge_layout h
    ∷ constraint_layout h
    ∷ colouring_layout h
    ∷ count_layout h
    ∷ visit_layout h
    ∷ []

-- the blocks that are due
abbrev pub dues : Form → Head → List Due
dues f h = all_dues (layouts f h)

-- a constraint's last two numbers change places: limit before weight in the call, weight before limit in the sheet
unfoldable pub turned : List ℕ → List ℕ
turned [] = []
turned (kind ∷ []) = kind ∷ []
turned (kind ∷ relation ∷ []) = kind ∷ relation ∷ []
turned (kind ∷ relation ∷ x ∷ []) = kind ∷ relation ∷ x ∷ []
turned (kind ∷ relation ∷ x ∷ y ∷ rest) = kind ∷ relation ∷ y ∷ x ∷ turned rest

-- ---- from contents to bytes

-- the numbers of the head in their order
abbrev pub head_numbers : Form → Head → List ℕ
head_numbers f h = take (head_length f) (h.regions ∷ h.sectors ∷ h.edges ∷ h.constraints ∷ h.flights ∷ h.visits ∷ [])

-- the outside areas that are stored
abbrev pub stored : Form → List ℕ → List ℕ
stored First outside = []
stored Second outside = outside

-- the numbers of each kind
unfoldable pub numbers : Form → Contents → List (List ℕ)
numbers f k =
    head_numbers f (head_of k)
    ∷ k.workloads
    ∷ stored f k.outside
    ∷ k.edges
    ∷ turned k.constraints
    ∷ k.colouring
    ∷ k.counts
    ∷ k.visits
    ∷ []

-- the sheet that holds them
unfoldable pub sheet_of : Form → Contents → List ℕ
sheet_of f k = blocks.sheet_of (letters f) (layouts f (head_of k)) (numbers f k)

-- ---- and back

-- a head of these numbers; those that it doesn't have are 0
abbrev pub head_from : List ℕ → Head
head_from ns =
    record {
      regions = get_or ns 0 0;
      sectors = get_or ns 1 0;
      edges = get_or ns 2 0;
      constraints = get_or ns 3 0;
      flights = get_or ns 4 0;
      visits = get_or ns 5 0;
    }

-- the head of a sheet
unfoldable pub head_in : Form → List ℕ → Head
head_in f sheet = head_from (unpack (head_widths f) (payload_of (total (head_widths f)) (block_at sheet 0)))

-- the outside areas of so many regions, from those that are stored
abbrev pub unstored : Form → ℕ → List ℕ → List ℕ
unstored First R outside = no_outside R
unstored Second R outside = outside

-- the contents that the numbers of each kind make
unfoldable pub contents_of : Form → Head → List (List ℕ) → Contents
contents_of f h nss =
    record {
      R = h.regions;
      S = h.sectors;
      workloads = get_or nss 1 [];
      outside = unstored f h.regions (get_or nss 2 []);
      edges = get_or nss 3 [];
      counts = get_or nss 6 [];
      visits = get_or nss 7 [];
      constraints = turned (get_or nss 4 []);
      colouring = get_or nss 5 [];
    }

-- the contents of a sheet, as its head has them
unfoldable pub contents_in : Form → List ℕ → Contents
contents_in f sheet = let h = head_in f sheet in contents_of f h (numbers_of (layouts f h) sheet)

-- ---- of either sheet, by its letters

abbrev pub head_by : List ℕ → Head
head_by sheet = head_in (form_in sheet) sheet

abbrev pub contents_by : List ℕ → Contents
contents_by sheet = contents_in (form_in sheet) sheet
