-- Documents 01, "The sheet", and 02, C-13, turned round: what is asked of a sheet, part by part, in the order in which it is checked.
-- Assumes nothing.
use Rattle.std.specs.Prelude.{ℕ, zero, suc, ◌+◌, ◌-◌, ◌*◌, ◌/◌, ◌%◌, ◌≤◌, ◌<◌, ◌≡◌, ◌⊎◌, ◌↔◌, List, [], ◌∷◌, ◌++◌, map, length, get_or, replicate}
use Rattle.lists.specs.Sums.{In, up_to}
use Rattle.packing.specs.Part.{part}
use Rattle.packing.specs.Numbers.{le}
use Rattle.meaning.specs.Plan.{most_regions, most_sectors, most_edges, most_constraints, most_visits}
use Rattle.refusals.specs.declared.Refusal.{Refusal}
use Rattle.refusals.specs.Table.{refused, Given}
use Rattle.refusals.specs.Table as refusals
use Rattle.blocks.specs.declared.Due as blocks
use Rattle.blocks.specs.Fletcher.{check}
use Rattle.blocks.specs.Block.{block_length, kind_at, zero_at, number_at, used_at, header_length, most_payload, checked_length}
use Rattle.blocks.specs.Section.{no_due}
use Rattle.blocks.specs.Sheet.{block_at}
use Rattle.form.specs.declared.Form.{Form}
use Rattle.form.specs.declared.Head.{Head}
use Rattle.form.specs.Form.{letters, most_blocks, flight_count, kind_count, form_in, dues, Contents, head_in, contents_in}
use Rattle.writing.specs.Promise.{sheet_bytes}
use Rattle.demands.specs.Tables.{Rule, ◌asks◌, All, before, Among, Due}
use Rattle.demands.specs.Rules.{WorkloadsFit, OutsideFits, EdgesFit, CountsFit, VisitsFit, ConstraintsFit, ColouringFits}
use Rattle.demands.specs.Parts.{Part, placed, as37, whole_part, AllParts, DueAt}

-- ---- the length

-- code 31: the length is a multiple of 512, and there is at least one block and not too many: 74 where the first four bytes are the new letters, else 43
abbrev pub LengthFits : List ℕ → Type 0
LengthFits sheet = (length sheet % block_length ≡ 0) × In (most_blocks (form_in sheet)) (length sheet / block_length)

-- ---- a block

-- code 32: bytes 0 to 3 are the letters
abbrev pub LettersFit : List ℕ → List ℕ → Type 0
LettersFit letters block = part 0 kind_at block ≡ letters

-- code 33: bytes 510 and 511 are Fletcher's two sums over bytes 0 to 509
abbrev pub CheckFits : List ℕ → Type 0
CheckFits block = part checked_length block_length block ≡ check (part 0 checked_length block)

-- code 34: byte 4 is the block kind that is due, and bytes 6 and 7 are the block number
abbrev pub KindFits : ℕ → ℕ → List ℕ → Type 0
KindFits kind number block = (part kind_at zero_at block ≡ kind ∷ []) × (part number_at used_at block ≡ le 2 number)

-- code 35: bytes 8 and 9 are the used count that is due
abbrev pub UsedFits : ℕ → List ℕ → Type 0
UsedFits used block = part used_at header_length block ≡ le 2 used

-- code 36: byte 5 is zero, and so is the payload after the used part
abbrev pub ZerosFit : ℕ → List ℕ → Type 0
ZerosFit used block = (part zero_at number_at block ≡ 0 ∷ []) × (part (header_length + used) checked_length block ≡ replicate (most_payload - used) 0)

-- the rules of a block of which these letters, this number, and this kind and used count are due
abbrev pub block_rules : List ℕ → ℕ → blocks.Due → List ℕ → List Rule
block_rules letters number d block =
    (32 asks LettersFit letters block)
    ∷ (33 asks CheckFits block)
    ∷ (34 asks KindFits d.kind number block)
    ∷ (35 asks UsedFits d.used block)
    ∷ (36 asks ZerosFit d.used block)
    ∷ []

-- what is due of block n of a sheet
abbrev pub due_at : Form → List ℕ → ℕ → blocks.Due
due_at f sheet n = get_or (dues f (head_in f sheet)) n no_due

-- the rules of block n of a sheet
abbrev pub rules_at : Form → List ℕ → ℕ → List Rule
rules_at f sheet n = block_rules (letters f) n (due_at f sheet n) (block_at sheet n)

-- ---- the head's numbers and the number of blocks

-- not too many flights, and a visit count that is not below the flight count nor above 32 times it
abbrev pub HeadFlightsFit : Form → Head → Type 0
HeadFlightsFit f h = (h.flights ≤ flight_count f) × ((h.flights ≤ h.visits) × (h.visits ≤ most_visits * h.flights))

-- code 37 for the head: its numbers keep to the call's rules, each known by the call's code for it
abbrev pub head_rules : Form → Head → List Rule
head_rules f h =
    (1 asks In most_regions h.regions)
    ∷ (2 asks In most_sectors h.sectors)
    ∷ (4 asks (h.edges ≤ most_edges))
    ∷ (6 asks In most_constraints h.constraints)
    ∷ (13 asks HeadFlightsFit f h)
    ∷ []

-- code 38: there are as many blocks as the head asks for
abbrev pub BlocksFit : Form → List ℕ → Type 0
BlocksFit f sheet = length sheet / block_length ≡ length (dues f (head_in f sheet))

-- ---- what the blocks hold

-- the contents of a sheet as what a call is given, with no moves and no room
abbrev pub as_given : Contents → Given
as_given k = refusals.given k.R k.S k.workloads k.outside k.edges k.counts k.visits k.constraints k.colouring [] 0 0 0

-- code 37 for what is held: it keeps to the call's rules, with constraints of the sheet's kinds, each known by its code
abbrev pub contents_rules : Form → Contents → List Rule
contents_rules f k =
    (3 asks WorkloadsFit (as_given k))
    ∷ (14 asks OutsideFits (as_given k))
    ∷ (5 asks EdgesFit (as_given k))
    ∷ (13 asks (CountsFit (as_given k) × VisitsFit (as_given k)))
    ∷ (7 asks ConstraintsFit (kind_count f) (as_given k))
    ∷ (8 asks ColouringFits (as_given k))
    ∷ []

-- ---- the lent bytes

-- code 40: they are enough for the sheet of these contents
abbrev pub BytesFit : Form → Contents → List ℕ → Type 0
BytesFit f k lent = sheet_bytes f k ≤ length lent

-- ---- a sheet in parts

-- its length
abbrev pub length_part : List ℕ → Part
length_part sheet = whole_part 31 (LengthFits sheet)

-- block n of it, which is the place
abbrev pub block_part : Form → List ℕ → ℕ → Part
block_part f sheet n = placed n (rules_at f sheet n)

-- the head's numbers
abbrev pub numbers_part : Form → List ℕ → Part
numbers_part f sheet = as37 (head_rules f (head_in f sheet))

-- the number of blocks
abbrev pub count_part : Form → List ℕ → Part
count_part f sheet = whole_part 38 (BlocksFit f sheet)

-- the blocks 1 to n
abbrev pub later_parts : Form → List ℕ → ℕ → List Part
later_parts f sheet n = map (block_part f sheet) (up_to n)

-- how many blocks are due after the head
abbrev pub later_count : Form → List ℕ → ℕ
later_count f sheet = length (dues f (head_in f sheet)) - 1

-- what the blocks hold
abbrev pub contents_part : Form → List ℕ → Part
contents_part f sheet = as37 (contents_rules f (contents_in f sheet))

-- the length, the head as a block, its numbers, and the number of blocks
abbrev pub open_parts : Form → List ℕ → List Part
open_parts f sheet = length_part sheet ∷ block_part f sheet 0 ∷ numbers_part f sheet ∷ count_part f sheet ∷ []

-- these, and each later block in turn
abbrev pub blocks_parts : Form → List ℕ → List Part
blocks_parts f sheet = open_parts f sheet ++ later_parts f sheet (later_count f sheet)

-- these, and what they hold
abbrev pub sheet_parts : Form → List ℕ → List Part
sheet_parts f sheet = blocks_parts f sheet ++ (contents_part f sheet ∷ [])

-- ---- what is checked before

-- before block n: the length, for the head; for a later block, which must be one of those due, all but the blocks from it on
abbrev pub BeforeBlock : Form → List ℕ → ℕ → Type 0
BeforeBlock f sheet zero = AllParts (length_part sheet ∷ [])
BeforeBlock f sheet (suc n) = (n < later_count f sheet) × AllParts (open_parts f sheet ++ later_parts f sheet n)

-- before the head's numbers: the length, and the head as a block
abbrev pub BeforeNumbers : Form → List ℕ → Type 0
BeforeNumbers f sheet = AllParts (length_part sheet ∷ block_part f sheet 0 ∷ [])

-- before the number of blocks: these, and the head's numbers
abbrev pub BeforeCount : Form → List ℕ → Type 0
BeforeCount f sheet = AllParts (length_part sheet ∷ block_part f sheet 0 ∷ numbers_part f sheet ∷ [])

-- before what is held: all blocks
abbrev pub BeforeContents : Form → List ℕ → Type 0
BeforeContents f sheet = AllParts (blocks_parts f sheet)

-- ---- when each code is given

-- a code that no part of a sheet has: none of 31 to 38
abbrev pub NoSheetCode : ℕ → Type 0
NoSheetCode code = 31 ≤ code → 39 ≤ code

-- codes 31 to 38 of a sheet of a form: each is given exactly when all that is checked before it holds and its own rule does not
pub record SheetCodes (f : Form) (sheet : List ℕ) (given : Refusal) : Type 0 where
  -- 31, no place: length zero, not a multiple of 512 or over so many blocks
  pub code_31 : Due given 31 (AllParts []) (LengthFits sheet) (λ place. place ≡ 0)
  -- 32, with the block number: letters
  pub code_32 : (n : ℕ) → DueAt given 32 n (BeforeBlock f sheet n × All (before 32 (rules_at f sheet n))) (LettersFit (letters f) (block_at sheet n))
  -- 33, with the block number: check
  pub code_33 : (n : ℕ) → DueAt given 33 n (BeforeBlock f sheet n × All (before 33 (rules_at f sheet n))) (CheckFits (block_at sheet n))
  -- 34, with the block number: kind or block number not the one due
  pub code_34 : (n : ℕ) → DueAt given 34 n (BeforeBlock f sheet n × All (before 34 (rules_at f sheet n))) (KindFits (due_at f sheet n).kind n (block_at sheet n))
  -- 35, with the block number: used count not the one due
  pub code_35 : (n : ℕ) → DueAt given 35 n (BeforeBlock f sheet n × All (before 35 (rules_at f sheet n))) (UsedFits (due_at f sheet n).used (block_at sheet n))
  -- 36, with the block number: a non-zero byte where zero is due
  pub code_36 : (n : ℕ) → DueAt given 36 n (BeforeBlock f sheet n × All (before 36 (rules_at f sheet n))) (ZerosFit (due_at f sheet n).used (block_at sheet n))
  -- 37 for the head, with place 1: R outside its limits
  pub code_37_1 : DueAt given 37 1 (BeforeNumbers f sheet × All (before 1 (head_rules f (head_in f sheet)))) (In most_regions (head_in f sheet).regions)
  -- 37 for the head, with place 2: S outside its limits
  pub code_37_2 : DueAt given 37 2 (BeforeNumbers f sheet × All (before 2 (head_rules f (head_in f sheet)))) (In most_sectors (head_in f sheet).sectors)
  -- 37 for the head, with place 4: over 2,048 edges
  pub code_37_4 : DueAt given 37 4 (BeforeNumbers f sheet × All (before 4 (head_rules f (head_in f sheet)))) ((head_in f sheet).edges ≤ most_edges)
  -- 37 for the head, with place 6: not 1..16 constraints
  pub code_37_6 : DueAt given 37 6 (BeforeNumbers f sheet × All (before 6 (head_rules f (head_in f sheet)))) (In most_constraints (head_in f sheet).constraints)
  -- 38, no place: block count not what the head asks
  pub code_38 : Due given 38 (BeforeCount f sheet) (BlocksFit f sheet) (λ place. place ≡ 0)
  -- 37 for what is held, with place 3: a workload too large
  pub code_37_3 : DueAt given 37 3 (BeforeContents f sheet × All (before 3 (contents_rules f (contents_in f sheet)))) (WorkloadsFit (as_given (contents_in f sheet)))
  -- 37 for what is held, with place 14: an outside area too large
  pub code_37_14 : DueAt given 37 14 (BeforeContents f sheet × All (before 14 (contents_rules f (contents_in f sheet)))) (OutsideFits (as_given (contents_in f sheet)))
  -- 37 for what is held, with place 5: an edge against its rules, or not above the edge before it
  pub code_37_5 : DueAt given 37 5 (BeforeContents f sheet × All (before 5 (contents_rules f (contents_in f sheet)))) (EdgesFit (as_given (contents_in f sheet)))
  -- 37 for what is held, with place 7: a constraint with a kind that the sheet doesn't hold, or a relation its kind doesn't take, or limit or weight outside
  pub code_37_7 : DueAt given 37 7 (BeforeContents f sheet × All (before 7 (contents_rules f (contents_in f sheet)))) (ConstraintsFit (kind_count f) (as_given (contents_in f sheet)))
  -- 37 for what is held, with place 8: a sector outside 1..S
  pub code_37_8 : DueAt given 37 8 (BeforeContents f sheet × All (before 8 (contents_rules f (contents_in f sheet)))) (ColouringFits (as_given (contents_in f sheet)))
  -- 37 with place 13, for the head: more than 64 flights, or a visit count below the flight count or above 32 times it; for what is held: a wrong visit count or visit, or counts that don't add up to the head's
  pub code_37_13 : given ≡ refused 37 13
      ↔ ((BeforeNumbers f sheet × All (before 13 (head_rules f (head_in f sheet)))) × (HeadFlightsFit f (head_in f sheet) → ⊥))
      ⊎ ((BeforeContents f sheet × All (before 13 (contents_rules f (contents_in f sheet)))) × (CountsFit (as_given (contents_in f sheet)) × VisitsFit (as_given (contents_in f sheet)) → ⊥))
  -- 37 names no other place: one of 1, 2, 4, 6 and 13 for the head, and where all blocks are right, one of 3, 14, 5, 13, 7 and 8 for what they hold
  pub places_37 : given.code ≡ 37 → Among given.place (head_rules f (head_in f sheet)) ⊎ (BeforeContents f sheet × Among given.place (contents_rules f (contents_in f sheet)))
