-- Every form is sound: a block of each kind holds whole records and no more than a payload, and there are no more blocks than a sheet has at most.
-- Assumes nothing.
use Rattle.std.specs.Prelude.{ℕ, suc, ◌*◌, ◌≤◌, ◌≡◌, refl, List, [], ◌∷◌, length, take, drop}
use Rattle.std.proofs.Math.Nat.{mul-mod_left}
use Rattle.std.proofs.Common.{arith, ap}
use Rattle.lists.specs.Sums.{Every}
use Rattle.packing.specs.Numbers.{Widths, one, two, four, eight, total}
use Rattle.meaning.specs.Plan.{most_flights}
use Rattle.blocks.specs.Block.{letters_length, most_payload}
use Rattle.blocks.specs.Section.{due, Small}
use Rattle.blocks.specs.SectionLaws.{length-due}
use Rattle.blocks.specs.Layout.{blocks_in, Laid, laid_small}
use Rattle.form.specs.declared.Form.{Form}
use Rattle.form.specs.declared.Form.TheVariants.{First, Second}
use Rattle.form.specs.declared.Head.{Head}
use Rattle.form.specs.Form.{letters, most_blocks, head_length, flight_count, head_widths, records, workload_layout, edge_layout, constraint_layout, colouring_layout, count_layout, visit_layout, layouts, dues, turned}
use Rattle.form.specs.FormLaws.{Bounded, HeadLimits, longest_head}

-- either has four letters
pub four_letters : (f : Form) → length (letters f) ≡ letters_length
four_letters First = refl
four_letters Second = refl

-- ---- the blocks of each kind

-- whole records, some of them, and no more than a payload
laid_records : (kind full count : ℕ) (ws : List ℕ) → Widths ws → 1 ≤ total ws → 1 ≤ full * total ws → full * total ws ≤ most_payload → Laid (records kind ws full count)
laid_records kind full count ws w s l h = record { low = l; high = h; widths = w; some = s; full = mul-mod_left full (total ws) }

pub laid_head : (f : Form) → Laid (records 1 (head_widths f) 1 1)
laid_head First = laid_records 1 1 1 (head_widths First) (two, (two, (two, (two, tt)))) (omega arith) (omega arith) (omega arith)
laid_head Second = laid_records 1 1 1 (head_widths Second) (two, (two, (two, (two, (two, (two, tt)))))) (omega arith) (omega arith) (omega arith)

-- no head has more numbers
pub few_head : (f : Form) → head_length f ≤ 6
few_head First = omega arith
few_head Second = omega arith

-- and each has the first of these widths
pub head_widths_lem : (f : Form) → take (head_length f) longest_head ≡ head_widths f
head_widths_lem First = refl
head_widths_lem Second = refl

-- a head fits in a payload
pub small_head : (f : Form) → total (head_widths f) ≤ most_payload
small_head First = omega arith
small_head Second = omega arith

pub laid_fours : (kind count : ℕ) → Laid (records kind (4 ∷ []) 125 count)
laid_fours kind count = laid_records kind 125 count (4 ∷ []) (four, tt) (omega arith) (omega arith) (omega arith)

pub laid_ones : (kind count : ℕ) → Laid (records kind (1 ∷ []) 500 count)
laid_ones kind count = laid_records kind 500 count (1 ∷ []) (one, tt) (omega arith) (omega arith) (omega arith)

pub laid_edges : (count : ℕ) → Laid (records 3 (2 ∷ 2 ∷ 4 ∷ []) 62 count)
laid_edges count = laid_records 3 62 count (2 ∷ 2 ∷ 4 ∷ []) (two, (two, (four, tt))) (omega arith) (omega arith) (omega arith)

pub laid_constraints : (count : ℕ) → Laid (records 4 (1 ∷ 1 ∷ 2 ∷ 8 ∷ []) 41 count)
laid_constraints count = laid_records 4 41 count (1 ∷ 1 ∷ 2 ∷ 8 ∷ []) (one, (one, (two, (eight, tt)))) (omega arith) (omega arith) (omega arith)

pub laid_visits : (count : ℕ) → Laid (records 8 (2 ∷ 4 ∷ []) 83 count)
laid_visits count = laid_records 8 83 count (2 ∷ 4 ∷ []) (two, (four, tt)) (omega arith) (omega arith) (omega arith)

pub laid_layouts : (f : Form) (h : Head) → Every Laid (layouts f h)
unfolding layouts
laid_layouts f h = (
  laid_head f,
  (laid_fours 2 _, (laid_fours 6 _, (laid_edges _, (laid_constraints _, (laid_ones 5 _, (laid_ones 7 _, (laid_visits _, tt))))))),
)

-- no block is used for more than a payload
pub small_form : (f : Form) (h : Head) → Small (dues f h)
small_form f h = laid_small (layouts f h) (laid_layouts f h)

-- ---- how many blocks

-- the head comes first
pub head_first : (f : Form) (h : Head) → dues f h ≡ due 1 (total (head_widths f)) ∷ drop 1 (dues f h)
unfolding layouts
head_first First h = refl
head_first Second h = refl

-- so there is at least one block
pub some_block : (f : Form) (h : Head) → 1 ≤ length (dues f h)
some_block f h = rw (head_first f h) (omega arith)

module _ {f : Form} (h : Head) (l : HeadLimits f h) where
  -- of a number for each region, and of the colouring
  few_regions : (blocks_in (workload_layout h) ≤ 5) × (blocks_in (colouring_layout h) ≤ 2)
  few_regions = (omega (arith, l.regions.high), omega (arith, l.regions.high))

  few_constraints : blocks_in (constraint_layout h) ≤ 1
  few_constraints = omega (arith, l.constraints.high)

-- then there are no more blocks than a sheet has at most
pub few_blocks : (f : Form) (h : Head) → HeadLimits f h → length (dues f h) ≤ most_blocks f
unfolding layouts
few_blocks First h l =
    let none : h.visits ≡ 0 = omega (arith, l.flights, l.visits_few) in
    let edges : blocks_in (edge_layout h) ≤ 34 = omega (arith, l.edges) in
    let counts : blocks_in (count_layout h) ≤ 0 = omega (arith, l.flights) in
    let visits : blocks_in (visit_layout h) ≤ 0 = omega (arith, none) in
    simp length-due (omega (arith, edges, counts, visits, (few_regions h l).0, (few_regions h l).1, few_constraints h l))
few_blocks Second h l =
    let edges : blocks_in (edge_layout h) ≤ 34 = omega (arith, l.edges) in
    let counts : blocks_in (count_layout h) ≤ 1 = omega (arith, l.flights) in
    let visits : blocks_in (visit_layout h) ≤ 25 = omega (arith, l.flights, l.visits_few) in
    simp length-due (omega (arith, edges, counts, visits, (few_regions h l).0, (few_regions h l).1, few_constraints h l))

-- and in either sheet no more than the second may have
pub few_either : (f : Form) {h : Head} → HeadLimits f h → length (dues f h) ≤ most_blocks Second
few_either First {h} l = omega (arith, few_blocks First h l)
few_either Second {h} l = few_blocks Second h l

pub few_flights : (f : Form) {n : ℕ} → n ≤ flight_count f → n ≤ most_flights
few_flights First e = omega arith
few_flights Second e = e

pub bounded : (f : Form) {h : Head} → HeadLimits f h → Bounded h
bounded f l =
    let few = few_flights f l.flights in
    record { regions = l.regions.high; edges = l.edges; constraints = l.constraints.high; flights = few; visits = omega (arith, few, l.visits_few) }

-- ---- turned constraints

-- turned twice, constraints are as they were
pub turned_twice : (xs : List ℕ) → turned (turned xs) ≡ xs
unfolding turned
turned_twice [] = refl
turned_twice (kind ∷ []) = refl
turned_twice (kind ∷ relation ∷ []) = refl
turned_twice (kind ∷ relation ∷ x ∷ []) = refl
turned_twice (kind ∷ relation ∷ x ∷ y ∷ rest) = ap (λ (l : List ℕ). kind ∷ relation ∷ x ∷ y ∷ l) (turned_twice rest)

-- turned, they are as many numbers
pub length-turned : (xs : List ℕ) → length (turned xs) ≡ length xs
unfolding turned
length-turned [] = refl
length-turned (kind ∷ []) = refl
length-turned (kind ∷ relation ∷ []) = refl
length-turned (kind ∷ relation ∷ x ∷ []) = refl
length-turned (kind ∷ relation ∷ x ∷ y ∷ rest) = ap (λ (n : ℕ). suc (suc (suc (suc n)))) (length-turned rest)
