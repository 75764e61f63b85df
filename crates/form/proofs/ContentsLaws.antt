-- Contents and their numbers: what a sheet holds has as many of each as its head says, contents make numbers, numbers make contents, and each undoes the other.
-- Assumes nothing.
use Rattle.std.specs.Prelude.{ℕ, ◌*◌, ◌/◌, ◌≤◌, ◌≡◌, refl, List, [], ◌∷◌, length, take, drop}
use Rattle.std.proofs.Common.{arith, sym, ap, ◌∙◌, append-nil}
use Rattle.std.proofs.lemmas.List.{length-replicate}
use Rattle.lists.specs.Sums.{In, sum, Every}
use Rattle.lists.specs.ListLaws.{length-list_of}
use Rattle.packing.specs.Numbers.{unpack, total}
use Rattle.meaning.specs.Plan.{edge_length, visit_length, constraint_length, edge_at, constraint_at, edges_of, constraints_of, most_flights, most_visits}
use Rattle.meaning.specs.Flights.{length-flights_of}
use Rattle.refusals.specs.declared.Refusal.{Refusal}
use Rattle.refusals.specs.Table.{plan_refusal}
use Rattle.refusals.specs.Passed.{passed_none}
use Rattle.refusals.specs.FewerKinds.{passed_more_kinds}
use Rattle.refusals.specs.Valid.{ValidPlan, valid_plan}
use Rattle.blocks.specs.Block.{block_length, payload_of}
use Rattle.blocks.specs.Sheet.{block_at}
use Rattle.blocks.specs.Layout.{numbers_at, numbers_of, length-numbers}
use Rattle.form.specs.declared.Form.{Form}
use Rattle.form.specs.declared.Form.TheVariants.{First, Second}
use Rattle.form.specs.declared.Head.{Head}
use Rattle.form.specs.Form.{flight_count, head_widths, head_layout, workload_layout, outside_layout, edge_layout, constraint_layout, colouring_layout, count_layout, visit_layout, layouts, Contents, head_of, carried, head_numbers, numbers, head_from, head_in, contents_of, contents_in}
use Rattle.form.specs.Firsts.{workload_first, outside_first, edge_first, constraint_first, colouring_first, count_first, visit_first}
use Rattle.form.specs.FormLaws.{HeadLimits}
use Rattle.form.proofs.FormLaws.{length-turned, turned_twice}
use Rattle.form.specs.Refusals.{contents_table, contents_refusal}

-- contents have as many of each as a head says
pub record Counted (h : Head) (k : Contents) : Type 0 where
  pub regions : k.R ≡ h.regions
  pub sectors : k.S ≡ h.sectors
  pub workloads : length k.workloads ≡ h.regions
  pub outside : length k.outside ≡ h.regions
  pub edges : length k.edges ≡ edge_length * h.edges
  pub counts : length k.counts ≡ h.flights
  pub visits : length k.visits ≡ visit_length * h.visits
  pub constraints : length k.constraints ≡ constraint_length * h.constraints
  pub colouring : length k.colouring ≡ h.regions

-- then it is the head of the contents' own lists
pub head_of_lem : {h : Head} {k : Contents} → Counted h k → head_of k ≡ h
head_of_lem {h} {k} n =
    let e : length k.edges / edge_length ≡ h.edges = omega (arith, n.edges) in
    let t : length k.constraints / constraint_length ≡ h.constraints = omega (arith, n.constraints) in
    let v : length k.visits / visit_length ≡ h.visits = omega (arith, n.visits) in
    rw (e, t, v, n.regions, n.sectors, n.counts)

-- ---- numbers of contents

-- the numbers of contents that a form carries whole make these contents
pub contents-numbers : (f : Form) (k : Contents) → carried f k ≡ k → contents_of f (head_of k) (numbers f k) ≡ k
unfolding contents_of numbers
contents-numbers First k e = rw (turned_twice k.constraints, ap (λ (x : Contents). x.outside) e)
contents-numbers Second k e = rw (turned_twice k.constraints)

-- and those of the head the head
pub head_numbers_lem : (f : Form) (k : Contents) → carried f k ≡ k → head_from (head_numbers f (head_of k)) ≡ head_of k
head_numbers_lem First k e =
    let c : length k.counts ≡ 0 = ap (λ (x : Contents). length x.counts) (sym e) in
    let v : length k.visits / visit_length ≡ 0 = ap (λ (x : Contents). length x.visits / visit_length) (sym e) in
    rw (c, v)
head_numbers_lem Second k e = refl

-- ---- contents of a sheet

-- a form carries what it holds
pub carried_in : (f : Form) (sheet : List ℕ) → carried f (contents_in f sheet) ≡ contents_in f sheet
unfolding contents_in contents_of head_in layouts
carried_in First sheet = refl
carried_in Second sheet = refl

-- the numbers of the head are those of its block
pub head_block : (f : Form) (sheet : List ℕ) → numbers_at (head_layout f) 0 sheet ≡ unpack (head_widths f) (payload_of (total (head_widths f)) (block_at sheet 0))
head_block First sheet = ap (unpack (head_widths First)) (append-nil (payload_of (total (head_widths First)) (take block_length sheet)))
head_block Second sheet = ap (unpack (head_widths Second)) (append-nil (payload_of (total (head_widths Second)) (take block_length sheet)))

head_again : (f : Form) (sheet : List ℕ) → head_numbers f (head_in f sheet) ≡ unpack (head_widths f) (payload_of (total (head_widths f)) (block_at sheet 0))
unfolding head_in
head_again First sheet = refl
head_again Second sheet = refl

length_outside : (f : Form) (sheet : List ℕ) → length (contents_in f sheet).outside ≡ (head_in f sheet).regions
unfolding contents_in contents_of layouts
length_outside First sheet = length-replicate {A = ℕ} _ 0
length_outside Second sheet = let h = head_in Second sheet in length-numbers (outside_layout Second h) (outside_first Second h) sheet ∙ omega arith

-- there are as many of each as the head says
pub counted_in : (f : Form) (sheet : List ℕ) → Counted (head_in f sheet) (contents_in f sheet)
unfolding contents_in contents_of layouts
counted_in f sheet =
    let h = head_in f sheet in
    record {
      regions = refl;
      sectors = refl;
      workloads = length-numbers (workload_layout h) (workload_first f) sheet ∙ omega arith;
      outside = length_outside f sheet;
      edges = length-numbers (edge_layout h) (edge_first f h) sheet ∙ omega arith;
      counts = length-numbers (count_layout h) (count_first f h) sheet ∙ omega arith;
      visits = length-numbers (visit_layout h) (visit_first f h) sheet ∙ omega arith;
      constraints = length-turned (numbers_at (constraint_layout h) (constraint_first f h) sheet) ∙ length-numbers (constraint_layout h) (constraint_first f h) sheet ∙ omega arith;
      colouring = length-numbers (colouring_layout h) (colouring_first f h) sheet ∙ omega arith;
    }

-- so the head is that of the lists
pub head_read : (f : Form) (sheet : List ℕ) → head_of (contents_in f sheet) ≡ head_in f sheet
head_read f sheet = head_of_lem (counted_in f sheet)

-- the numbers of the contents are those that the blocks hold
pub numbers-read : (f : Form) (sheet : List ℕ) → numbers f (contents_in f sheet) ≡ numbers_of (layouts f (head_in f sheet)) sheet
unfolding numbers layouts contents_in contents_of
numbers-read f sheet = ap (λ (ns : List ℕ). ns ∷ drop 1 (numbers f (contents_in f sheet))) head ∙ later f
  where
    head : head_numbers f (head_of (contents_in f sheet)) ≡ numbers_at (head_layout f) 0 sheet
    head = ap (head_numbers f) (head_read f sheet) ∙ head_again f sheet ∙ sym (head_block f sheet)

    later : (f : Form) → numbers_at (head_layout f) 0 sheet ∷ drop 1 (numbers f (contents_in f sheet)) ≡ numbers_of (layouts f (head_in f sheet)) sheet
    later First = let h = head_in First sheet in rw (turned_twice (numbers_at (constraint_layout h) (constraint_first First h) sheet))
    later Second = let h = head_in Second sheet in rw (turned_twice (numbers_at (constraint_layout h) (constraint_first Second h) sheet))

-- ---- contents that are not refused

-- contents are a valid plan
abbrev pub ValidContents : Contents → Type 0
ValidContents k = ValidPlan k.R k.S k.workloads k.outside k.edges k.counts k.visits k.constraints k.colouring

-- contents that are not refused are
pub valid_contents : (f : Form) (k : Contents) → (contents_refusal f k).code ≡ 0 → ValidContents k
valid_contents First k z = valid_plan 4 (omega arith) k.R k.S k.workloads k.outside k.edges k.counts k.visits k.constraints k.colouring z
valid_contents Second k z = valid_plan 5 (omega arith) k.R k.S k.workloads k.outside k.edges k.counts k.visits k.constraints k.colouring z

-- the second sheet takes what either does
pub second_takes : (f : Form) (k : Contents) → (contents_refusal f k).code ≡ 0 → (contents_refusal Second k).code ≡ 0
unfolding plan_refusal
second_takes First k z =
    ap (λ (r : Refusal). r.code)
    (passed_none (contents_table Second k) (passed_more_kinds (omega arith) k.R k.S k.workloads k.outside k.edges k.counts k.visits k.constraints k.colouring z))
second_takes Second k z = z

-- all visits of flights, each of which has some and not too many
visits_between : (xs : List ℕ) → Every (In most_visits) xs → (length xs ≤ sum xs (λ n. n)) × (sum xs (λ n. n) ≤ most_visits * length xs)
visits_between [] e = (omega arith, omega arith)
visits_between (x ∷ xs) e = let p = visits_between xs e.1 in (omega (arith, p.0, e.0.low), omega (arith, p.1, e.0.high))

-- a valid plan has as many of each as its own head says
pub counted_valid : (k : Contents) → ValidContents k → Counted (head_of k) k
counted_valid k v =
    record {
      regions = refl;
      sectors = refl;
      workloads = v.limits.workloads;
      outside = v.limits.outside;
      edges = omega (arith, v.edges-whole);
      counts = refl;
      visits = omega (arith, v.visits-whole);
      constraints = omega (arith, v.constraints_whole);
      colouring = v.coloured.size;
    }

carried_flights : (f : Form) (k : Contents) → carried f k ≡ k → length k.counts ≤ most_flights → length k.counts ≤ flight_count f
carried_flights First k e l = omega (arith, ap (λ (x : Contents). length x.counts) e)
carried_flights Second k e l = l

-- and where the form carries it whole, its head is within the limits
pub limits_valid : (f : Form) (k : Contents) → carried f k ≡ k → ValidContents k → HeadLimits f (head_of k)
unfolding edges_of constraints_of
limits_valid f k e v =
    let l = v.limits in
    let n : length k.visits / visit_length ≡ sum k.counts (λ n. n) = omega (arith, v.visits-whole) in
    let b = visits_between k.counts v.count in
    record {
      regions = l.R;
      sectors = l.S;
      edges = rw (length-list_of (length k.edges / edge_length) (edge_at k.edges)) at l.edges;
      constraints =
          record {
            low = v.constraints_some;
            high = rw (length-list_of (length k.constraints / constraint_length) (constraint_at k.constraints)) at l.constraints;
          };
      flights = carried_flights f k e (rw (length-flights_of k.counts k.visits) at l.flights);
      visits_some = omega (arith, b.0);
      visits_few = omega (arith, b.1);
    }
