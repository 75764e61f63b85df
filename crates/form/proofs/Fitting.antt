-- The numbers of contents that are not refused fit their widths.
-- Assumes nothing.
use Rattle.std.specs.Prelude.{ℕ, zero, suc, ◌+◌, ◌*◌, ◌/◌, ◌^◌, ◌≤◌, ◌<◌, ◌≡◌, refl, List, [], ◌∷◌, ◌++◌, length, get_or, take, drop}
use Rattle.std.proofs.Common.{add-zero, arith, sym, ap, ◌∙◌, length-drop, take-append-drop, get_or-drop, length-take-le}
use Rattle.lists.specs.Sums.{sum, Every}
use Rattle.lists.specs.SumLaws.{get_or_bound, every_turn}
use Rattle.lists.specs.ListLaws.{list_of_every}
use Rattle.lists.specs.Places.{at_next}
use Rattle.packing.specs.Numbers.{Fits, rep}
use Rattle.packing.specs.Cuts.{rep_add}
use Rattle.meaning.specs.Plan.{edge_length, visit_length, constraint_length, edge_at, visit_at, constraint_at, edges_of, visits_of, flights_of, constraints_of, most_regions, EdgeLimits, VisitLimits, FlightLimits, ConstraintLimits}
use Rattle.blocks.specs.Layout.{AllFit}
use Rattle.form.specs.declared.Form.{Form}
use Rattle.form.specs.declared.Form.TheVariants.{First, Second}
use Rattle.form.specs.Form.{head_widths, outside_widths, edge_widths, constraint_widths, visit_widths, outside_count, layouts, turned, Contents, head_of, carried, head_numbers, stored, numbers}
use Rattle.form.specs.FormLaws.{HeadLimits}
use Rattle.form.proofs.ContentsLaws.{ValidContents, counted_valid, limits_valid}

-- n numbers below 256 to the width
pub fits_each : (w n : ℕ) (xs : List ℕ) → length xs ≡ n → ((i : ℕ) → i < n → get_or xs i 0 < 256 ^ w) → Fits (rep n (w ∷ [])) xs
fits_each w zero [] l h = tt
fits_each w zero (x ∷ xs) l h = absurd (omega arith)
fits_each w (suc n) [] l h = absurd (omega arith)
fits_each w (suc n) (x ∷ xs) l h = (h 0 (omega arith), fits_each w n xs (omega arith) (λ i m. h (suc i) (omega arith)))

-- ---- the next record

-- a number of record k + 1 is that of record k of what follows the first
module _ (w : ℕ) (xs : List ℕ) (k : ℕ) where
  later : (j : ℕ) → get_or xs (w * suc k + j) 0 ≡ get_or (drop w xs) (w * k + j) 0
  later j =
      let e : w * suc k + j ≡ w + (w * k + j) = omega arith in
      ap (λ (i : ℕ). get_or xs i 0) e ∙ sym (get_or-drop w xs (w * k + j) 0)

  later_first : get_or xs (w * suc k) 0 ≡ get_or (drop w xs) (w * k) 0
  later_first = simp add-zero at (later 0)

edge_later : (xs : List ℕ) (k : ℕ) → edge_at xs (suc k) ≡ edge_at (drop edge_length xs) k
edge_later xs k = rw (later_first edge_length xs k, later edge_length xs k 1, later edge_length xs k 2)

visit_later : (xs : List ℕ) (k : ℕ) → visit_at xs (suc k) ≡ visit_at (drop visit_length xs) k
visit_later xs k = rw (later_first visit_length xs k, later visit_length xs k 1)

constraint_later : (xs : List ℕ) (k : ℕ) → constraint_at xs (suc k) ≡ constraint_at (drop constraint_length xs) k
constraint_later xs k =
    rw (later_first constraint_length xs k, later constraint_length xs k 1, later constraint_length xs k 2, later constraint_length xs k 3)

-- ---- edges, visits and constraints within the limits

fits_edges : (R n : ℕ) (xs : List ℕ) → R ≤ most_regions → length xs ≡ edge_length * n → ((k : ℕ) → k < n → EdgeLimits R (edge_at xs k)) → Fits (rep n edge_widths) xs
fits_edges R zero [] r l h = tt
fits_edges R zero (x ∷ xs) r l h = absurd (omega arith)
fits_edges R (suc n) [] r l h = absurd (omega arith)
fits_edges R (suc n) (a ∷ []) r l h = absurd (omega arith)
fits_edges R (suc n) (a ∷ b ∷ []) r l h = absurd (omega arith)
fits_edges R (suc n) (a ∷ b ∷ area ∷ xs) r l h =
    let e = h 0 (omega arith) in
    let rest = fits_edges R n xs r (omega arith) (λ k m. rw (edge_later (a ∷ b ∷ area ∷ xs) k) at (h (suc k) (omega arith))) in
    (omega arith, (omega arith, (omega arith, rest)))

fits_constraints : (n : ℕ) (xs : List ℕ) → length xs ≡ constraint_length * n → ((k : ℕ) → k < n → ConstraintLimits (constraint_at xs k)) → Fits (rep n constraint_widths) (turned xs)
unfolding turned
fits_constraints zero [] l h = tt
fits_constraints zero (x ∷ xs) l h = absurd (omega arith)
fits_constraints (suc n) [] l h = absurd (omega arith)
fits_constraints (suc n) (kind ∷ []) l h = absurd (omega arith)
fits_constraints (suc n) (kind ∷ relation ∷ []) l h = absurd (omega arith)
fits_constraints (suc n) (kind ∷ relation ∷ limit ∷ []) l h = absurd (omega arith)
fits_constraints (suc n) (kind ∷ relation ∷ limit ∷ weight ∷ xs) l h =
    let c = h 0 (omega arith) in
    let rest = fits_constraints n xs (omega arith) (λ k m. rw (constraint_later (kind ∷ relation ∷ limit ∷ weight ∷ xs) k) at (h (suc k) (omega arith))) in
    (omega arith, (omega arith, (omega arith, (omega arith, rest))))

-- numbers that fit their widths, and then others
fits_append : (a b xs ys : List ℕ) → Fits a xs → Fits b ys → Fits (a ++ b) (xs ++ ys)
fits_append [] b [] ys p q = q
fits_append (w ∷ a) b (x ∷ xs) ys p q = (p.0, fits_append a b xs ys p.1 q)
fits_append [] b (x ∷ xs) ys p q = elim p [ ]
fits_append (w ∷ a) b [] ys p q = elim p [ ]

fits_visits : (R n : ℕ) (xs : List ℕ) → R ≤ most_regions → length xs ≡ visit_length * n → ((k : ℕ) → k < n → VisitLimits R (visit_at xs k)) → Fits (rep n visit_widths) xs
fits_visits R zero [] r l h = tt
fits_visits R zero (x ∷ xs) r l h = absurd (omega arith)
fits_visits R (suc n) [] r l h = absurd (omega arith)
fits_visits R (suc n) (a ∷ []) r l h = absurd (omega arith)
fits_visits R (suc n) (a ∷ b ∷ xs) r l h =
    let v = h 0 (omega arith) in
    let rest = fits_visits R n xs r (omega arith) (λ k m. rw (visit_later (a ∷ b ∷ xs) k) at (h (suc k) (omega arith))) in
    (omega (arith, v.region.high), (omega (arith, v.dwell.high), rest))

-- the visits of all flights
fits_flights : (R : ℕ) (counts visits : List ℕ) → R ≤ most_regions → length visits ≡ visit_length * sum counts (λ n. n) → Every (FlightLimits R) (flights_of counts visits)
    → Fits (rep (sum counts (λ n. n)) visit_widths) visits
unfolding flights_of visits_of
fits_flights R [] [] r l h = tt
fits_flights R [] (x ∷ visits) r l h = absurd (omega arith)
fits_flights R (n ∷ counts) visits r l h =
    let own = take (visit_length * n) visits in
    let others = drop (visit_length * n) visits in
    let m : length own ≡ visit_length * n = length-take-le (visit_length * n) visits (omega arith) in
    let e : length own / visit_length ≡ n = omega (arith, m) in
    let first = fits_visits R n own r m (list_of_every (VisitLimits R) n (visit_at own) (rw e at h.0.visit)) in
    let later = fits_flights R counts others r (rw (length-drop (visit_length * n) visits) (omega arith)) h.1 in
    rw (rep_add n (sum counts (λ n. n)) visit_widths, ← take-append-drop (visit_length * n) visits)
    (fits_append (rep n visit_widths) (rep (sum counts (λ n. n)) visit_widths) own others first later)

-- ---- all numbers

-- the head's numbers have two bytes each
fits_head : (f : Form) (k : Contents) → HeadLimits f (head_of k) → Fits (rep 1 (head_widths f)) (head_numbers f (head_of k))
fits_head First k h =
    (omega (arith, h.regions.high), (omega (arith, h.sectors.high), (omega (arith, h.edges), (omega (arith, h.constraints.high), tt))))
fits_head Second k h = (
  omega (arith, h.regions.high),
  (omega (arith, h.sectors.high), (omega (arith, h.edges), (omega (arith, h.constraints.high), (omega (arith, h.flights), (omega (arith, h.flights, h.visits_few), tt))))),
)

-- outside areas have four, where they are stored
fits_outside : (f : Form) (R : ℕ) (outside : List ℕ) → Fits (rep R outside_widths) outside → Fits (rep (outside_count f R) outside_widths) (stored f outside)
fits_outside First R outside h = tt
fits_outside Second R outside h = h

-- the numbers of a valid plan that a form carries whole fit their widths
pub fits_numbers : (f : Form) (k : Contents) → carried f k ≡ k → ValidContents k → AllFit (layouts f (head_of k)) (numbers f k)
unfolding layouts numbers edges_of constraints_of
fits_numbers f k c v =
    let l = v.limits in
    let s = v.coloured in
    let n = counted_valid k v in
    let es = length k.edges / edge_length in
    let cs = length k.constraints / constraint_length in
    let vs : length k.visits / visit_length ≡ sum k.counts (λ n. n) = omega (arith, v.visits-whole) in
    let workload = fits_each 4 k.R k.workloads l.workloads (λ i m. omega (arith, get_or_bound k.workloads i l.workload)) in
    let outside = fits_each 4 k.R k.outside l.outside (λ i m. omega (arith, get_or_bound k.outside i l.outside_area)) in
    let edge = fits_edges k.R es k.edges l.R.high n.edges (list_of_every (EdgeLimits k.R) es (edge_at k.edges) l.edge) in
    let constraint = fits_constraints cs k.constraints n.constraints (list_of_every ConstraintLimits cs (constraint_at k.constraints) l.constraint) in
    let sector = fits_each 1 k.R k.colouring s.size (λ i m. omega (arith, (s.sector (i + 1) (omega arith)).high, at_next k.colouring i, l.S.high)) in
    let count = fits_each 1 (length k.counts) k.counts refl (λ i m. omega (arith, get_or_bound k.counts i (every_turn (λ x e. e.high) k.counts v.count))) in
    let visit : Fits (rep (length k.visits / visit_length) visit_widths) k.visits = rw vs (fits_flights k.R k.counts k.visits l.R.high v.visits-whole l.flight) in
    (fits_head f k (limits_valid f k c v), (workload, (fits_outside f k.R k.outside outside, (edge, (constraint, (sector, (count, (visit, tt))))))))
