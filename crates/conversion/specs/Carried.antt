-- What a form carries of contents, and that it carries what it holds.
-- Assumes nothing.
use Rattle.std.specs.Prelude.{ℕ, zero, suc, ◌/◌, ◌≡◌, refl, Bool, true, not, ◌&&◌, List, [], ◌∷◌, ◌↔◌, eqb, length, replicate}
use Rattle.std.proofs.Common.{arith, sym, ap, ◌∙◌, eqb-true, eq-eqb}
use Rattle.std.proofs.Math.Bool.{and-eq-true_iff}
use Rattle.std.proofs.lemmas.Bool.{not-false}
use Rattle.lists.specs.Sums.{sum}
use Rattle.lists.specs.Tests.{test-same}
use Rattle.meaning.specs.Plan.{constraint_length, no_outside}
use Rattle.scans.specs.Items.{first_off, constraint_right}
use Rattle.refusals.specs.declared.Refusal.{Refusal}
use Rattle.refusals.specs.Table.{plan_table, plan_refusal}
use Rattle.refusals.specs.Passed.{passed, passed_none, passed_each, each_passed}
use Rattle.refusals.specs.FewerKinds.{right_kind, kind_right_lem, passed_other_kinds}
use Rattle.form.specs.declared.Form.{Form}
use Rattle.form.specs.declared.Form.TheVariants.{First, Second}
use Rattle.form.specs.declared.Head.{Head}
use Rattle.form.specs.Form.{kind_count, Contents, head_of, carried}
use Rattle.form.specs.FormLaws.{HeadLimits}
use Rattle.form.proofs.ContentsLaws.{ValidContents}
use Rattle.form.specs.Refusals.{contents_table, contents_refusal}
use Rattle.conversion.specs.Promise.{all_zero, kind_right, kinds_right, carries}

-- ---- the head of what is carried

-- the first sheet has no flights
abbrev pub carried_head : Form → Head → Head
carried_head First h =
    record { regions = h.regions; sectors = h.sectors; edges = h.edges; constraints = h.constraints; flights = 0; visits = 0 }
carried_head Second h = h

-- it is the head of what is carried
pub head_carried : (f : Form) (k : Contents) → head_of (carried f k) ≡ carried_head f (head_of k)
head_carried First k = refl
head_carried Second k = refl

-- a head within the limits of one form, as another carries it, is within the limits of that
pub limits-carried : (from to : Form) {h : Head} → HeadLimits from h → HeadLimits to (carried_head to h)
limits-carried from First l =
    record { regions = l.regions; sectors = l.sectors; edges = l.edges; constraints = l.constraints; flights = omega arith; visits_some = omega arith; visits_few = omega arith }
limits-carried First Second l =
    record { regions = l.regions; sectors = l.sectors; edges = l.edges; constraints = l.constraints; flights = omega (arith, l.flights); visits_some = l.visits_some; visits_few = l.visits_few }
limits-carried Second Second l = l

-- ---- outside areas

-- areas are all 0 exactly where they add up to 0
pub zero-sum : (xs : List ℕ) → (all_zero xs ≡ true) ↔ (sum xs (λ x. x) ≡ 0)
zero-sum [] = ((λ e. refl), (λ e. refl))
zero-sum (x ∷ xs) = (
  (λ e. let p = (and-eq-true_iff (eqb x 0) (all_zero xs)).0 e in omega (arith, eqb-true x 0 p.0, (zero-sum xs).0 p.1)),
  (λ e. (and-eq-true_iff (eqb x 0) (all_zero xs)).1 (eq-eqb x 0 (omega arith), (zero-sum xs).1 (omega arith))),
)

-- then they are as many zeros
zeros : (xs : List ℕ) → all_zero xs ≡ true → xs ≡ replicate (length xs) 0
zeros [] e = refl
zeros (x ∷ xs) e = let p = (and-eq-true_iff (eqb x 0) (all_zero xs)).0 e in rw (eqb-true x 0 p.0) (ap (λ (l : List ℕ). 0 ∷ l) (zeros xs p.1))

all-zero : (n : ℕ) → all_zero (no_outside n) ≡ true
all-zero zero = refl
all-zero (suc n) = all-zero n

-- ---- kinds

-- of constraints that the second sheet takes, none has a kind above 4 exactly where the first takes each of them
pub kinds_right_lem : (k : Contents) → (contents_refusal Second k).code ≡ 0 → let n = length k.constraints / constraint_length in
    eqb (first_off n (constraint_right (kind_count First) k.constraints)) 0 ≡ kinds_right First k.constraints
unfolding plan_table plan_refusal
kinds_right_lem k z =
    let cs = k.constraints in
    let n = length cs / constraint_length in
    let second = passed_each (constraint_right (kind_count Second) cs) n (passed (contents_table Second k) tt z).1.1.1.1.1.1.1.1.1.1.1.1.1.0 in
    test-same _ _
    (λ e. not-false _ (each_passed (kind_right First cs) n (λ j h. right_kind cs (kind_count First) j (passed_each (constraint_right (kind_count First) cs) n (ap not e) j h))))
    (λ e. not-false _ (each_passed (constraint_right (kind_count First) cs) n (λ j h. kind_right_lem cs (kind_count Second) (kind_count First) j (second j h) (passed_each (kind_right First cs) n (ap not e) j h))))

-- ---- contents that a form carries

nothing : (xs : List ℕ) → length xs ≡ 0 → xs ≡ []
nothing [] e = refl
nothing (x ∷ xs) e = absurd (omega arith)

three : (a b c : Bool) → a && b && c ≡ true → (a ≡ true) × ((b ≡ true) × (c ≡ true))
three a b c e = let p = (and-eq-true_iff (a && b) c).0 e in let q = (and-eq-true_iff a b).0 p.0 in (q.0, (q.1, p.1))

-- they are carried whole
pub carried-whole : (f : Form) (k : Contents) → ValidContents k → carries f k ≡ true → carried f k ≡ k
unfolding carries
carried-whole First k v e =
    let p = three (all_zero k.outside) (eqb (length k.counts) 0) (kinds_right First k.constraints) e in
    let c : k.counts ≡ [] = nothing k.counts (eqb-true _ 0 p.1.0) in
    let n : sum k.counts (λ x. x) ≡ 0 = ap (λ (l : List ℕ). sum l (λ x. x)) c in
    let w : k.visits ≡ [] = nothing k.visits (omega (arith, v.visits-whole, n)) in
    let o : k.outside ≡ no_outside k.R = zeros k.outside p.0 ∙ ap no_outside v.limits.outside in
    let with : List ℕ → List ℕ → List ℕ → Contents =
    λ outside counts visits. record { R = k.R; S = k.S; workloads = k.workloads; outside = outside; edges = k.edges; counts = counts; visits = visits; constraints = k.constraints; colouring = k.colouring } in
    ap (λ (x : List ℕ). with x [] []) (sym o) ∙ ap (λ (x : List ℕ). with k.outside x []) (sym c) ∙ ap (with k.outside k.counts) (sym w)
carried-whole Second k v e = refl

-- and taken by it
pub carried-taken : (f : Form) (k : Contents) → (contents_refusal Second k).code ≡ 0 → carries f k ≡ true → (contents_refusal f k).code ≡ 0
unfolding carries plan_refusal
carried-taken First k z e =
    let p = three (all_zero k.outside) (eqb (length k.counts) 0) (kinds_right First k.constraints) e in
    let right = passed_each (kind_right First k.constraints) (length k.constraints / constraint_length) (ap not p.1.1) in
    ap (λ (r : Refusal). r.code)
    (passed_none (contents_table First k)
    (passed_other_kinds k.constraints (kind_count Second) (kind_count First) k.R k.S k.workloads k.outside k.edges k.counts k.visits k.colouring (λ j h t. right j h) z))
carried-taken Second k z e = z

-- what a form takes and carries whole, it carries
pub whole-carried : (f : Form) (k : Contents) → carried f k ≡ k → (contents_refusal f k).code ≡ 0 → carries f k ≡ true
unfolding carries plan_table plan_refusal
whole-carried First k e z =
    let cs = k.constraints in
    let n = length cs / constraint_length in
    let right = passed_each (constraint_right (kind_count First) cs) n (passed (contents_table First k) tt z).1.1.1.1.1.1.1.1.1.1.1.1.1.0 in
    let o : all_zero k.outside ≡ true = ap (λ (x : Contents). all_zero x.outside) (sym e) ∙ all-zero k.R in
    let c : length k.counts ≡ 0 = ap (λ (x : Contents). length x.counts) (sym e) in
    let kinds : kinds_right First cs ≡ true = not-false (kinds_right First cs) (each_passed (kind_right First cs) n (λ j h. right_kind cs (kind_count First) j (right j h))) in
    rw (o, c, kinds)
whole-carried Second k e z = refl
