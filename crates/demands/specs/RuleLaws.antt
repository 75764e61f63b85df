-- The tests and the rows of the call's table say what the rules say.
-- Assumes nothing.
use Prim.Native.Nat.{ℕ, zero, suc, ◌+◌, ◌-◌, ◌/◌, ◌%◌, ◌≤◌, ◌<◌}
use Rattle.std.proofs.Math.Numerals.{sub-one}
use Rattle.std.proofs.Common.{arith, sym, ◌∙◌, ⊎_elim, leb-true, le-leb, ltb-true, lt-ltb, eqb-true, eq-eqb, ne_eqb}
use Rattle.std.proofs.Math.Decide.{ℕ_discrete}
use Rattle.std.specs.Prelude.{◌≡◌, ◌≢◌, ◌⊎◌, ◌↔◌, Bool, cond, ◌&&◌, ◌||◌, List, [], ◌∷◌, eqb, leb, ltb, T, length}
use Rattle.std.proofs.Math.Path.{refl}
use Rattle.std.proofs.Math.Logic.{inl, inr}
use Rattle.std.proofs.Math.Logic.Iff
use Rattle.std.proofs.Math.Bool.{true, false, and-eq-true_iff, true≢false}
use mathlib.Mathlib.Data.Bool.Basic.{or_inl, or_inr}
use Rattle.std.proofs.lemmas.Bool.{not-false}
use Rattle.lists.specs.Sums.{In, Every}
use Rattle.lists.specs.Tests.{or_cases}
use Rattle.terms.specs.Plan.{within}
use Rattle.meaning.specs.Plan.{Visit, VisitLimits, edge_at, constraint_at, most_area, most_dwell, most_limit, most_weight}
use Rattle.scans.specs.Items.{off_from, first_off, edge_right, visits_right, constraint_right, records}
use Rattle.refusals.specs.Table.{Row, refused, none, whole, each, refusal}
use Rattle.refusals.specs.Passed.{passed_each, each_passed}
use Rattle.demands.specs.Tables.{first_or-others}
use Rattle.demands.specs.Rules.{Each, First, ListPlace, EdgeRules, ConstraintRules}

-- ---- tests and what they say

-- the test for at most
pub at_most_lem : (x y : ℕ) → leb x y ≡ true ↔ x ≤ y
at_most_lem x y = (leb-true x y, le-leb x y)

-- the test for below
below : (x y : ℕ) → ltb x y ≡ true ↔ x < y
below x y = (ltb-true x y, lt-ltb x y)

-- the test for equal
pub equal : (x y : ℕ) → eqb x y ≡ true ↔ x ≡ y
equal x y = (eqb-true x y, eq-eqb x y)

-- a test that passes is true
passes_true : (t : Bool) → T t → t ≡ true
passes_true true h = refl
passes_true false h = elim h [ ]

module _ {s t : Bool} {A B : Type 0} (f : s ≡ true ↔ A) (h : t ≡ true ↔ B) where
  -- two tests that both pass
  pub both : s && t ≡ true ↔ A × B
  both = Iff.trans (and-eq-true_iff s t) (Iff.and f h)

  -- two tests of which one passes
  either : s || t ≡ true ↔ A ⊎ B
  either = (λ e. ⊎_elim (λ a. inl (f.0 a)) (λ b. inr (h.0 b)) (or_cases s t e), ⊎_elim (λ a. or_inl s t (f.1 a)) (λ b. or_inr s t (h.1 b)))

-- the test for one of 1..n
pub one_of : (n x : ℕ) → within 1 x n ≡ true ↔ In n x
one_of n x = Iff.trans (both (at_most_lem 1 x) (at_most_lem x n)) (λ p. record { low = p.0; high = p.1 }, λ i. (i.low, i.high))

-- the table's test of a list of at most so many whole records
pub some_records : (width high : ℕ) (xs : List ℕ) → records width 0 high xs ≡ true ↔ (length xs % width ≡ 0) × (length xs / width ≤ high)
some_records width high xs =
    Iff.trans (both (equal (length xs % width) 0) (both (at_most_lem 0 (length xs / width)) (at_most_lem (length xs / width) high)))
    (λ p. (p.0, p.1.1), λ p. (p.0, (omega arith, p.1)))

-- the table's test of an edge is its rules
pub edge_rules : (R : ℕ) (edges : List ℕ) (k : ℕ) → edge_right R edges k ≡ true ↔ EdgeRules R edges k
unfolding edge_right
edge_rules R edges k =
    let d = edge_at edges (k - 1) in
    let e = edge_at edges k in
    let limits = both (both (both (at_most_lem 1 e.a) (below e.a e.b)) (at_most_lem e.b R)) (one_of most_area e.area) in
    let after = either (equal k 0) (either (below d.a e.a) (both (equal d.a e.a) (below d.b e.b))) in
    let test = both limits after in (
      λ t. let p = test.0 t in record { limits = record { low = p.0.0.0.0; rise = p.0.0.0.1; high = p.0.0.1; area = p.0.1 }; after = p.1 },
      λ r. test.1 ((((r.limits.low, r.limits.rise), r.limits.high), r.limits.area), r.after),
    )

-- the table's test of a flight is its rules
pub flight_rules : (R : ℕ) (flight : List Visit) → visits_right R flight ≡ true ↔ Every (VisitLimits R) flight
unfolding visits_right
flight_rules R [] = (λ t. tt, λ e. refl)
flight_rules R (v ∷ vs) =
    let test = both (both (one_of R v.region) (one_of most_dwell v.dwell)) (flight_rules R vs) in (
      λ t. let p = test.0 t in (record { region = p.0.0; dwell = p.0.1 }, p.1),
      λ e. test.1 ((e.0.region, e.0.dwell), e.1),
    )

-- the table's test of a constraint is its rules
pub constraint_rules : (kinds : ℕ) (constraints : List ℕ) (k : ℕ) → constraint_right kinds constraints k ≡ true ↔ ConstraintRules kinds constraints k
unfolding constraint_right
constraint_rules kinds constraints k =
    let c = constraint_at constraints k in
    let takes = both (one_of 6 c.relation) (either (either (equal c.kind 1) (at_most_lem 4 c.kind)) (equal c.relation 1)) in
    let test = both (both (both (one_of kinds c.kind) takes) (at_most_lem c.limit most_limit)) (one_of most_weight c.weight) in (
      λ t. let p = test.0 t in record { kind = p.0.0.0; relation = p.0.0.1.0; takes = p.0.0.1.1; limit = p.0.1; weight = p.1 },
      λ r. test.1 (((r.kind, (r.relation, r.takes)), r.limit), r.weight),
    )

-- ---- rows and what they say

-- a row on a whole passes exactly when its test says so
pub whole_passes : (code : ℕ) {t : Bool} {A : Type 0} → t ≡ true ↔ A → (whole code t).given ≡ false ↔ A
whole_passes code {t} f = (λ e. f.0 (not-false t e), λ a. rw (f.1 a))

module _ (right : ℕ → Bool) where
  -- place is that of the first of the items k, k + 1, .., n of them, that is off
  record Off (k n place : ℕ) : Type 0 where
    low : k < place
    high : place ≤ k + n
    off : right (place - 1) ≡ false
    before : (j : ℕ) → k ≤ j → j < place - 1 → right j ≡ true

  -- where some item is off, the first is found
  some_off : (k n : ℕ) → off_from k n right ≢ 0 → Off k n (off_from k n right)
  unfolding off_from
  some_off k zero ne = absurd (ne refl)
  some_off k (suc n) ne = go (right k) refl (some_off (suc k) n)
    where
      go : (t : Bool) → right k ≡ t → (off_from (suc k) n right ≢ 0 → Off (suc k) n (off_from (suc k) n right)) → Off k (suc n) (off_from k (suc n) right)
      go true e f =
          let r = f (λ z. ne (rw e z)) in
          rw e (record { low = omega (arith, r.low); high = omega (arith, r.high); off = r.off; before = λ j lo hi. earlier j lo hi (ℕ_discrete j k) r })
        where
          earlier : (j : ℕ) → k ≤ j → j < off_from (suc k) n right - 1 → Dec (j ≡ k) → Off (suc k) n (off_from (suc k) n right) → right j ≡ true
          earlier j lo hi (yes z) r = rw z e
          earlier j lo hi (no m) r = r.before j (omega arith) hi
      go false e f = rw e (record { low = omega arith; high = omega arith; off = rw sub-one e; before = λ j lo hi. absurd (omega arith) })

  module _ (code n : ℕ) {A : ℕ → Type 0} (f : (k : ℕ) → right k ≡ true ↔ A k) where
    -- a row on each item passes exactly when each is right
    pub each_passes : (each code n right).given ≡ false ↔ Each n A
    each_passes = (
      λ e k h. (f k).0 (passes_true (right k) (passed_each right n e k h)),
      λ a. each_passed right n (λ k h. rw ((f k).1 (a k h)) tt),
    )

    -- the first item that is off is the first that is not right
    off_first : (Each n A → ⊥) → First n A (first_off n right)
    off_first some =
        let r = some_off 0 n (λ e. some (each_passes.0 (rw e))) in
        record {
          named = record { low = omega (arith, r.low); high = omega (arith, r.high) };
          off = λ a. true≢false (sym ((f _).1 a) ∙ r.off);
          before = λ k h. (f k).0 (r.before k (omega arith) h);
        }

-- a group of one row passes exactly when the row does
pub alone : {A B : Type 0} → A ↔ B → (A × Unit {0}) ↔ B
alone f = (λ p. f.0 p.0, λ b. (f.1 b, tt))

-- a group of two rows passes exactly when both do
pub two : {A B C D : Type 0} → A ↔ B → C ↔ D → (A × (C × Unit {0})) ↔ B × D
two f h = Iff.and f (alone h)

-- so does a group of four, two and two
pub four : {A B C D E F G H : Type 0} → A ↔ B → C ↔ D → E ↔ F → G ↔ H → (A × (C × (E × (G × Unit {0})))) ↔ (B × D) × (F × H)
four a b c d = (λ p. ((a.0 p.0, b.0 p.1.0), (c.0 p.1.1.0, d.0 p.1.1.1.0)), λ q. (a.1 q.0.0, (b.1 q.0.1, (c.1 q.1.0, (d.1 q.1.1, tt)))))

-- the group of the next code has that code and says what its rule says, and so do those after it
infixr 2 ◌then◌
pub ◌then◌ : {A B : Type 0} → A → B → (Unit {0} × A) × B
a then b = ((tt, a), b)

-- ---- places

-- one row on a whole names no place
pub no_place : (r : Row) → r.place ≡ 0 → (refusal (r ∷ [])).place ≡ 0
unfolding refusal
no_place r e = go r.given
  where
    go : (t : Bool) → (cond t (refused r.code r.place) none).place ≡ 0
    go true = e
    go false = refl

module _ (code n : ℕ) (right : ℕ → Bool) {A : ℕ → Type 0} (f : (k : ℕ) → right k ≡ true ↔ A k) where
  -- a row on each item names the first that is not right
  pub each-place : (Each n A → ⊥) → First n A (refusal (each code n right ∷ [])).place
  unfolding refusal
  each-place some = rw (go (ℕ_discrete (first_off n right) 0)) (off_first right code n f some)
    where
      go : Dec (first_off n right ≡ 0) → (refusal (each code n right ∷ [])).place ≡ first_off n right
      go (yes e) = rw e
      go (no ne) = rw (ne_eqb (first_off n right) 0 ne)

  -- a row on the whole list and one on each item: no place where the whole is wrong, else the first item that is not right
  pub list_place : (t : Bool) {Long : Type 0} → t ≡ true ↔ Long → (Long × Each n A → ⊥) → ListPlace Long n A (refusal (whole code t ∷ each code n right ∷ [])).place
  unfolding refusal
  list_place true l some = inr (l.0 refl, each-place (λ a. some (l.0 refl, a)))
  list_place false l some = inl (λ a. true≢false (sym (l.1 a)), refl)

-- two such lists of n items each, of which the second counts where the first is right
pub lists_place : (code n : ℕ) (right right' : ℕ → Bool) {A B : ℕ → Type 0} → ((k : ℕ) → right k ≡ true ↔ A k) → ((k : ℕ) → right' k ≡ true ↔ B k)
    → (t t' : Bool) {Long Long' : Type 0} → t ≡ true ↔ Long → t' ≡ true ↔ Long'
    → ((Long × Each n A) × (Long' × Each n B) → ⊥)
    → let place = (refusal (whole code t ∷ each code n right ∷ whole code t' ∷ each code n right' ∷ [])).place in
    ListPlace Long n A place ⊎ ((Long × Each n A) × ListPlace Long' n B place)
lists_place code n right right' {A} {B} f h t t' {Long} {Long'} l l' some =
    let first = whole code t ∷ each code n right ∷ [] in
    let second = whole code t' ∷ each code n right' ∷ [] in
    let passes = two (whole_passes code l) (each_passes right code n f) in
    first_or-others first (second ∷ []) (λ r. ListPlace Long n A r.place ⊎ ((Long × Each n A) × ListPlace Long' n B r.place))
    (λ off. inl (list_place code n right f t l (λ a. off (passes.1 a))))
    (λ p. let a = passes.0 p in inr (a, list_place code n right' h t' l' (λ b. some (a, b))))
