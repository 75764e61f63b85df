-- The lowest-numbered neighbour whose sector survived is found along the edges, whatever their order.
-- Assumes nothing.
use Rattle.std.specs.Prelude.{ℕ, ◌-◌, ◌/◌, ◌≤◌, ◌<◌, min, ◌≡◌, refl, ◌⊎◌, Option, None, Some, Bool, true, false, cond, not, ◌&&◌, ◌||◌, List, [], ◌∷◌, eqb, length}
use Rattle.std.proofs.Common.{le_refl, arith, sym, ap, ◌∙◌, inl, inr, ⊎_elim, eqb-true, eq-eqb, ne_eqb}
use Rattle.std.proofs.Math.Nat.{min-eq_left, min-eq_right}
use Rattle.std.proofs.Math.Decide.{dec_le}
use Rattle.std.proofs.Math.Bool.{and-eq-true_iff, and-or_distrib_right, or_assoc}
use Rattle.std.proofs.lemmas.Bool.{false≢true, eqb-false, not-true}
use mathlib.Mathlib.Data.Bool.Basic.{or_inl, or_inr}
use Rattle.terms.specs.declared.Region.{Region}
use Rattle.lists.specs.Sums.{In}
use Rattle.lists.specs.Tests.{or_cases}
use Rattle.meaning.specs.Plan.{Edge, edge_length, edges_of}
use Rattle.meaning.specs.Kinds.{leads_to}
use Rattle.meaning.specs.Paths.{Ends}
use Rattle.neighbours.specs.Edges.{edges_from, edge_before, edges_from_end, Taken, taken_none, taken_more, taken_edge}
use Rattle.mending.specs.Mended.{is_lost, joins, beside_kept, lowest_beside}
use Rattle.mending.specs.Lowest.{Lowest, lowest_unique, lowest_beside_lem}

-- the lower of two regions' numbers, 0 being no region
unfoldable pub lower : ℕ → ℕ → ℕ
lower a b = cond (eqb a 0) b (cond (eqb b 0) a (min a b))

-- region `there`, where `here` is region v and the sector of `there` survived; else 0
unfoldable pub beyond : List ℕ → ℕ → ℕ → ℕ → ℕ
beyond col v here there = cond (eqb here v && not (is_lost col there)) there 0

-- the lowest along the edges
unfoldable pub lowest_in : List Edge → List ℕ → ℕ → ℕ
lowest_in [] col v = 0
lowest_in (e ∷ es) col v = lower (beyond col v e.a e.b) (lower (beyond col v e.b e.a) (lowest_in es col v))

-- a region by its number, 0 being no region
abbrev pub any_region : ℕ → Option Region
any_region n = cond (eqb n 0) None (Some (record { 0 = n }))

module _ (n : ℕ) where
  -- where it is no region, the number is 0
  pub any_none : None ≡ any_region n → n ≡ 0
  any_none h = go (eqb n 0) refl h
    where
      go : (b : Bool) → eqb n 0 ≡ b → ◌≡◌ {A = Option Region} None (cond b None (Some (record { 0 = n }))) → n ≡ 0
      go true e h = eqb-true n 0 e
      go false e h = absurd (cc)

  -- else it is the region's
  pub any_some : {r : Region} → Some r ≡ any_region n → (r.0 ≡ n) × (r.0 ≡ 0 → ⊥)
  any_some {r} h = go (eqb n 0) refl h
    where
      go : (b : Bool) → eqb n 0 ≡ b → ◌≡◌ {A = Option Region} (Some r) (cond b None (Some (record { 0 = n }))) → (r.0 ≡ n) × (r.0 ≡ 0 → ⊥)
      go true e h = absurd (cc)
      go false e h = let same : r.0 ≡ n = ap (λ (x : Region). x.0) (cc) in (same, λ z. eqb-false n 0 e (sym same ∙ z))

-- the lower of two regions, if any
abbrev pub lower_region : Option Region → Option Region → Option Region
lower_region (Some a) (Some b) = Some (record { 0 = min a.0 b.0 })
lower_region (Some a) None = Some a
lower_region None b = b

-- by their numbers it is the same
lower_region_lem : (a b : ℕ) → lower_region (any_region a) (any_region b) ≡ any_region (lower a b)
unfolding lower
lower_region_lem a b = go (eqb a 0) (eqb b 0) refl refl
  where
    some : (n : ℕ) → (n ≡ 0 → ⊥) → any_region n ≡ Some (record { 0 = n })
    some n h = rw (ne_eqb n 0 h)

    go : (x y : Bool) → eqb a 0 ≡ x → eqb b 0 ≡ y → lower_region (cond x None (Some (record { 0 = a }))) (cond y None (Some (record { 0 = b }))) ≡ any_region (cond x b (cond y a (min a b)))
    go true true e f = rw f
    go true false e f = rw f
    go false true e f = rw e
    go false false e f = sym (some (min a b) (λ z. omega (arith, eqb-false a 0 e, eqb-false b 0 f)))

-- ---- it is the lowest that passes the test

-- tests that agree have the same lowest
lowest_same : {s t : ℕ → Bool} {w : ℕ} → ((u : ℕ) → s u ≡ t u) → Lowest s w → Lowest t w
lowest_same h p = record { passes = λ z. sym (h _) ∙ p.passes z; least = λ u low e. p.least u low (h u ∙ e) }

-- the lower of the lowest that pass two tests is the lowest that passes either
lowest_either : {s t : ℕ → Bool} {a b : ℕ} → Lowest s a → Lowest t b → Lowest (λ u. s u || t u) (lower a b)
unfolding lower
lowest_either {s} {t} {a} {b} p q = go (eqb a 0) (eqb b 0) refl refl
  where
    picked : (w : ℕ) → (w ≡ a) ⊎ (w ≡ b) → (1 ≤ a → In a w) → (1 ≤ b → In b w) → Lowest (λ u. s u || t u) w
    picked w one f g =
        record {
          passes =
              λ z. ⊎_elim (λ e. or_inl (s w) (t w) (ap s e ∙ p.passes (λ x. z (e ∙ x)))) (λ e. or_inr (s w) (t w) (ap t e ∙ q.passes (λ x. z (e ∙ x)))) one;
          least =
              λ u low h.
              ⊎_elim (λ k. let i = p.least u low k in let j = f i.low in record { low = j.low; high = omega arith })
              (λ k. let i = q.least u low k in let j = g i.low in record { low = j.low; high = omega arith })
              (or_cases (s u) (t u) h);
        }

    smaller : Dec (a ≤ b) → (min a b ≡ a) ⊎ (min a b ≡ b)
    smaller (yes h) = inl (min-eq_left h)
    smaller (no h) = inr (min-eq_right (omega arith))

    go : (x y : Bool) → eqb a 0 ≡ x → eqb b 0 ≡ y → Lowest (λ u. s u || t u) (cond x b (cond y a (min a b)))
    go true y e f = let z = eqb-true a 0 e in picked b (inr refl) (λ h. absurd (omega arith)) (λ h. record { low = h; high = le_refl b })
    go false true e f = let z = eqb-true b 0 f in picked a (inl refl) (λ h. record { low = h; high = le_refl a }) (λ h. absurd (omega arith))
    go false false e f =
        let m = eqb-false a 0 e in
        let n = eqb-false b 0 f in
        picked (min a b) (smaller (dec_le a b)) (λ h. record { low = omega arith; high = omega arith }) (λ h. record { low = omega arith; high = omega arith })

-- none, where no number passes
lowest_none : {test : ℕ → Bool} → ((u : ℕ) → test u ≡ true → ⊥) → Lowest test 0
lowest_none h = record { passes = λ z. absurd (z refl); least = λ u low t. absurd (h u t) }

-- what lies beyond one end of an edge
lowest_beyond : (col : List ℕ) (v here there : ℕ) → Lowest (λ u. (eqb here v && eqb u there) && not (is_lost col u)) (beyond col v here there)
unfolding beyond
lowest_beyond col v here there = go (eqb here v) (is_lost col there) refl
  where
    is : (u : ℕ) → eqb u there && not (is_lost col u) ≡ true → (u ≡ there) × (is_lost col u ≡ false)
    is u t = let q = (and-eq-true_iff (eqb u there) (not (is_lost col u))).0 t in (eqb-true u there q.0, not-true (is_lost col u) q.1)

    go : (h l : Bool) → is_lost col there ≡ l → Lowest (λ u. (h && eqb u there) && not (is_lost col u)) (cond (h && not l) there 0)
    go false l e = lowest_none (λ u t. false≢true t)
    go true true e = lowest_none (λ u t. let q = is u t in false≢true (sym q.1 ∙ ap (is_lost col) q.0 ∙ e))
    go true false e =
        record {
          passes = λ z. (and-eq-true_iff (eqb there there) (not (is_lost col there))).1 (eq-eqb there there refl, rw e);
          least = λ u low t. let q = (is u t).0 in record { low = omega arith; high = omega arith };
        }

-- what goes along the edges finds the lowest neighbour whose sector survived
lowest_in_lem : (edges : List Edge) (col : List ℕ) (v : ℕ) → Lowest (beside_kept edges col v) (lowest_in edges col v)
unfolding lowest_in joins leads_to
lowest_in_lem [] col v = lowest_none (λ u t. false≢true t)
lowest_in_lem (e ∷ es) col v =
    lowest_same (λ u. spread (eqb e.a v && eqb u e.b) (eqb e.b v && eqb u e.a) (joins es v u) (not (is_lost col u)))
    (lowest_either (lowest_beyond col v e.a e.b) (lowest_either (lowest_beyond col v e.b e.a) (lowest_in_lem es col v)))
  where
    spread : (a b c k : Bool) → (a && k) || ((b && k) || (c && k)) ≡ ((a || b) || c) && k
    spread a b c k = rw (and-or_distrib_right (a || b) c k, and-or_distrib_right a b k, or_assoc)

-- and that is the one by its definition
pub lowest_found : (edges : List Edge) (col : List ℕ) (v : ℕ) → lowest_in edges col v ≡ lowest_beside edges col v
lowest_found edges col v = lowest_unique (lowest_in_lem edges col v) (lowest_beside_lem edges col v)

-- ---- by a loop

-- the edges from index k on are gone through, and w is the lowest along them
pub record Sought (xs col : List ℕ) (v k : ℕ) (w : Option Region) : Type 0 where
  pub taken : Taken (length col) xs k
  pub found : w ≡ any_region (lowest_in (edges_from xs k) col v)

-- at first none is
pub sought_none : {xs col : List ℕ} (v : ℕ) → Ends (length col) (edges_of xs) → Sought xs col v (length xs / edge_length) None
unfolding lowest_in
sought_none {xs} v i = record { taken = taken_none xs i; found = rw (edges_from_end xs) }

module _ {xs col : List ℕ} {v k : ℕ} {w : Option Region} (s : Sought xs col v k w) where
  -- then the edge before them is, first from its end b to its end a, then from a to b
  pub sought_more : {x y w₁ w₂ : Option Region} → 0 < k → x ≡ any_region (beyond col v (edge_before xs k).b (edge_before xs k).a) → w₁ ≡ lower_region x w
      → y ≡ any_region (beyond col v (edge_before xs k).a (edge_before xs k).b) → w₂ ≡ lower_region y w₁ → Sought xs col v (k - 1) w₂
  unfolding lowest_in
  sought_more low p e q f =
      record {
        taken = taken_more s.taken low;
        found = rw (f, q, e, p, s.found, taken_edge s.taken low, lower_region_lem (beyond col v (edge_before xs k).b (edge_before xs k).a) (lowest_in (edges_from xs k) col v), lower_region_lem);
      }

  -- and in the end all are
  pub sought_all : k ≡ 0 → w ≡ any_region (lowest_beside (edges_of xs) col v)
  sought_all e = s.found ∙ rw e (ap any_region (lowest_found (edges_of xs) col v))
