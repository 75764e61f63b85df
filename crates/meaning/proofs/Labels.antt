-- `labels` is right: the label of a region is the smallest region that it is joined to.
-- Assumes nothing.
use Rattle.std.specs.Prelude.{ℕ, ◌≤◌, min, max, ◌≡◌, refl, ◌≢◌, ◌⊎◌, ◌↔◌, true, length}
use Rattle.std.proofs.Common.{arith, sym, ap, ◌∙◌, subst₂, inl, inr, ⊎_elim, eqb-true, eq-eqb}
use Rattle.std.proofs.Math.Decide.{dec_le}
use mathlib.Core.List.{List, [], ◌∷◌}
use Rattle.std.proofs.lemmas.List.{length-map}
use Rattle.lists.specs.Sums.{In, at, up_to}
use Rattle.lists.specs.SumLaws.{length_from, at-up_to, at_map}
use Rattle.lists.specs.Tests.{by_eqb}
use Rattle.lists.specs.Places.{ext_at}
use Rattle.meaning.specs.Plan.{Edge, Plan, Limits}
use Rattle.meaning.specs.Joined.{Neighbours, Joined, itself, along, instead, merge, take_in, take_every, labels, in_component}
use Rattle.meaning.specs.Paths.{Ends, limits_ends, neighbours_in, neighbours_far, joined_trans, joined_sym, joined_in}

-- ls are the right labels
pub record Labelled (edges : List Edge) (col ls : List ℕ) : Type 0 where
  -- each region has a label
  pub size : length ls ≡ length col
  -- a region is joined to its label
  pub joined : (v : ℕ) → In (length col) v → Joined edges col v (at ls v)
  -- a region is joined to none smaller than its label
  pub least : (v u : ℕ) → In (length col) v → Joined edges col v u → at ls v ≤ u

-- u and w have one label, or an edge between them is still to be taken in
abbrev Settled : List Edge → List ℕ → ℕ → ℕ → Type 0
Settled rest ls u w = Neighbours rest u w ⊎ (at ls u ≡ at ls w)

-- what holds of the labels ls while the edges of rest are still to be taken in
record Stage (edges : List Edge) (col : List ℕ) (rest : List Edge) (ls : List ℕ) : Type 0 where
  -- each region has a label
  size : length ls ≡ length col
  -- no label is above its region
  high : (v : ℕ) → In (length col) v → at ls v ≤ v
  -- a region is joined to its label
  joined : (v : ℕ) → In (length col) v → Joined edges col v (at ls v)
  -- rest is a part of all edges
  known : (u w : ℕ) → Neighbours rest u w → Neighbours edges u w
  -- neighbours of one sector are settled
  settled : (u w : ℕ) → Neighbours edges u w → at col u ≡ at col w → Settled rest ls u w

-- what holds of two numbers either way round holds of the larger and the smaller
max-min : (P : ℕ → ℕ → Type 0) (x y : ℕ) → P x y → P y x → P (max x y) (min x y)
max-min P x y p q = go (dec_le x y)
  where
    go : Dec (x ≤ y) → P (max x y) (min x y)
    go (yes h) = subst₂ P (omega arith) (omega arith) q
    go (no h) = subst₂ P (omega arith) (omega arith) p

module _ {edges : List Edge} {col : List ℕ} (ends : Ends (length col) edges) where
  module _ {e : Edge} {es : List Edge} {ls : List ℕ} (s : Stage edges col (e ∷ es) ls) where
    -- two regions that e settles, or that were settled before, are settled after it
    settle : (ls' : List ℕ) → (at col e.a ≡ at col e.b → at ls' e.a ≡ at ls' e.b) → (u w : ℕ)
        → (at ls u ≡ at ls w → at ls' u ≡ at ls' w) → at col u ≡ at col w → Settled (e ∷ es) ls u w → Settled es ls' u w
    settle ls' m u w k q (inl (inl h)) = inr (rw (h.0, h.1) (m (rw (h.0, h.1) at q)))
    settle ls' m u w k q (inl (inr (inl h))) = inr (rw (h.0, h.1) (sym (m (sym (rw (h.0, h.1) at q)))))
    settle ls' m u w k q (inl (inr (inr h))) = inl h
    settle ls' m u w k q (inr h) = inr (k h)

    -- an edge whose ends share a sector is taken in
    merged : at col e.a ≡ at col e.b → Stage edges col es (merge (at ls e.a) (at ls e.b) ls)
    merged q =
        record {
          size = length-map ls _ ∙ s.size;
          high = λ v h. picked v h (λ (n : ℕ). n ≤ v) (λ t. omega (arith, s.high v h)) (λ t. s.high v h);
          joined = λ v h. picked v h (Joined edges col v) (λ t. joined_trans (rw t at (s.joined v h)) across) (λ t. s.joined v h);
          known = λ u w h. s.known u w (inr (inr h));
          settled = λ u w h t. settle ls' (λ _. met) u w (kept u w h) t (s.settled u w h t);
        }
      where
        x : ℕ
        x = at ls e.a

        y : ℕ
        y = at ls e.b

        large : ℕ
        large = max x y

        small : ℕ
        small = min x y

        ls' : List ℕ
        ls' = merge x y ls

        link : Neighbours edges e.a e.b
        link = s.known e.a e.b (inl (refl, refl))

        in_a : In (length col) e.a
        in_a = neighbours_in edges e.a e.b ends link

        in_b : In (length col) e.b
        in_b = neighbours_far edges e.a e.b ends link

        across : Joined edges col large small
        across =
            let j = joined_trans (joined_sym (s.joined e.a in_a)) (along link q (s.joined e.b in_b)) in
            max-min (Joined edges col) x y j (joined_sym j)

        new : (v : ℕ) → In (length col) v → at ls' v ≡ instead large small (at ls v)
        new v h = at_map (instead large small) ls v (rw s.size h)

        picked : (v : ℕ) → In (length col) v → (P : ℕ → Type 0) → (at ls v ≡ large → P small) → (at ls v ≢ large → P (at ls v)) → P (at ls' v)
        picked v h P f g = rw (new v h) (by_eqb (at ls v) large P small (at ls v) f g)

        met : at ls' e.a ≡ at ls' e.b
        met =
            picked e.a in_a (λ (n : ℕ). n ≡ small) (λ t. refl) (λ ne. omega arith)
            ∙ sym (picked e.b in_b (λ (n : ℕ). n ≡ small) (λ t. refl) (λ ne. omega arith))

        kept : (u w : ℕ) → Neighbours edges u w → at ls u ≡ at ls w → at ls' u ≡ at ls' w
        kept u w h t =
            new u (neighbours_in edges u w ends h)
            ∙ ap (instead large small) t
            ∙ sym (new w (neighbours_far edges u w ends h))

    -- one edge is taken in
    taken : Stage edges col es (take_in col e ls)
    unfolding take_in
    taken =
        by_eqb (at col e.a) (at col e.b) (Stage edges col es) (merge (at ls e.a) (at ls e.b) ls) ls
        merged
        (λ ne. record {
          size = s.size;
          high = s.high;
          joined = s.joined;
          known = λ u w h. s.known u w (inr (inr h));
          settled = λ u w h t. settle ls (λ z. absurd (ne z)) u w (λ z. z) t (s.settled u w h t);
        })

  -- every edge is taken in
  taken-all : (es : List Edge) {ls : List ℕ} → Stage edges col es ls → Stage edges col [] (take_every col es ls)
  unfolding take_every
  taken-all [] s = s
  taken-all (e ∷ es) s = taken-all es (taken s)

-- before any edge, each region is its own label
start : (edges : List Edge) (col : List ℕ) → Stage edges col edges (up_to (length col))
start edges col =
    record {
      size = length_from 1 (length col);
      high = λ v h. omega (arith, at-up_to (length col) v h);
      joined = λ v h. rw (at-up_to (length col) v h) itself;
      known = λ u w h. h;
      settled = λ u w h t. inl h;
    }

-- after every edge, joined regions have one label
one_label : {edges : List Edge} {col ls : List ℕ} → Stage edges col [] ls → {u w : ℕ} → Joined edges col u w → at ls u ≡ at ls w
one_label s itself = refl
one_label s (along n q p) = ⊎_elim absurd (λ h. h) (s.settled _ _ n q) ∙ one_label s p

-- a label is the smallest region joined to its own
pub labels_right : (edges : List Edge) (col : List ℕ) → Ends (length col) edges → Labelled edges col (labels edges col)
unfolding labels
labels_right edges col ends =
    let s = taken-all ends edges (start edges col) in
    record { size = s.size; joined = s.joined; least = λ v u h j. rw (one_label s j) (s.high u (joined_in ends j h)) }

-- the labels of a plan's colouring are right
pub plan_labels : {P : Plan} → Limits P → (col : List ℕ) → length col ≡ P.R → Labelled P.edges col (labels P.edges col)
plan_labels {P} l col size = labels_right P.edges col (rw size (limits_ends P l))

module _ {edges : List Edge} {col : List ℕ} where
  -- two regions have one label exactly when they are joined
  pub label_joined : {ls : List ℕ} → Labelled edges col ls → {u w : ℕ} → In (length col) u → In (length col) w → (at ls u ≡ at ls w) ↔ Joined edges col u w
  label_joined {ls} r {u} {w} hu hw = (
    λ q. joined_trans (r.joined u hu) (rw q (joined_sym (r.joined w hw))),
    λ j. omega (arith, r.least u (at ls w) hu (joined_trans j (r.joined w hw)), r.least w (at ls u) hw (joined_trans (joined_sym j) (r.joined u hu))),
  )

  -- there is one list of right labels
  pub labelled_unique : {a b : List ℕ} → Labelled edges col a → Labelled edges col b → a ≡ b
  labelled_unique {a} {b} r s =
      ext_at a b r.size s.size (λ u h. omega (arith, r.least u (at b u) h (s.joined u h), s.least u (at a u) h (r.joined u h)))

-- a component is a largest set of joined regions
pub component_joined : (edges : List Edge) (col : List ℕ) → Ends (length col) edges → {u w : ℕ} → In (length col) u → In (length col) w
    → (in_component (labels edges col) (at (labels edges col) u) w ≡ true) ↔ Joined edges col u w
component_joined edges col ends hu hw =
    let j = label_joined (labels_right edges col ends) hu hw in
    (λ t. j.0 (sym (eqb-true _ _ t)), λ t. eq-eqb _ _ (sym (j.1 t)))
