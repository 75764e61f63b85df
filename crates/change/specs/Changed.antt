-- What changes between two colourings, where only two sectors differ in components and workload: by a recolouring, or by two in turn.
-- Assumes nothing.
use Rattle.std.specs.Prelude.{ℕ, ◌+◌, ◌-◌, ◌*◌, ◌≤◌, ◌<◌, ◌^◌, ◌≡◌, ◌≢◌, List, true, eqb, set}
use Rattle.std.proofs.Common.{arith, ◌∙◌}
use Rattle.std.proofs.Math.Path.{ap}
use Rattle.lists.specs.Sums.{In, at}
use Rattle.lists.specs.Places.{table_change}
use Rattle.meaning.specs.Plan.{Plan, Limits, Coloured}
use Rattle.meaning.specs.Kinds.{ncc, load, border, counts, loads, leads_to}
use Rattle.meaning.specs.Moves.{recolour}
use Rattle.meaning.specs.Faces.{lift, area_to}
use Rattle.meaning.specs.Bounds.{most_border}
use Rattle.meaning.proofs.BoundLaws.{border_bound}
use Rattle.meaning.specs.Prices.{most_dwell_total, limited, timed, price, sector_price, prices, visitors_price, dwell_total}
use Rattle.meaning.proofs.PriceLaws.{dwell_recolour, dwell_total_bound, cost_bound}
use Rattle.meaning.proofs.Recoloured.{coloured-recolour, load_rest, ncc_rest, border-recolour}
use Rattle.judge.specs.Small.{edges_small, area_bound}
use Rattle.change.specs.declared.Pair.{Pair}
use Rattle.change.specs.declared.Sides.{Sides}
use Rattle.change.specs.declared.Swing.{Swing}
use Rattle.change.specs.declared.Change.{Change}
use Rattle.change.specs.Shift.{each, swing, together, in_turn}
use Rattle.change.specs.Small.{Swings, Summable, Addable}

-- the numbers of two sectors
abbrev pub pair_of : (ℕ → ℕ) → ℕ → ℕ → Pair
pair_of f own d = record { old = f own; new = f d }

-- the components and the workloads of two sectors in a colouring, and what they pay for the constraints of kind 4
abbrev pub sides_of : Plan → List ℕ → ℕ → ℕ → Sides
sides_of P col own d =
    record { components = pair_of (ncc P col) own d; workloads = pair_of (load P col) own d; prices = pair_of (sector_price P col) own d }

-- the prices of their workloads are what they pay
pub sides-prices : (P : Plan) (col : List ℕ) (own d : ℕ) {s : Sides} → s.components ≡ pair_of (ncc P col) own d → s.workloads ≡ pair_of (load P col) own d
    → s.prices ≡ each (price (limited P.constraints)) s.workloads → s ≡ sides_of P col own d
unfolding sector_price
sides-prices P col own d components workloads prices =
    rw (← components, ← workloads, ← (prices ∙ ap (each (price (limited P.constraints))) workloads))

-- a figure goes from x to x' by what it gains and loses, and gains no more than two recolourings can add, each of them B
pub record Swung (x x' B : ℕ) (s : Swing) : Type 0 where
  pub sum : x' + s.lost ≡ x + s.gained
  pub gained : s.gained ≤ 2 * B

module _ {x x' B : ℕ} {s : Swing} (w : Swung x x' B s) where
  -- the figure can follow
  pub swung_fits : x ≤ B → 3 * B < 2 ^ 64 → Swings x s
  swung_fits h room = record { low = omega (arith, w.sum); high = omega (arith, w.gained) }

  -- and then is x'
  pub swung_swing : swing x s ≡ x'
  swung_swing = omega (arith, w.sum)

-- the change is that from a colouring to another: of all sectors only two differ in components and workload
pub record Changed (P : Plan) (col col' : List ℕ) (own d : ℕ) (c : Change) : Type 0 where
  pub old : In P.S own
  pub new : In P.S d
  pub other : d ≢ own
  pub coloured : Coloured P col'
  pub before : c.before ≡ sides_of P col own d
  pub after : c.after ≡ sides_of P col' own d
  pub others : (e : ℕ) → In P.S e → e ≢ own → e ≢ d → (ncc P col' e ≡ ncc P col e) × (load P col' e ≡ load P col e)
  pub border : Swung (border P col) (border P col') most_border c.border
  pub dwell : Swung (dwell_total P col) (dwell_total P col') most_dwell_total c.dwell

-- the change gains no more than one recolouring can add
pub record Single (c : Change) : Type 0 where
  pub border : c.border.gained ≤ most_border
  pub dwell : c.dwell.gained ≤ most_dwell_total

module _ {P : Plan} {col col' : List ℕ} {own d : ℕ} {c : Change} (ch : Changed P col col' own d c) where
  -- the component counts afterwards: two of those before are set anew
  pub changed_counts : counts P col' ≡ set (set (counts P col) (own - 1) (ncc P col' own)) (d - 1) (ncc P col' d)
  unfolding counts
  changed_counts = table_change (ncc P col') (ncc P col) ch.old ch.new (λ e h n m. (ch.others e h n m).0)

  -- and so the workload sums
  pub changed_loads : loads P col' ≡ set (set (loads P col) (own - 1) (load P col' own)) (d - 1) (load P col' d)
  unfolding loads
  changed_loads = table_change (load P col') (load P col) ch.old ch.new (λ e h n m. (ch.others e h n m).1)

  -- and what the sectors pay
  pub changed_prices : prices P col' ≡ set (set (prices P col) (own - 1) (sector_price P col' own)) (d - 1) (sector_price P col' d)
  unfolding prices sector_price
  changed_prices =
      table_change (sector_price P col') (sector_price P col) ch.old ch.new
      (λ e h n m. ap (price (limited P.constraints)) (ch.others e h n m).1)

-- the faces of a region to a sector have no more area than a border may have
pub faces_bound : {P : Plan} → Limits P → (col : List ℕ) (v d : ℕ) → area_to P.edges col v d ≤ most_border
unfolding area_to
faces_bound {P} l col v d = omega (arith, area_bound (edges_small P l) (leads_to (λ u. eqb (at col u) d) v))

-- what the flights that visit a region cost, by all their stretches
abbrev pub cost_at : Plan → List ℕ → ℕ → ℕ
cost_at P col v = visitors_price (timed P.constraints) col true v P.flights

-- what they gain and lose once it is given to another sector
pub record Costs (P : Plan) (col : List ℕ) (v d : ℕ) (s : Swing) : Type 0 where
  pub sum : cost_at P (recolour col v d) v + s.lost ≡ cost_at P col v + s.gained
  pub gained : s.gained ≤ cost_at P (recolour col v d) v

-- a region given to another sector is a change, where the numbers are those of the two colourings, of the region's faces and of the flights that visit it
pub changed_recolour : {P : Plan} {col : List ℕ} {v d : ℕ} {c : Change} → Limits P → Coloured P col → In P.R v → In P.S d → d ≢ at col v
    → c.before ≡ sides_of P col (at col v) d → c.after ≡ sides_of P (recolour col v d) (at col v) d
    → c.border ≡ record { gained = area_to P.edges (lift col v) v (at col v); lost = area_to P.edges (lift col v) v d }
    → Costs P col v d c.dwell
    → Changed P col (recolour col v d) (at col v) d c
changed_recolour {P} {col} {v} {d} l k i j ne before after border dwell =
    record {
      old = k.sector v i;
      new = j;
      other = ne;
      coloured = coloured-recolour k i j;
      before = before;
      after = after;
      others = λ e h n m. (ncc_rest l k i j ne e h m n, load_rest k i j ne e h m n);
      border = rw border (record { sum = border-recolour l k i j; gained = omega (arith, faces_bound l (lift col v) v (at col v)) });
      dwell = record { sum = omega (arith, dwell.sum, dwell_recolour l i col d); gained = omega (arith, dwell.gained, cost_bound l (recolour col v d) true v) };
    }

module _ {x y z B : ℕ} {first second : Swing} (f : Swung x y B first) (s : Swung y z B second) where
  -- two swings in turn, of one recolouring each, can be added up
  swung_summable : first.gained ≤ B → second.gained ≤ B → x ≤ B → y ≤ B → 4 * B < 2 ^ 64 → Summable first second
  swung_summable g h p q room = record { gained = omega arith; lost = omega (arith, f.sum, s.sum) }

  -- and are one
  swung_in_turn : first.gained ≤ B → second.gained ≤ B → Swung x z B (together first second)
  swung_in_turn g h = record { sum = omega (arith, f.sum, s.sum); gained = omega arith }

module _ {P : Plan} {col mid col' : List ℕ} {own d : ℕ} {first second : Change} (f : Changed P col mid own d first) (s : Changed P mid col' d own second) (a : Single first) (b : Single second) where
  -- what two changes gain and lose can be added up
  pub changed_addable : Limits P → Addable first second
  changed_addable l =
      record {
        border = swung_summable f.border s.border a.border b.border (border_bound P l col) (border_bound P l mid) (omega arith);
        dwell = swung_summable f.dwell s.dwell a.dwell b.dwell (dwell_total_bound l col) (dwell_total_bound l mid) (omega arith);
      }

  -- two changes in turn, of which the second has the sectors the other way round, are one
  pub changed_in_turn : Changed P col col' own d (in_turn first second)
  changed_in_turn =
      record {
        old = f.old;
        new = f.new;
        other = f.other;
        coloured = s.coloured;
        before = f.before;
        after = rw s.after;
        others = λ e h n m. ((s.others e h m n).0 ∙ (f.others e h n m).0, (s.others e h m n).1 ∙ (f.others e h n m).1);
        border = swung_in_turn f.border s.border a.border b.border;
        dwell = swung_in_turn f.dwell s.dwell a.dwell b.dwell;
      }
