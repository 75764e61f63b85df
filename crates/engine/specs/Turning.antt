-- What giving a region to another sector changes: the numbers of two sectors, by those before and by a look at the region.
-- Assumes nothing.
use Rattle.std.specs.Prelude.{ℕ, ◌+◌, ◌-◌, ◌≤◌, ◌<◌, ◌^◌, ◌≡◌, refl, List, ◌≢◌, true, length}
use Rattle.std.proofs.Common.{arith, sym, ◌∙◌}
use Rattle.lists.specs.Sums.{In, at}
use Rattle.meaning.specs.Plan.{Constraint, Plan, Limits, Coloured, flights_of, constraints_of}
use Rattle.meaning.specs.Joined.{labels}
use Rattle.meaning.specs.Kinds.{ncc, load}
use Rattle.meaning.specs.Moves.{recolour, differing, relabelled}
use Rattle.meaning.specs.Faces.{lift}
use Rattle.meaning.specs.Bounds.{most_load}
use Rattle.meaning.proofs.BoundLaws.{ncc_bound, load_bound}
use Rattle.meaning.specs.Prices.{limited, price, prices}
use Rattle.meaning.proofs.PriceLaws.{cost_bound}
use Rattle.meaning.proofs.Recoloured.{load_come, load_go, ncc_come, ncc_go}
use Rattle.kinds.specs.Constraints.{Paying}
use Rattle.neighbours.specs.Table.{Table}
use Rattle.neighbours.specs.Net.{table_net}
use Rattle.search.specs.declared.Look.{Look}
use Rattle.search.specs.Looking.{Looking, Looked}
use Rattle.search.specs.Remembered.{Remembered}
use Rattle.visitors.specs.Visitors.{Pricing}
use Rattle.visitors.specs.AlongBoth.{VisitorsDiffer}
use Rattle.change.specs.declared.Pair.{Pair}
use Rattle.change.specs.declared.Sides.{Sides}
use Rattle.change.specs.declared.Swing.{Swing}
use Rattle.change.specs.declared.Change.{Change}
use Rattle.change.specs.Changed.{sides_of, sides-prices, Changed, Single, faces_bound, Costs, changed_recolour}
use Rattle.relabel.specs.Recolouring.{Recolourable}
use Rattle.engine.specs.declared.Standing.{Standing}
use Rattle.engine.specs.declared.turn.Turned.{Turned}
use Rattle.engine.specs.State.{Setting, Ready}
use Rattle.engine.specs.Flown.{Flown, priced_costs, flown_pricing}
use Rattle.engine.specs.Sorted.{sorted_paying}
use Rattle.engine.specs.Memory.{Placed, plan_placed, sides_in, Kept, kept-sides}

-- the numbers that change do not fall below 0 and do not get too large
pub record Movable (before : Sides) (workload : ℕ) (look : Look) : Type 0 where
  pub pieces : 1 ≤ before.components.old + look.pieces
  pub room : before.components.old + look.pieces < 2 ^ 64
  pub touching : look.met.touching ≤ before.components.new + 1
  pub few : before.components.new + 1 < 2 ^ 64
  pub leaves : workload ≤ before.workloads.old
  pub comes : before.workloads.new + workload < 2 ^ 64

-- a workload can go from the one sector to the other, and what they have then can be paid for
pub record Passing (workloads : Pair) (workload : ℕ) : Type 0 where
  pub leaves : workload ≤ workloads.old
  pub old : workloads.old - workload ≤ most_load
  pub new : workloads.new + workload ≤ most_load

-- what the two sectors pay once it has gone
abbrev pub paid_by : List Constraint → Pair → ℕ → Pair
paid_by ks workloads workload = record { old = price ks (workloads.old - workload); new = price ks (workloads.new + workload) }

-- the change, by what the two sectors have before, the region's workload, what they pay after, a look at the region, and what the flights that visit it cost
abbrev pub change_of : Sides → ℕ → Pair → Look → Swing → Change
change_of before workload prices look dwell =
    record {
      before = before;
      after = record {
        components = record { old = before.components.old + look.pieces - 1; new = before.components.new + 1 - look.met.touching };
        workloads = record { old = before.workloads.old - workload; new = before.workloads.new + workload };
        prices = prices;
      };
      border = record { gained = look.met.here; lost = look.met.there };
      dwell = dwell;
    }

-- what regions are recoloured on: a plan within its limits, a colouring, the table of the neighbours and areas, and room in the queue
pub record Ground (P : Plan) (start near areas col q : List ℕ) : Type 0 where
  pub limits : Limits P
  pub coloured : Coloured P col
  pub table : Table P.R P.edges start near areas
  pub queue : P.R < length q

-- what a recolouring to another sector finds
pub record Turning (P : Plan) (start near areas col q : List ℕ) (v d : ℕ) : Type 0 where
  pub basis : Ground P start near areas col q
  pub region : In P.R v
  pub sector : In P.S d
  pub other : d ≢ at col v

-- the change is that of giving region v to sector d
pub record Turns (P : Plan) (col : List ℕ) (v d : ℕ) (c : Change) : Type 0 where
  pub changed : Changed P col (recolour col v d) (at col v) d c
  pub single : Single c

-- the colouring and the labels are those after a change, of which it is known how many labels are new
pub record Followed (P : Plan) (col after : List ℕ) (own d : ℕ) (col' ls' : List ℕ) (t : Turned) : Type 0 where
  pub colouring : col' ≡ after
  pub labelled : ls' ≡ labels P.edges after
  pub changed : Changed P col after own d t.change
  pub relabelled : t.relabelled ≡ relabelled P col after

-- every move finds it
pub ready_ground : {P : Plan} {W : ℕ} {start near areas q col w ps : List ℕ} {s : Standing} → Setting P W start near areas q → Ready P col w ps s → Ground P start near areas col q
ready_ground k r = record { limits = k.limits; coloured = r.coloured; table = k.table; queue = k.queue }

-- where a region is given to another sector, that is the change
pub followed_turns : {P : Plan} {col : List ℕ} {v d : ℕ} {col' ls' : List ℕ} {t : Turned} → Followed P col (recolour col v d) (at col v) d col' ls' t → Single t.change → Turns P col v d t.change
followed_turns f s = record { changed = f.changed; single = s }

module _ {P : Plan} {start near areas col q : List ℕ} {v d : ℕ} (t : Turning P start near areas col q v d) where
  -- the plan's limits
  abbrev limits : Limits P
  limits = t.basis.limits

  -- each region has a sector
  abbrev coloured : Coloured P col
  coloured = t.basis.coloured

  -- so has v
  own : In P.S (at col v)
  own = coloured.sector v t.region

  module _ {w ps : List ℕ} (k : Kept P col w) (paid : ps ≡ prices P col) where
    -- the two sectors have their numbers in the work memory, and their prices beside it
    pub turning_placed : Placed w ps P.R P.S (at col v) d
    turning_placed = plan_placed P col k.room paid own t.sector

    -- which are those of the colouring
    pub turning_sides : {before : Sides} → before ≡ sides_in w ps P.R P.S (at col v) d → before ≡ sides_of P col (at col v) d
    turning_sides b = b ∙ kept-sides k own t.sector paid

  -- R is read off the array of neighbours
  size : length start - 1 ≡ P.R
  size = omega (arith, t.basis.table.size)

  -- a look can be taken
  pub turning_looking : Looking (length start - 1) P.edges start near areas col q v d
  turning_looking =
      rw size
      (record {
        table = t.basis.table;
        few = limits.edges;
        limits = limits.edge;
        size = coloured.size;
        sectors = λ u i. omega (arith, coloured.sector u i, limits.S);
        room = t.basis.queue;
        region = t.region;
        sector = omega (arith, t.sector, limits.S);
      })

  module _ {clock : ℕ} {m : List ℕ} where
    -- the pieces that are remembered are so by that number of regions
    pub turning_remembered : Remembered P.R P.S P.edges col clock m → Remembered (length start - 1) P.S P.edges col clock m
    turning_remembered r = rw size r

    -- and those that the look leaves are so of the plan
    pub turning_remembers : Remembered (length start - 1) P.S P.edges col clock m → Remembered P.R P.S P.edges col clock m
    turning_remembers r = rw size at r

  module _ {col' q' ls : List ℕ} (same : col' ≡ col) (long : length q' ≡ length q) (labelled : ls ≡ labels P.edges col) where
    -- the labels can follow
    pub turning_labels : Recolourable (length start - 1) P.edges start near col' ls q' v d
    turning_labels =
        rw (size, same)
        (record {
          net = table_net t.basis.table;
          ready = record { size = coloured.size; room = rw long t.basis.queue; plain = λ u i. omega (arith, coloured.sector u i, limits.S) };
          sectors = λ u i. (coloured.sector u i).low;
          labelled = labelled;
          region = t.region;
          low = t.sector.low;
          high = omega (arith, t.sector, limits.S);
          other = t.other;
        })

  module _ {timed counts visits visited flights firsts : List ℕ} (f : Flown P timed counts visits visited flights firsts) {col' : List ℕ} (same : col' ≡ col) where
    -- the flights that visit v can be priced
    pub turning_pricing : Pricing (length col') timed counts visits visited flights firsts × In (length col') v
    turning_pricing = rw same (flown_pricing coloured f, rw coloured.size t.region)

    -- and what they gain and lose is that of the plan
    pub turning_costs : {s : Swing} → VisitorsDiffer (constraints_of timed) col' v d (flights_of counts visits) (record { before = s.lost; after = s.gained }) → Costs P col v d s
    turning_costs e = priced_costs f.priced col v d (rw same at e)

  -- the workload of the old sector
  leaves : load P col (at col v) - at P.workloads v ≡ load P (recolour col v d) (at col v)
  leaves = omega (arith, load_go coloured t.region t.sector t.other)

  -- and of the new
  comes : load P col d + at P.workloads v ≡ load P (recolour col v d) d
  comes = sym (load_come coloured t.region t.sector t.other)

  -- what the two sectors have after it can be paid for
  pub turning_paying : {before : Sides} {li : List ℕ} → before ≡ sides_of P col (at col v) d → constraints_of li ≡ limited P.constraints → Paying li × Passing before.workloads (at P.workloads v)
  turning_paying b sorted = (
    sorted_paying limits 4 4 sorted,
    rw b
        (record {
          leaves = omega (arith, load_go coloured t.region t.sector t.other);
          old = rw leaves (load_bound P limits (recolour col v d) (at col v));
          new = rw comes (load_bound P limits (recolour col v d) d);
        }),
  )

  module _ {before : Sides} (b : before ≡ sides_of P col (at col v) d) {look : Look} (k : Looked P.edges col v d look) where
    -- the components of the old sector
    go : ncc P (recolour col v d) (at col v) + 1 ≡ ncc P col (at col v) + look.pieces
    go = rw k.pieces (ncc_go limits coloured t.region t.sector t.other)

    -- and of the new
    come : ncc P (recolour col v d) d + look.met.touching ≡ ncc P col d + 1
    come = rw k.met.touching (ncc_come limits coloured t.region t.sector t.other)

    -- the numbers can be changed
    pub turning_movable : Movable before (at P.workloads v) look
    turning_movable =
        rw b
        (record {
          pieces = omega (arith, go);
          room = omega (arith, go, ncc_bound P limits (recolour col v d) (at col v));
          touching = omega (arith, come);
          few = omega (arith, ncc_bound P limits col d);
          leaves = omega (arith, load_go coloured t.region t.sector t.other);
          comes = omega (arith, load_come coloured t.region t.sector t.other, load_bound P limits (recolour col v d) d);
        })

    -- and then they are those of the new colouring
    pub turning_turns : {ks : List Constraint} {prices : Pair} {dwell : Swing} {c : Change} → ks ≡ limited P.constraints → prices ≡ paid_by ks before.workloads (at P.workloads v)
        → Costs P col v d dwell → c ≡ change_of before (at P.workloads v) prices look dwell → Turns P col v d c
    turning_turns sorted p f e =
        rw (e, p, sorted, b)
        (record {
          changed = changed_recolour limits coloured t.region t.sector t.other refl (sides-prices P (recolour col v d) (at col v) d (rw (old, new)) (rw (leaves, comes)) refl) (rw (k.met.here, k.met.there)) f;
          single = record { border = rw k.met.here (faces_bound limits (lift col v) v (at col v)); dwell = omega (arith, f.gained, cost_bound limits (recolour col v d) true v) };
        })
      where
        old : ncc P col (at col v) + look.pieces - 1 ≡ ncc P (recolour col v d) (at col v)
        old = omega (arith, go)

        new : ncc P col d + 1 - look.met.touching ≡ ncc P (recolour col v d) d
        new = omega (arith, come)

  -- the colouring and the labels have followed
  pub turning_followed : {col₁ ls col₂ ls₂ : List ℕ} {c : Change} {n : ℕ} → col₁ ≡ col → ls ≡ labels P.edges col → col₂ ≡ recolour col₁ v d → ls₂ ≡ labels P.edges (recolour col₁ v d)
      → n ≡ differing (length start - 1) ls ls₂ → Turns P col v d c → Followed P col (recolour col v d) (at col v) d col₂ ls₂ (record { change = c; relabelled = n })
  unfolding relabelled
  turning_followed same labelled new labelled₂ number turns =
      let after = rw same at labelled₂ in
      record {
        colouring = rw same at new;
        labelled = after;
        changed = turns.changed;
        relabelled = rw (← size, ← labelled, ← after) number;
      }
