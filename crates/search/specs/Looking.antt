-- A look at giving region v to sector d: what it starts from and what it finds.
-- Assumes nothing.
use Rattle.std.specs.Prelude.{ℕ, ◌-◌, ◌≤◌, ◌<◌, ◌≡◌, List, length}
use Rattle.std.proofs.Common.{arith, ap, ◌∙◌, length-set, set-set}
use Rattle.lists.specs.Sums.{In, at, Every}
use Rattle.lists.specs.Places.{by_set}
use Rattle.meaning.specs.Plan.{Edge, EdgeLimits, most_sectors, most_edges}
use Rattle.meaning.specs.Moves.{recolour}
use Rattle.meaning.proofs.MoveLaws.{recolour-own}
use Rattle.meaning.specs.Faces.{lift, beside, pieces, area_to}
use Rattle.neighbours.specs.Table.{Table}
use Rattle.neighbours.specs.Net.{Net, table_net}
use Rattle.search.specs.declared.Met.{Met}
use Rattle.search.specs.declared.Look.{Look}
use Rattle.search.specs.Marks.{mark}
use Rattle.search.specs.Flood.{Ready}
use Rattle.search.specs.Counting.{Counting}
use Rattle.search.specs.FaceAreas.{area_lift}
use Rattle.search.specs.Same.{Comparable}
use Rattle.search.specs.Weighing.{Weighable}

-- what a count of the pieces of v's component starts from: the array of neighbours, a colouring without marks, room in the queue, and a region
pub record Lifting (R : ℕ) (edges : List Edge) (start nb col queue : List ℕ) (v : ℕ) : Type 0 where
  pub net : Net R edges start nb
  pub ready : Ready R col queue
  pub region : In R v

-- what a look starts from: the table of the neighbours and areas, edges within their limits, a colouring, room in the queue for one more than all regions, a region and a sector
pub record Looking (R : ℕ) (edges : List Edge) (start nb ar col queue : List ℕ) (v d : ℕ) : Type 0 where
  pub table : Table R edges start nb ar
  pub few : length edges ≤ most_edges
  pub limits : Every (EdgeLimits R) edges
  pub size : length col ≡ R
  pub sectors : (u : ℕ) → In R u → at col u ≤ most_sectors
  pub room : R < length queue
  pub region : In R v
  pub sector : d ≤ most_sectors

-- what v meets: the components of sector d that share a face with it, and the areas of its edges to its own sector and to d
pub record Meets (edges : List Edge) (col : List ℕ) (v d : ℕ) (r : Met) : Type 0 where
  pub touching : r.touching ≡ beside edges col v d
  pub here : r.here ≡ area_to edges (lift col v) v (at col v)
  pub there : r.there ≡ area_to edges (lift col v) v d

-- what a look finds: the pieces that v's component falls into without v, and what v meets
pub record Looked (edges : List Edge) (col : List ℕ) (v d : ℕ) (r : Look) : Type 0 where
  pub pieces : r.pieces ≡ pieces edges col v
  pub met : Meets edges col v d r.met

-- what v meets, and the pieces of its component in the same colouring, are what a look finds
pub looked_both : {edges : List Edge} {col col' : List ℕ} {v d left : ℕ} {met : Met} → col' ≡ col → Meets edges col v d met → left ≡ pieces edges col' v → Looked edges col v d (record { pieces = left; met = met })
looked_both same m p = record { pieces = rw same at p; met = m }

module _ {R : ℕ} {edges : List Edge} {start nb col queue : List ℕ} {v : ℕ} (k : Lifting R edges start nb col queue v) where
  -- with v lifted out, the components of its sector may be counted
  pub lifting_counting : Counting R edges start nb (lift col v) queue v (at col v)
  lifting_counting =
      record {
        net = k.net;
        ready = record { size = length-set col (v - 1) 0 ∙ k.ready.size; room = k.ready.room; plain = λ w i. by_set (λ (x : ℕ). x < mark) col (v - 1) (w - 1) 0 (omega arith) (k.ready.plain w i) };
        region = k.region;
        sector = k.ready.plain v k.region;
      }

  module _ {col' : List ℕ} (lifted : col' ≡ lift col v) where
    -- there are as many regions then
    pub lifting_size : length col' ≡ R
    lifting_size = ap length lifted ∙ length-set col (v - 1) 0 ∙ k.ready.size

    -- and v is put back
    pub lifting_back : recolour col' v (at col v) ≡ col
    lifting_back = rw lifted (set-set col (v - 1) 0 (at col v) ∙ recolour-own col v)

module _ {R : ℕ} {edges : List Edge} {start nb ar col queue : List ℕ} {v d : ℕ} (k : Looking R edges start nb ar col queue v d) where
  -- the components of sector d may be counted
  pub looking_counting : Counting R edges start nb col queue v d
  looking_counting =
      record {
        net = table_net k.table;
        ready = record { size = k.size; room = k.room; plain = λ w i. omega (arith, k.sectors w i) };
        region = k.region;
        sector = omega (arith, k.sector);
      }

  module _ {col' : List ℕ} (same : col' ≡ col) where
    -- the pieces of v's component may be counted
    pub looking_lifting : {queue' : List ℕ} → length queue' ≡ length queue → Lifting R edges start nb col' queue' v
    looking_lifting kept =
        record {
          net = table_net k.table;
          ready = record { size = ap length same ∙ k.size; room = rw kept k.room; plain = λ w i. rw same (omega (arith, k.sectors w i)) };
          region = k.region;
        }

    -- the areas of v's edges may be added up
    pub looking_weighable : Weighable R edges start nb ar col' v
    looking_weighable = record { table = k.table; few = k.few; limits = k.limits; size = ap length same ∙ k.size; region = k.region }

    -- and its neighbours' sectors compared with its own and with d
    pub looking_comparable : Comparable R col' (at col v) d
    looking_comparable = record { shown = λ u i. rw same (k.sectors u i); one = k.sectors v k.region; other = k.sector }

    -- what is counted and added up is what v meets
    pub looking_meets : {joined here there : ℕ} → joined ≡ beside edges col v d → (here ≡ area_to edges col' v (at col v)) × (there ≡ area_to edges col' v d)
        → Meets edges col v d (record { touching = joined; here = here; there = there })
    looking_meets t a =
        record {
          touching = t;
          here = rw same at a.0 ∙ rw (area_lift edges k.region k.limits col (at col v));
          there = rw same at a.1 ∙ rw (area_lift edges k.region k.limits col d);
        }
