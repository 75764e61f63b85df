-- The labels of a colouring from scratch: each region that has no label yet has its component labelled.
-- Assumes nothing.
use Rattle.std.specs.Prelude.{ℕ, ◌+◌, ◌-◌, ◌≤◌, ◌<◌, ◌≡◌, refl, List, ◌≢◌, ◌⊎◌, length, replicate}
use Rattle.std.proofs.Common.{arith, ap, ◌∙◌, inl, inr, ⊎_elim}
use Rattle.std.proofs.lemmas.List.{length-replicate, get_or-replicate}
use Rattle.lists.specs.Sums.{In, at}
use Rattle.lists.specs.Places.{ext_at}
use Rattle.meaning.specs.Plan.{Edge}
use Rattle.meaning.specs.Joined.{itself, labels}
use Rattle.meaning.proofs.Labels.{labels_right}
use Rattle.neighbours.specs.Net.{Net}
use Rattle.search.specs.Flood.{Ready}
use Rattle.search.specs.Counting.{Counting}
use Rattle.relabel.specs.Sowing.{Renewal, anew, kept, Renewed}

-- what it starts from: the array of neighbours, a colouring without marks, room in the queue, and memory for a label of each region
pub record Labellable (R : ℕ) (edges : List Edge) (start nb col ls queue : List ℕ) : Type 0 where
  pub net : Net R edges start nb
  pub ready : Ready R col queue
  pub size : length ls ≡ R

-- w has its label, or it has 0 and is not below v
abbrev pub Due : List Edge → List ℕ → List ℕ → ℕ → ℕ → Type 0
Due edges col ls v w = (at ls w ≡ at (labels edges col) w) ⊎ ((at ls w ≡ 0) × (v ≤ w))

-- where it stands: the regions below v have their labels
pub record Labelling (R : ℕ) (edges : List Edge) (start nb col queue cur ls queue' : List ℕ) (v : ℕ) : Type 0 where
  pub net : Net R edges start nb
  pub ready : Ready R col queue
  pub same : cur ≡ col
  pub size : length ls ≡ R
  pub length-kept : length queue' ≡ length queue
  pub low : 1 ≤ v
  pub each : (w : ℕ) → In R w → Due edges col ls v w

-- all labels are 0
pub labelling_start : {R : ℕ} {edges : List Edge} {start nb col ls queue ls' : List ℕ} → Labellable R edges start nb col ls queue → ls' ≡ replicate (length ls) 0 → Labelling R edges start nb col queue col ls' queue 1
labelling_start {ls = ls} g e =
    record {
      net = g.net;
      ready = g.ready;
      same = refl;
      size = ap length e ∙ length-replicate (length ls) 0 ∙ g.size;
      length-kept = refl;
      low = omega arith;
      each = λ w i. inr (ap (λ (l : List ℕ). at l w) e ∙ get_or-replicate (length ls) (w - 1) 0 0 (omega (arith, i.low, i.high, g.size)), i.low);
    }

module _ {R : ℕ} {edges : List Edge} {start nb col queue cur ls queue' : List ℕ} {v : ℕ} (a : Labelling R edges start nb col queue cur ls queue' v) where
  -- all have their labels
  pub labelling_end : length start ≤ v → ls ≡ labels edges col
  labelling_end h =
      ext_at ls (labels edges col) a.size ((labels_right edges col (rw a.ready.size a.net.ends)).size ∙ a.ready.size)
      (λ w i. ⊎_elim (λ e. e) (λ z. absurd (omega (arith, z.1, a.net.size, i.high))) (a.each w i))

  module _ (h : v < length start) where
    -- the next is a region
    pub labelling_in : In R v
    labelling_in = record { low = a.low; high = omega (arith, a.net.size) }

    -- its component may be searched
    pub labelling_next : Counting R edges start nb cur queue' v (at cur v)
    labelling_next =
        rw a.same
        (record {
          net = a.net;
          ready = record { size = a.ready.size; room = rw a.length-kept a.ready.room; plain = a.ready.plain };
          region = labelling_in;
          sector = a.ready.plain v labelling_in;
        })

    -- a label that is not 0 stays
    pub labelling_past : at ls v ≢ 0 → Labelling R edges start nb col queue cur ls queue' (v + 1)
    labelling_past n =
        record {
          net = a.net;
          ready = a.ready;
          same = a.same;
          size = a.size;
          length-kept = a.length-kept;
          low = omega arith;
          each = λ w i. each w (a.each w i);
        }
      where
        each : (w : ℕ) → Due edges col ls v w → Due edges col ls (v + 1) w
        each w (inl o) = inl o
        each w (inr z) = let m : w ≢ v = λ e. n (rw (← e) z.0) in inr (z.0, omega (arith, z.1))

    -- where it is 0 the component is labelled
    pub labelling_turn : {cur' ls' queue'' : List ℕ} {n : ℕ} → cur' ≡ cur → length queue'' ≡ length queue' → Renewed R edges cur (at cur v) (λ x. x ≡ v) ls ls' n
        → Labelling R edges start nb col queue cur' ls' queue'' (v + 1)
    labelling_turn {cur'} {ls'} {queue''} {n} e q x =
        record {
          net = a.net;
          ready = a.ready;
          same = e ∙ a.same;
          size = y.size;
          length-kept = q ∙ a.length-kept;
          low = omega arith;
          each = λ w i. each w (a.each w i) (y.each w i);
        }
      where
        y : Renewed R edges col (at col v) (λ x. x ≡ v) ls ls' n
        y = rw a.same at x

        each : (w : ℕ) → Due edges col ls v w → Renewal edges col (at col v) (λ x. x ≡ v) ls ls' w → Due edges col ls' (v + 1) w
        each w o (anew s t) = inl t
        each w (inl o) (kept t f) = inl (t ∙ o)
        each w (inr z) (kept t f) = let m : w ≢ v = λ e. f v refl refl (rw e itself) in inr (t ∙ z.0, omega (arith, z.1))
