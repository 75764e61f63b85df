-- A made recolouring: a region is lifted out, leaves its sector and comes to another.
-- Assumes nothing.
use Rattle.std.specs.Prelude.{ℕ, ◌+◌, ◌≤◌, ◌<◌, ◌≡◌, ◌≢◌, ◌⊎◌, length}
use Rattle.std.proofs.Common.{arith, sym, ◌∙◌, inl, inr, length-set}
use Rattle.std.proofs.Math.Decide.{ℕ_discrete}
use Rattle.std.proofs.Math.Path.{ap}
use mathlib.Core.List.{List}
use Rattle.std.proofs.Math.Seq.{set-set}
use Rattle.lists.specs.Sums.{In, at}
use Rattle.lists.specs.Places.{at_set, at_set_other, by_set}
use Rattle.meaning.specs.Plan.{Edge}
use Rattle.meaning.specs.Joined.{labels}
use Rattle.meaning.specs.Moves.{recolour, differing}
use Rattle.meaning.proofs.MoveLaws.{recolour-own}
use Rattle.meaning.proofs.Labels.{Labelled, labels_right}
use Rattle.meaning.specs.Faces.{lift, pieces}
use Rattle.meaning.proofs.Put.{Put, put-recolour, put-own}
use Rattle.neighbours.specs.Net.{Net}
use Rattle.search.specs.Marks.{mark}
use Rattle.search.specs.Flood.{Ready}
use Rattle.relabel.specs.Alone.{label_other}
use Rattle.relabel.specs.Differing.{differing-le, differing-add}
use Rattle.relabel.specs.Lifting.{Lifted, Leaving, Coming, labels_but}

-- what a made recolouring starts from: the array of neighbours, a colouring whose labels are known, room in the queue, a region, and a sector that is not its own
pub record Recolourable (R : ℕ) (edges : List Edge) (start nb col ls queue : List ℕ) (v d : ℕ) : Type 0 where
  pub net : Net R edges start nb
  -- each of the R regions has a sector from 1 up to the mark, and the queue has room for one more than all of them
  pub ready : Ready R col queue
  pub sectors : (u : ℕ) → In R u → 1 ≤ at col u
  pub labelled : ls ≡ labels edges col
  -- v is a region, and d such a sector, which v does not have
  pub region : In R v
  pub low : 1 ≤ d
  pub high : d < mark
  pub other : d ≢ at col v

-- what it comes to: the labels of the new colouring, of which n are new, and n is at most R
pub record Relabelled (R : ℕ) (edges : List Edge) (col' ls ls' : List ℕ) (n : ℕ) : Type 0 where
  pub labelled : ls' ≡ labels edges col'
  pub number : n ≡ differing R ls ls'
  pub few : n ≤ R

module _ {R : ℕ} {edges : List Edge} {start nb col ls queue : List ℕ} {v d : ℕ} (k : Recolourable R edges start nb col ls queue v d) where
  -- v comes to sector d
  come : Put R (lift col v) (recolour col v d) v d
  come = put-recolour col k.ready.size k.region k.sectors k.low

  -- and goes from its own
  gone : Put R (lift col v) col v (at col v)
  gone = put-own col k.ready.size k.region k.sectors

  -- labels are right whatever sector v is given
  right : (x : ℕ) → Labelled edges (recolour col v x) (labels edges (recolour col v x))
  right x = labels_right edges (recolour col v x) (rw (length-set col _ x, k.ready.size) k.net.ends)

  -- and so are those before
  right_before : Labelled edges col ls
  right_before = rw k.labelled (labels_right edges col (rw k.ready.size k.net.ends))

  module _ {col' : List ℕ} (e : col' ≡ lift col v) where
    -- with v lifted out, the components of a sector may be searched
    lifted : {x : ℕ} (queue' : List ℕ) → length queue' ≡ length queue → 1 ≤ x → x < mark → Lifted R edges start nb col' queue' v x
    lifted {x} queue' q low high =
        rw e
        (record {
          counting = record {
            net = k.net;
            ready = record { size = gone.size0; room = rw q k.ready.room; plain = λ w i. by_set (λ (y : ℕ). y < mark) col _ _ 0 (omega arith) (k.ready.plain w i) };
            region = k.region;
            sector = high;
          };
          sector = low;
          lifted = gone.lifted;
          others = gone.others;
        })

    -- v has left its own
    pub recolouring_leave : {p : ℕ} (queue' : List ℕ) → length queue' ≡ length queue → p ≡ pieces edges col v → Leaving R edges start nb col' ls queue' v (at col v) p
    unfolding pieces
    recolouring_leave queue' q n =
        record {
          lifted = lifted queue' q (k.sectors v k.region) (k.ready.plain v k.region);
          labelled = k.labelled ∙ ap (labels edges) (sym (ap (λ (l : List ℕ). recolour l v (at col v)) e ∙ set-set col _ 0 (at col v) ∙ recolour-own col v));
          pieces = rw e n;
        }

    -- v is put into sector d
    pub recolouring-put : recolour col' v d ≡ recolour col v d
    recolouring-put = rw e (set-set col _ 0 d)

  -- the labels between: v is still to get its own
  module _ {col1 ls1 : List ℕ} (e : col1 ≡ lift col v) (x : ls1 ≡ labels_but edges col1 v (at ls v)) where
    -- there is a label for each region
    size : length (labels edges (lift col v)) ≡ R
    size = (right 0).size ∙ gone.size0

    -- each is that with v lifted out
    between : (w : ℕ) → at ls1 w ≡ at (labels_but edges (lift col v) v (at ls v)) w
    between w = rw (x, e)

    -- v has the one that it had
    own : at ls1 v ≡ at ls v
    own = between v ∙ at_set (labels edges (lift col v)) (at ls v) size k.region

    -- and each other region its own
    others : {w : ℕ} → In R w → w ≢ v → at ls1 w ≡ at (labels edges (lift col v)) w
    others {w} i o = between w ∙ at_set_other (labels edges (lift col v)) (at ls v) size k.region i o

    module _ {col2 : List ℕ} (f : col2 ≡ col1) where
      -- v may come to sector d
      pub recolouring_come : (queue' : List ℕ) → length queue' ≡ length queue → Coming R edges start nb col2 ls1 queue' v d
      recolouring_come queue' q = record { lifted = lifted (f ∙ e) queue' q k.low k.high; labelled = rw (f, own) x }

      -- what is new where v leaves and where it comes adds up: no label changes twice
      pub recolouring_end : {ls2 : List ℕ} {a b : ℕ} → a ≡ differing R ls ls1 → ls2 ≡ labels edges (recolour col2 v d) → b ≡ differing R ls1 ls2
          → Relabelled R edges (recolour col v d) ls ls2 (a + b)
      recolouring_end {ls2} {a} {b} m y n =
          let number : a + b ≡ differing R ls ls2 = rw (m, n) (differing-add R ls ls1 ls2 (λ w i. once w i (ℕ_discrete w v) (ℕ_discrete (at (lift col v) w) d))) in
          record { labelled = after; number = number; few = omega (arith, differing-le R ls ls2) }
        where
          after : ls2 ≡ labels edges (recolour col v d)
          after = y ∙ ap (labels edges) (recolouring-put (f ∙ e))

          once : (w : ℕ) → In R w → Dec (w ≡ v) → Dec (at (lift col v) w ≡ d) → (at ls1 w ≡ at ls w) ⊎ (at ls2 w ≡ at ls1 w)
          once w i (yes q) s = inl (rw q own)
          once w i (no o) (yes s) = inl (others i o ∙ sym (label_other k.net.ends gone (right 0) right_before i o (λ t. k.other (sym s ∙ t))))
          once w i (no o) (no s) = inr (ap (λ (l : List ℕ). at l w) after ∙ label_other k.net.ends come (right 0) (right d) i o s ∙ sym (others i o))
