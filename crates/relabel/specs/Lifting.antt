-- With a region lifted out: the labels once it has left its sector, and once it has come to one.
-- Assumes nothing.
use Rattle.std.specs.Prelude.{ℕ, ◌≤◌, ◌<◌, ◌≡◌, List, ◌≢◌, ◌↔◌, length}
use Rattle.std.proofs.Common.{arith, sym, ap, ◌∙◌, inl, inr, ⊎_elim, length-set}
use Rattle.std.proofs.Math.Decide.{ℕ_discrete}
use Rattle.std.proofs.Math.Path.{refl}
use Rattle.lists.specs.Sums.{In, at}
use Rattle.lists.specs.Places.{at_set, at_set_other, ext_at, by_set}
use Rattle.meaning.specs.Plan.{Edge}
use Rattle.meaning.specs.Joined.{Neighbours, Joined, itself, labels}
use Rattle.meaning.specs.Moves.{recolour}
use Rattle.meaning.specs.Paths.{Ends, neighbours_far, joined_sym}
use Rattle.meaning.proofs.Labels.{Labelled, labels_right, label_joined}
use Rattle.meaning.specs.Faces.{beside, Shares}
use Rattle.meaning.proofs.Put.{Put, in0, label_else, joined-put}
use Rattle.search.specs.Marks.{mark}
use Rattle.search.specs.Counting.{Counting}
use Rattle.search.specs.Ranging.{Rangeable, Ranged}
use Rattle.relabel.specs.Alone.{Least, shares-other, label_least, label_one, label_alone}
use Rattle.relabel.specs.Sowing.{Renewal, anew, kept, Renewed}

-- v alone is lifted out of its sector, and d is a sector whose components may be searched
pub record Lifted (R : ℕ) (edges : List Edge) (start nb col queue : List ℕ) (v d : ℕ) : Type 0 where
  pub counting : Counting R edges start nb col queue v d
  pub sector : 1 ≤ d
  pub lifted : at col v ≡ 0
  pub others : (u : ℕ) → In R u → u ≢ v → 1 ≤ at col u

-- the labels with v lifted out, but for v's own, which is still l
abbrev pub labels_but : List Edge → List ℕ → ℕ → ℕ → List ℕ
labels_but edges col v l = recolour (labels edges col) v l

-- v has left sector d, and p pieces are left: the labels are still those with v in the sector
pub record Leaving (R : ℕ) (edges : List Edge) (start nb col ls queue : List ℕ) (v d p : ℕ) : Type 0 where
  pub lifted : Lifted R edges start nb col queue v d
  pub labelled : ls ≡ labels edges (recolour col v d)
  pub pieces : p ≡ beside edges col v d

-- v is to come to sector d: each other region has its label
pub record Coming (R : ℕ) (edges : List Edge) (start nb col ls queue : List ℕ) (v d : ℕ) : Type 0 where
  pub lifted : Lifted R edges start nb col queue v d
  pub labelled : ls ≡ labels_but edges col v (at ls v)

module _ {R : ℕ} {edges : List Edge} {start nb col queue : List ℕ} {v d : ℕ} (k : Lifted R edges start nb col queue v d) where
  -- both ends of every edge are regions
  ends : Ends R edges
  ends = k.counting.net.ends

  -- v is put into sector d
  put : Put R col (recolour col v d) v d
  put =
      record {
        size0 = k.counting.ready.size;
        size1 = length-set col _ d ∙ k.counting.ready.size;
        region = k.counting.region;
        sector = k.sector;
        lifted = k.lifted;
        others = k.others;
        placed = at_set col d k.counting.ready.size k.counting.region;
        stay = λ u i n. at_set_other col d k.counting.ready.size k.counting.region i n;
      }

  -- the labels are right with v lifted out
  right0 : Labelled edges col (labels edges col)
  right0 = labels_right edges col (rw put.size0 ends)

  -- and with v put into sector d
  right1 : Labelled edges (recolour col v d) (labels edges (recolour col v d))
  right1 = labels_right edges (recolour col v d) (rw put.size1 ends)

  -- each region has a label with v lifted out
  size0 : length (labels edges col) ≡ R
  size0 = right0.size ∙ put.size0

  -- and with v put into sector d
  size1 : length (labels edges (recolour col v d)) ≡ R
  size1 = right1.size ∙ put.size1

  -- a region that is then not joined to v keeps its label
  label_still : {w : ℕ} → In R w → (Joined edges (recolour col v d) w v → ⊥) → at (labels edges (recolour col v d)) w ≡ at (labels edges col) w
  label_still i n = label_else ends put right0 right1 i n

  -- labels are those with v lifted out, but for v's own, where every other region has its label
  labels_but_lem : {ls : List ℕ} {l : ℕ} → length ls ≡ R → at ls v ≡ l → ((w : ℕ) → In R w → w ≢ v → at ls w ≡ at (labels edges col) w) → ls ≡ labels_but edges col v l
  labels_but_lem {ls} {l} s own f = ext_at ls _ s (length-set (labels edges col) _ l ∙ size0) (λ w i. go w i (ℕ_discrete w v))
    where
      go : (w : ℕ) → In R w → Dec (w ≡ v) → at ls w ≡ at (labels_but edges col v l) w
      go w i (yes e) = rw e (own ∙ sym (at_set (labels edges col) l size0 put.region))
      go w i (no n) = f w i n ∙ sym (at_set_other (labels edges col) l size0 put.region i n)

module _ {R : ℕ} {edges : List Edge} {start nb col ls queue : List ℕ} {v d p : ℕ} (a : Leaving R edges start nb col ls queue v d p) where
  -- each region has a label
  pub leaving_size : length ls ≡ R
  leaving_size = ap length a.labelled ∙ size1 a.lifted

  -- it is the one with v in its sector
  before : (w : ℕ) → at ls w ≡ at (labels edges (recolour col v d)) w
  before w = ap (λ (l : List ℕ). at l w) a.labelled

  -- where at most one piece is left and v was not the smallest of its component, no label changes
  pub leaving_still : p ≤ 1 → at ls v ≢ v → ls ≡ labels_but edges col v (at ls v)
  unfolding beside
  leaving_still few n = labels_but_lem k leaving_size refl (λ w i o. before w ∙ label_alone (ends k) (put k) (right0 k) (right1 k) one i o)
    where
      k : Lifted R edges start nb col queue v d
      k = a.lifted

      one : (l : ℕ) → Shares edges col (labels edges col) v d l → l ≡ at (labels edges (recolour col v d)) v
      one = label_one (ends k) (put k) (right0 k) (right1 k) (omega (arith, few, rw (put k).size0 at a.pieces)) (rw (before v) at n)

  -- otherwise the pieces are labelled anew
  pub leaving_end : {ls' : List ℕ} {n : ℕ} → Renewed R edges col d (Neighbours edges v) ls ls' n → ls' ≡ labels_but edges col v (at ls v)
  leaving_end {ls'} {n} x = labels_but_lem k x.size (own (x.each v (put k).region)) (λ w i o. each i o (x.each w i))
    where
      k : Lifted R edges start nb col queue v d
      k = a.lifted

      own : Renewal edges col d (Neighbours edges v) ls ls' v → at ls' v ≡ at ls v
      own (anew s q) = absurd (omega (arith, k.lifted, k.sector))
      own (kept q f) = q

      each : {w : ℕ} → In R w → w ≢ v → Renewal edges col d (Neighbours edges v) ls ls' w → at ls' w ≡ at (labels edges col) w
      each i o (anew s q) = q
      each {w} i o (kept q f) = q ∙ before w ∙ label_still k i apart
        where
          apart : Joined edges (recolour col v d) w v → ⊥
          apart j =
              let s = (joined-put (ends k) (put k) (right0 k) i o).0 j in
              let h = neighbours_far edges v s.w (ends k) s.neighbours in
              f s.w s.neighbours s.sector ((label_joined (right0 k) (in0 (put k) h) (in0 (put k) i)).0 s.label)

module _ {R : ℕ} {edges : List Edge} {start nb col ls queue : List ℕ} {v d : ℕ} (a : Coming R edges start nb col ls queue v d) where
  -- each region has a label
  pub coming_size : length ls ≡ R
  coming_size = ap length a.labelled ∙ length-set (labels edges col) _ (at ls v) ∙ size0 a.lifted

  -- each but v its own
  but : (w : ℕ) → In R w → w ≢ v → at ls w ≡ at (labels edges col) w
  but w i n = ap (λ (l : List ℕ). at l w) a.labelled ∙ at_set_other (labels edges col) (at ls v) (size0 a.lifted) (put a.lifted).region i n

  -- a component shares a face with v by these labels exactly when it does by the right ones
  shares_but : {l : ℕ} → Shares edges col ls v d l ↔ Shares edges col (labels edges col) v d l
  shares_but {l} = (turn but, turn (λ w i n. sym (but w i n)))
    where
      turn : {b c : List ℕ} → ((w : ℕ) → In R w → w ≢ v → at b w ≡ at c w) → Shares edges col b v d l → Shares edges col c v d l
      turn f s =
          let i = neighbours_far edges v s.w (ends a.lifted) s.neighbours in
          record { w = s.w; neighbours = s.neighbours; sector = s.sector; label = sym (f s.w i (shares-other (put a.lifted) s)) ∙ s.label }

  -- the labels beside v may be gone through
  pub coming_range : Rangeable R edges start nb col ls v
  coming_range = let c = a.lifted.counting in record { net = c.net; sectors = c.ready.size; labels = coming_size; region = c.region }

  -- where none of them is above the smallest of v and them, that is v's label, and no other changes
  pub coming_still : {low high : ℕ} → Ranged edges col ls v d v low high → high ≤ low → recolour ls v low ≡ labels edges (recolour col v d)
  coming_still {low} {high} r h = ext_at _ _ (length-set ls _ low ∙ coming_size) (size1 k) (λ w i. go w i (ℕ_discrete w v))
    where
      k : Lifted R edges start nb col queue v d
      k = a.lifted

      least : Least edges col (labels edges col) v d low
      least = record { own = r.own; least = λ l s. (r.between l (shares_but.1 s)).0; stands = ⊎_elim inl (λ s. inr (shares_but.0 s)) r.stands }

      own : at (labels edges (recolour col v d)) v ≡ low
      own = label_least (ends k) (put k) (right0 k) (right1 k) least

      one : (l : ℕ) → Shares edges col (labels edges col) v d l → l ≡ at (labels edges (recolour col v d)) v
      one l s = omega (arith, r.between l (shares_but.1 s), own)

      go : (w : ℕ) → In R w → Dec (w ≡ v) → at (recolour ls v low) w ≡ at (labels edges (recolour col v d)) w
      go w i (yes e) = rw e (at_set ls low coming_size (put k).region ∙ sym own)
      go w i (no n) = at_set_other ls low coming_size (put k).region i n ∙ but w i n ∙ sym (label_alone (ends k) (put k) (right0 k) (right1 k) one i n)

  -- otherwise its component may be searched
  pub coming_next : Counting R edges start nb (recolour col v d) queue v (at (recolour col v d) v)
  coming_next =
      let c = a.lifted.counting in
      record {
        net = c.net;
        ready = record { size = (put a.lifted).size1; room = c.ready.room; plain = λ w i. by_set (λ (x : ℕ). x < mark) col _ _ d c.sector (c.ready.plain w i) };
        region = c.region;
        sector = rw (put a.lifted).placed c.sector;
      }

  -- and is labelled anew
  pub coming_end : {ls' : List ℕ} {n : ℕ} → Renewed R edges (recolour col v d) (at (recolour col v d) v) (λ x. x ≡ v) ls ls' n → ls' ≡ labels edges (recolour col v d)
  coming_end {ls'} {n} x = ext_at ls' _ x.size (size1 a.lifted) (λ w i. each i (x.each w i))
    where
      each : {w : ℕ} → In R w → Renewal edges (recolour col v d) (at (recolour col v d) v) (λ x. x ≡ v) ls ls' w → at ls' w ≡ at (labels edges (recolour col v d)) w
      each i (anew s q) = q
      each {w} i (kept q f) =
          let apart : (Joined edges (recolour col v d) w v → ⊥) = λ j. f v refl refl (joined_sym j) in
          q ∙ but w i (λ e. apart (rw e itself)) ∙ sym (label_still a.lifted i apart)
