-- A region that is lifted out of its sector is put into one: what its own label is then, and when no other label changes.
-- Assumes nothing.
use Rattle.std.specs.Prelude.{ℕ, ◌≤◌, ◌≡◌, List, ◌≢◌, ◌⊎◌, ◌↔◌}
use Rattle.std.proofs.Common.{arith, sym, ap, ◌∙◌, ⊎_elim}
use Rattle.std.proofs.Math.Decide.{ℕ_discrete}
use Rattle.lists.specs.Sums.{In, at, up_to, count}
use Rattle.meaning.specs.Plan.{Edge}
use Rattle.meaning.specs.Joined.{Joined, itself}
use Rattle.meaning.specs.Paths.{Ends, neighbours_far, joined_trans, joined_sym, joined_in, joined-sector}
use Rattle.meaning.proofs.Labels.{Labelled, label_joined}
use Rattle.meaning.specs.Faces.{shares, Shares, shares_make}
use Rattle.meaning.proofs.Put.{Put, in0, in1, joined_up, label_else, joined-put}
use Rattle.relabel.specs.ListSums.{count_one}

-- m is the smallest of v and the labels of the components of sector d that share a face with v
pub record Least (edges : List Edge) (col ls : List ℕ) (v d m : ℕ) : Type 0 where
  pub own : m ≤ v
  pub least : (l : ℕ) → Shares edges col ls v d l → m ≤ l
  pub stands : (m ≡ v) ⊎ Shares edges col ls v d m

-- a region that shares a face with v and has sector d is not v
pub shares-other : {R : ℕ} {edges : List Edge} {c0 c1 ls : List ℕ} {v d l : ℕ} → Put R c0 c1 v d → (s : Shares edges c0 ls v d l) → s.w ≢ v
shares-other {c0 = c0} p s e = omega (arith, s.sector, ap (at c0) e, p.lifted, p.sector)

module _ {R : ℕ} {edges : List Edge} {c0 c1 l0 l1 : List ℕ} {v d : ℕ} (ends : Ends R edges) (p : Put R c0 c1 v d) (r0 : Labelled edges c0 l0) (r1 : Labelled edges c1 l1) where
  -- the label of such a component is a region
  shares_in : {l : ℕ} → Shares edges c0 l0 v d l → In R l
  shares_in s =
      let i = neighbours_far edges v s.w ends s.neighbours in
      rw s.label at (joined_in ends (r0.joined s.w (in0 p i)) i)

  -- v, put into sector d, is joined to it
  shares_label : {l : ℕ} → Shares edges c0 l0 v d l → Joined edges c1 v l
  shares_label s =
      let i = neighbours_far edges v s.w ends s.neighbours in
      let n = shares-other p s in
      joined_trans (joined_sym ((joined-put ends p r0 i n).1 (rw (← s.label) at s))) (joined_up ends p n (rw s.label at (r0.joined s.w (in0 p i))))

  -- v is joined to its label
  own_label : Joined edges c1 v (at l1 v)
  own_label = r1.joined v (in1 p p.region)

  -- which is a region
  own_in : In R (at l1 v)
  own_in = joined_in ends own_label p.region

  -- and, where it is not v, its component shared a face with v before
  own-shares : at l1 v ≢ v → Shares edges c0 l0 v d (at l0 (at l1 v))
  own-shares n = (joined-put ends p r0 own_in n).0 (joined_sym own_label)

  -- the label of v is the smallest of v and the labels of the components that share a face with it
  pub label_least : {m : ℕ} → Least edges c0 l0 v d m → at l1 v ≡ m
  label_least {m} s =
      omega (
        arith,
        r1.least v m (in1 p p.region) (⊎_elim (λ e. rw e itself) shares_label s.stands),
        low (ℕ_discrete (at l1 v) v),
      )
    where
      low : Dec (at l1 v ≡ v) → m ≤ at l1 v
      low (yes e) = omega (arith, s.own)
      low (no n) = omega (arith, s.least _ (own-shares n), r0.least (at l1 v) (at l1 v) (in0 p own_in) itself)

  -- where there is at most one such component and v is not the smallest of its own, the label of v is that of the component
  pub label_one : count (up_to R) (shares edges c0 l0 v d) ≤ 1 → at l1 v ≢ v → (l : ℕ) → Shares edges c0 l0 v d l → l ≡ at l1 v
  label_one few n l s =
      let m = at l1 v in
      let t = own-shares n in
      let e = count_one R (shares edges c0 l0 v d) few (shares_in s) (shares_in t) (shares_make edges s) (shares_make edges t) in
      let j = joined_trans own_label (joined_up ends p n (r0.joined m (in0 p own_in))) in
      omega (arith, e, r0.least m m (in0 p own_in) itself, r1.least v (at l0 m) (in1 p p.region) j)

  -- where the label of v is that of every such component, each other region keeps its label
  pub label_alone : ((l : ℕ) → Shares edges c0 l0 v d l → l ≡ at l1 v) → {w : ℕ} → In R w → w ≢ v → at l1 w ≡ at l0 w
  label_alone f {w} i n = go (ℕ_discrete (at l1 w) (at l1 v))
    where
      with_v : (at l1 w ≡ at l1 v) ↔ Joined edges c1 w v
      with_v = label_joined r1 (in1 p i) (in1 p p.region)

      go : Dec (at l1 w ≡ at l1 v) → at l1 w ≡ at l0 w
      go (yes e) = e ∙ sym (f _ ((joined-put ends p r0 i n).0 (with_v.0 e)))
      go (no ne) = label_else ends p r0 r1 i (λ j. ne (with_v.1 j))

  -- a region of another sector keeps its label
  pub label_other : {w : ℕ} → In R w → w ≢ v → at c0 w ≢ d → at l1 w ≡ at l0 w
  label_other {w} i n s = label_else ends p r0 r1 i (λ j. s (sym (p.stay w i n) ∙ joined-sector j ∙ p.placed))
