-- A region that is lifted out of its sector is put into one: who is joined afterwards, and which labels stay.
-- Assumes nothing.
use Rattle.std.specs.Prelude.{ℕ, ◌≤◌, ◌≡◌, refl, List, ◌≢◌, ◌↔◌, length}
use Rattle.std.proofs.Common.{arith, sym, ap, ◌∙◌, length-set}
use Rattle.std.proofs.Math.Decide.{ℕ_discrete}
use Rattle.std.proofs.Math.Logic.Iff
use Rattle.lists.specs.Sums.{In, at}
use Rattle.lists.specs.Places.{at_set, at_set_other}
use Rattle.meaning.specs.Plan.{Edge}
use Rattle.meaning.specs.Joined.{Neighbours, Joined, itself, along}
use Rattle.meaning.specs.Moves.{recolour}
use Rattle.meaning.proofs.MoveLaws.{recolour-own}
use Rattle.meaning.specs.Paths.{Ends, neighbours_sym, neighbours_in, neighbours_far, joined_trans}
use Rattle.meaning.proofs.Labels.{Labelled, label_joined}
use Rattle.meaning.specs.Faces.{lift, Shares}

-- c1 is c0, in which v is lifted out, with v put into sector d
pub record Put (R : ℕ) (c0 c1 : List ℕ) (v d : ℕ) : Type 0 where
  -- both give R regions a sector
  pub size0 : length c0 ≡ R
  pub size1 : length c1 ≡ R
  -- v is a region, and d a sector
  pub region : In R v
  pub sector : 1 ≤ d
  -- v alone is lifted out in c0
  pub lifted : at c0 v ≡ 0
  pub others : (u : ℕ) → In R u → u ≢ v → 1 ≤ at c0 u
  -- v alone has another sector in c1, which is d
  pub placed : at c1 v ≡ d
  pub stay : (u : ℕ) → In R u → u ≢ v → at c1 u ≡ at c0 u

module _ {R : ℕ} (col : List ℕ) {v : ℕ} (size : length col ≡ R) (i : In R v) (sectors : (u : ℕ) → In R u → 1 ≤ at col u) where
  -- v lifted out, and then given to sector d
  pub put-recolour : {d : ℕ} → 1 ≤ d → Put R (lift col v) (recolour col v d) v d
  put-recolour {d} k =
      record {
        size0 = length-set col _ 0 ∙ size;
        size1 = length-set col _ d ∙ size;
        region = i;
        sector = k;
        lifted = at_set col 0 size i;
        others = λ u j ne. rw (at_set_other col 0 size i j ne) (sectors u j);
        placed = at_set col d size i;
        stay = λ u j ne. at_set_other col d size i j ne ∙ sym (at_set_other col 0 size i j ne);
      }

  -- v lifted out, and then given back to its own sector
  pub put-own : Put R (lift col v) col v (at col v)
  put-own = rw (recolour-own col v) at (put-recolour (sectors v i))

module _ {R : ℕ} {c0 c1 : List ℕ} {v d : ℕ} (p : Put R c0 c1 v d) where
  -- c0 gives each of the R regions a sector
  pub in0 : {u : ℕ} → In R u → In (length c0) u
  in0 i = rw p.size0 i

  -- and so does c1
  pub in1 : {u : ℕ} → In R u → In (length c1) u
  in1 i = rw p.size1 i

  -- two regions other than v share a sector in both colourings or in neither
  alike : {u w : ℕ} → In R u → In R w → u ≢ v → w ≢ v → (at c0 u ≡ at c0 w) ↔ (at c1 u ≡ at c1 w)
  alike {u} {w} i j nu nw = rw (p.stay u i nu, p.stay w j nw) Iff.rfl

module _ {R : ℕ} {edges : List Edge} {c0 c1 : List ℕ} {v d : ℕ} (ends : Ends R edges) (p : Put R c0 c1 v d) where
  -- what is joined with v lifted out is joined with v put in
  pub joined_up : {u w : ℕ} → u ≢ v → Joined edges c0 u w → Joined edges c1 u w
  joined_up n itself = itself
  joined_up {u} n (along {w = x} a s j) =
      let i = neighbours_in edges u x ends a in
      let m : x ≢ v = λ e. omega (arith, p.others u i n, s, ap (at c0) e, p.lifted) in
      along a ((alike p i (neighbours_far edges u x ends a) n m).0 s) (joined_up m j)

  -- what is joined with v put in, and not to v, is joined with v lifted out
  joined_down : {u w : ℕ} → (Joined edges c1 u v → ⊥) → Joined edges c1 u w → Joined edges c0 u w
  joined_down n itself = itself
  joined_down {u} n (along {w = x} a s j) =
      let nu : u ≢ v = λ e. n (rw e itself) in
      let nx : x ≢ v = λ e. n (along a s (rw e itself)) in
      along a ((alike p (neighbours_in edges u x ends a) (neighbours_far edges u x ends a) nu nx).1 s) (joined_down (λ k. n (along a s k)) j)

  -- a region that is not joined to v is joined to the same regions in both
  pub joined_else : {u w : ℕ} → (Joined edges c1 u v → ⊥) → Joined edges c0 u w ↔ Joined edges c1 u w
  joined_else n = (joined_up (λ e. n (rw e itself)), joined_down n)

  -- so it keeps its label
  pub label_else : {l0 l1 : List ℕ} → Labelled edges c0 l0 → Labelled edges c1 l1 → {u : ℕ} → In R u → (Joined edges c1 u v → ⊥) → at l1 u ≡ at l0 u
  label_else {l0} {l1} r0 r1 {u} i n =
      omega (
        arith,
        r1.least u (at l0 u) (in1 p i) ((joined_else n).0 (r0.joined u (in0 p i))),
        r0.least u (at l1 u) (in0 p i) ((joined_else n).1 (r1.joined u (in1 p i))),
      )

  module _ {l0 : List ℕ} (r0 : Labelled edges c0 l0) where
    -- one step of a path to v: to v itself, or to a region whose component shares a face with v
    via : {u x : ℕ} → u ≢ v → Neighbours edges u x → at c1 u ≡ at c1 x → (x ≢ v → Shares edges c0 l0 v d (at l0 x)) → Dec (x ≡ v) → Shares edges c0 l0 v d (at l0 u)
    via {u} {x} n a s r (yes e) =
        record {
          w = u;
          neighbours = neighbours_sym edges u v (rw e at a);
          sector = sym (p.stay u (neighbours_in edges u x ends a) n) ∙ s ∙ ap (at c1) e ∙ p.placed;
          label = refl;
        }
    via {u} {x} n a s r (no m) =
        let i = neighbours_in edges u x ends a in
        let j = neighbours_far edges u x ends a in
        rw ((label_joined r0 (in0 p i) (in0 p j)).1 (along a ((alike p i j n m).1 s) itself)) (r m)

    -- a path to v
    reach : {u t : ℕ} → t ≡ v → u ≢ v → Joined edges c1 u t → Shares edges c0 l0 v d (at l0 u)
    reach e n itself = absurd (n e)
    reach e n (along {w = x} a s j) = via n a s (λ m. reach e m j) (ℕ_discrete x v)

    -- a face of v gives a path to it
    leave : {u : ℕ} → In R u → u ≢ v → Shares edges c0 l0 v d (at l0 u) → Joined edges c1 u v
    leave i n s =
        let j = neighbours_far edges v s.w ends s.neighbours in
        let m : s.w ≢ v = λ e. omega (arith, s.sector, ap (at c0) e, p.lifted, p.sector) in
        joined_trans (joined_up n ((label_joined r0 (in0 p i) (in0 p j)).0 (sym s.label)))
        (along (neighbours_sym edges v s.w s.neighbours) (p.stay s.w j m ∙ s.sector ∙ sym p.placed) itself)

    -- a region is joined to v, put into sector d, exactly when its component is of sector d and shares a face with v
    pub joined-put : {u : ℕ} → In R u → u ≢ v → Joined edges c1 u v ↔ Shares edges c0 l0 v d (at l0 u)
    joined-put i n = (reach refl n, leave i n)
