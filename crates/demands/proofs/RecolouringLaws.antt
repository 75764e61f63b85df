-- A made recolouring to another sector: how many components each sector has after it, and which labels stay. An exchange is two of them in turn.
-- Assumes nothing.
use Rattle.std.specs.Prelude.{ℕ, suc, ◌*◌, ◌<◌, ◌≡◌, ◌≢◌, ◌↔◌, true, false, List, eqb, pos, take}
use Rattle.std.proofs.Common.{arith, sym, ap, ◌∙◌, eq-eqb, le-leb}
use mathlib.Mathlib.Data.Bool.Basic.{or_inl, or_inr}
use Rattle.lists.specs.Sums.{In, at}
use Rattle.lists.specs.Places.{at_set_other}
use Rattle.terms.specs.Moves.{recolouring, exchange, of_region, move_of}
use Rattle.meaning.specs.Plan.{Plan, Limits, Coloured}
use Rattle.meaning.specs.Joined.{Joined, labels}
use Rattle.meaning.specs.Kinds.{ncc}
use Rattle.meaning.specs.Moves.{move_length, recolour, swap, moves_of, next, last}
use Rattle.meaning.specs.Paths.{limits_ends, neighbours_far}
use Rattle.meaning.proofs.Labels.{plan_labels, label_joined}
use Rattle.meaning.specs.Faces.{lift, shares, Shares, shares-true, shares_make, pieces}
use Rattle.meaning.proofs.Put.{Put, put-recolour, put-own, in0, in1, joined_up, joined-put}
use Rattle.meaning.proofs.Recoloured.{coloured-recolour, label_rest, ncc_come, ncc_go, ncc_rest}
use Rattle.call.specs.Promise.{Input, Outcome, Promise, plan_in}
use Rattle.turns.specs.Decoded.{move_within}
use Rattle.turns.specs.Taken.{move_count, coloured-last}
use Rattle.demands.specs.Calls.{SamePlan, same_plan, call_valid, colouring-left, coloured-left}
use Rattle.demands.specs.Work.{numbers_of, numbers_in, work-labels, work-counts}
use Rattle.demands.specs.Rows.{kind_at, first_at, second_at, colouring_at, row_left}
use Rattle.demands.proofs.RowLaws.{colouring-next, accepted_move}
use Rattle.demands.specs.Recolourings.{Recolouring, concerned, make_exchange, make_recolour}
use Rattle.std.proofs.Math.Bool.{true≢false}

-- ---- by the definitions

module _ {P : Plan} {col : List ℕ} {v d : ℕ} (l : Limits P) (k : Coloured P col) (i : In P.R v) (j : In P.S d) where
  -- v comes to sector d
  come : Put P.R (lift col v) (recolour col v d) v d
  come = put-recolour col k.size i (λ u h. (k.sector u h).low) j.low

  -- and goes from its own
  gone : Put P.R (lift col v) col v (at col v)
  gone = put-own col k.size i (λ u h. (k.sector u h).low)

  -- a region that is joined to v afterwards was in a component of sector d that shares a face with v
  joined-after : {u : ℕ} → In P.R u → u ≢ v → Joined P.edges (recolour col v d) u v
      → Shares P.edges col (labels P.edges col) v d (at (labels P.edges col) u)
  joined-after {u} h n t =
      let ends = limits_ends P l in
      let r0 = plan_labels l (lift col v) come.size0 in
      let r1 = plan_labels l col k.size in
      let s = (joined-put ends come r0 h n).0 t in
      let w = s.w in
      let hw = neighbours_far P.edges v w ends s.neighbours in
      let nw : w ≢ v = λ e. omega (arith, s.sector, ap (at (lift col v)) e, come.lifted, j.low) in
      record {
        w = w;
        neighbours = s.neighbours;
        sector = gone.stay w hw nw ∙ s.sector;
        label = (label_joined r1 (in1 gone hw) (in1 gone h)).1 (joined_up ends gone nw ((label_joined r0 (in0 gone hw) (in0 gone h)).0 s.label));
      }

  -- a region outside the components that a recolouring concerns keeps its label
  label_kept : (u : ℕ) → In P.R u → concerned P col v d u ≡ false → at (labels P.edges (recolour col v d)) u ≡ at (labels P.edges col) u
  unfolding concerned
  label_kept u h f =
      let ls = labels P.edges col in
      let r = plan_labels l col k.size in
      let apart : (at ls u ≢ at ls v) = λ e. true≢false (sym (or_inl _ _ (eq-eqb (at ls u) (at ls v) e)) ∙ f) in
      label_rest l k i j h (λ t. apart ((label_joined r (in1 gone h) (in1 gone i)).1 t))
      (λ t. true≢false (sym (or_inr (eqb (at ls u) (at ls v)) _ (shares_make P.edges (joined-after h (λ e. apart (ap (at ls) e)) t))) ∙ f))

  -- a region that is given to another sector changes labels and component counts as `Recolouring` says
  pub recolouring-numbers : d ≢ at col v → Recolouring P col v d (numbers_of P col) (numbers_of P (recolour col v d))
  recolouring-numbers ne =
      record { goes = ncc_go l k i j ne; comes = ncc_come l k i j ne; others = ncc_rest l k i j ne; labels = label_kept }

  -- the pieces are those of v's own component: another region is in it exactly when, with v lifted out, its component is counted among them
  pub piece_own : {u : ℕ} → In P.R u → u ≢ v
      → Joined P.edges col u v ↔ shares P.edges (lift col v) (labels P.edges (lift col v)) v (at col v) (at (labels P.edges (lift col v)) u) ≡ true
  piece_own h n =
      let s = joined-put (limits_ends P l) gone (plan_labels l (lift col v) gone.size0) h n in
      (λ t. shares_make P.edges (s.0 t), λ t. s.1 (shares-true P.edges t))

module _ {P : Plan} {col : List ℕ} {a b : ℕ} (l : Limits P) (k : Coloured P col) (i : In P.R a) (j : In P.R b) (ne : at col a ≢ at col b) where
  -- so does each of the two recolourings of an exchange of regions of two sectors, the second on the colouring that the first leaves
  pub exchange-numbers : let between = recolour col a (at col b) in
      Recolouring P col a (at col b) (numbers_of P col) (numbers_of P between)
      × Recolouring P between b (at col a) (numbers_of P between) (numbers_of P (swap col a b))
  exchange-numbers =
      let c = k.sector b j in
      let d = k.sector a i in
      let still = at_set_other col (at col b) k.size i j (λ e. ne (ap (at col) (sym e))) in
      (recolouring-numbers l k i c (λ e. ne (sym e)), recolouring-numbers l (coloured-recolour k i c) j d (λ e. ne (e ∙ still)))

-- ---- move k of a call

module _ {i : Input} {o : Outcome} (p : Promise i o) (z : o.answer.code ≡ 0) (k : ℕ) (h : k < move_count i.moves) (e : (row_left o k).status ≡ pos 0) where
  -- each region has a sector before move k
  coloured-at : Coloured (plan_in i) (colouring_at i k)
  unfolding colouring_at
  coloured-at = coloured-last (take (move_length * k) i.moves) (call_valid p z).plan.coloured

  -- each recolouring that a call makes, to another sector, changes labels and component counts as `Recolouring` says
  pub recolouring_step : kind_at i k ≡ 2 → second_at i k ≢ at (colouring_at i k) (first_at i k)
      → Recolouring (plan_in i) (colouring_at i k) (first_at i k) (second_at i k) (numbers_of (plan_in i) (colouring_at i k)) (numbers_of (plan_in i) (colouring_at i (suc k)))
  unfolding next
  recolouring_step n ne =
      let m = accepted_move p z k h e in
      let w = rw (m, n) at (move_within (plan_in i) (kind_at i k) (first_at i k) (second_at i k)) in
      rw (colouring-next p z k h, m, n) (recolouring-numbers (call_valid p z).plan.limits coloured-at w.0 w.1 ne)

  -- so does each of the two recolourings of every exchange that a call makes, of regions of two sectors
  pub exchange_step : kind_at i k ≡ 4 → at (colouring_at i k) (first_at i k) ≢ at (colouring_at i k) (second_at i k)
      → let col = colouring_at i k in
      let a = first_at i k in
      let b = second_at i k in
      let between = recolour col a (at col b) in
      Recolouring (plan_in i) col a (at col b) (numbers_of (plan_in i) col) (numbers_of (plan_in i) between)
      × Recolouring (plan_in i) between b (at col a) (numbers_of (plan_in i) between) (numbers_of (plan_in i) (colouring_at i (suc k)))
  unfolding next
  exchange_step n ne =
      let m = accepted_move p z k h e in
      let w = rw (m, n) at (move_within (plan_in i) (kind_at i k) (first_at i k) (second_at i k)) in
      rw (colouring-next p z k h, m, n) (exchange-numbers (call_valid p z).plan.limits coloured-at w.0 w.1 ne)

-- ---- in the work memory

-- what holds of the numbers of two colourings holds of those in the work memory that two calls leave with them
by_work : {i j : Input} {o q : Outcome} (p : Promise i o) (z : o.answer.code ≡ 0) (p₁ : Promise j q) (z₁ : q.answer.code ≡ 0) (s : SamePlan i j) {v d : ℕ} → In i.R v → In i.S d
    → Recolouring (plan_in i) o.colouring v d (numbers_of (plan_in i) o.colouring) (numbers_of (plan_in i) q.colouring)
    → Recolouring (plan_in i) o.colouring v d (numbers_in i o) (numbers_in j q)
by_work {i} {j} {o} {q} p z p₁ z₁ s {v} {d} hv hd r =
    let old = (coloured-left p z).sector v hv in
    record {
      goes = rw (before _ old, after _ old) r.goes;
      comes = rw (before _ hd, after _ hd) r.comes;
      others = λ c h n m. after c h ∙ r.others c h n m ∙ sym (before c h);
      labels = λ u h f. kept u h ∙ r.labels u h f ∙ sym (work-labels p z u h);
    }
  where
    before : (c : ℕ) → In i.S c → (numbers_in i o).components c ≡ ncc (plan_in i) o.colouring c
    before = work-counts p z

    after : (c : ℕ) → In i.S c → (numbers_in j q).components c ≡ ncc (plan_in i) q.colouring c
    after c h = work-counts p₁ z₁ c (rw s.S at h) ∙ rw (same_plan s)

    kept : (u : ℕ) → In i.R u → (numbers_in j q).label u ≡ at (labels (plan_in i).edges q.colouring) u
    kept u h = work-labels p₁ z₁ u (rw s.R at h) ∙ rw s.edges

-- ---- a call that makes one move

-- the colouring after a list of one recolouring that is made
last-recolour : (P : Plan) (col : List ℕ) {v d : ℕ} → In P.R v → In P.S d → last col (moves_of P (make_recolour v d)) ≡ recolour col v d
unfolding moves_of move_of of_region recolouring last next
last-recolour P col {v} {d} i j = rw (le-leb 1 v i.low, le-leb v P.R i.high, le-leb 1 d j.low, le-leb d P.S j.high)

-- the colouring after a list of one exchange that is made
last-exchange : (P : Plan) (col : List ℕ) {a b : ℕ} → In P.R a → In P.R b → last col (moves_of P (make_exchange a b)) ≡ swap col a b
unfolding moves_of move_of of_region exchange last next
last-exchange P col {a} {b} i j = rw (le-leb 1 a i.low, le-leb a P.R i.high, le-leb 1 b j.low, le-leb b P.R j.high)

module _ {i j : Input} {o q : Outcome} (p : Promise i o) (z : o.answer.code ≡ 0) (p₁ : Promise j q) (z₁ : q.answer.code ≡ 0) (s : SamePlan i j) (on : j.colouring ≡ o.colouring) where
  -- a call that makes one recolouring leaves the colouring with the region in its new sector
  pub recolouring-left : {v d : ℕ} → j.moves ≡ make_recolour v d → In i.R v → In i.S d → q.colouring ≡ recolour o.colouring v d
  recolouring-left {v} {d} m hv hd =
      colouring-left p₁ z₁
      ∙ rw (m, on) (last-recolour (plan_in j) o.colouring (rw s.R at hv) (rw s.S at hd))

  -- the work memory of a call, and that of a second call that goes on from its colouring and makes one recolouring to another sector, differ as `Recolouring` says
  pub recolouring-work : {v d : ℕ} → j.moves ≡ make_recolour v d → In i.R v → In i.S d → d ≢ at o.colouring v
      → Recolouring (plan_in i) o.colouring v d (numbers_in i o) (numbers_in j q)
  recolouring-work m hv hd ne =
      by_work p z p₁ z₁ s hv hd
      (rw (recolouring-left m hv hd) (recolouring-numbers (call_valid p z).plan.limits (coloured-left p z) hv hd ne))

  module _ {k : Input} {r : Outcome} (p₂ : Promise k r) (z₂ : r.answer.code ≡ 0) (t : SamePlan j k) (on₂ : k.colouring ≡ o.colouring) where
    -- of three calls, the second making the first recolouring of an exchange and the third the whole exchange, the work memories differ so from each to the next
    pub exchange-work : {a b : ℕ} → j.moves ≡ make_recolour a (at o.colouring b) → k.moves ≡ make_exchange a b → In i.R a → In i.R b
        → at o.colouring a ≢ at o.colouring b
        → Recolouring (plan_in i) o.colouring a (at o.colouring b) (numbers_in i o) (numbers_in j q)
        × Recolouring (plan_in j) q.colouring b (at o.colouring a) (numbers_in j q) (numbers_in k r)
    exchange-work {a} {b} m₁ m₂ ha hb ne =
        let c = coloured-left p z in
        let mid = recolouring-left m₁ ha (c.sector b hb) in
        let end : r.colouring ≡ swap o.colouring a b = colouring-left p₂ z₂ ∙ rw (m₂, on₂) (last-exchange (plan_in k) o.colouring (rw t.R at (rw s.R at ha)) (rw t.R at (rw s.R at hb))) in (
          recolouring-work m₁ ha (c.sector b hb) (λ e. ne (sym e)),
          by_work p₁ z₁ p₂ z₂ t (rw s.R at hb) (rw s.S at (c.sector a ha))
              (rw (← same_plan s, ← s.edges, end, mid) (exchange-numbers (call_valid p z).plan.limits c ha hb ne).1),
        )
