-- A region is given to another sector: how the components, the workloads and the border change, and which labels stay.
-- Assumes nothing.
use Rattle.std.specs.Prelude.{ℕ, ◌+◌, ◌-◌, ◌≡◌, refl, List, ◌≢◌, eqb}
use Rattle.std.proofs.Common.{arith, sym, ◌∙◌, eq-eqb, ne_eqb, length-set}
use Rattle.std.proofs.Math.Decide.{ℕ_discrete}
use Rattle.std.proofs.Math.Bool.{cond}
use Rattle.lists.specs.Sums.{In, at}
use Rattle.lists.specs.SumLaws.{sum-change}
use Rattle.lists.specs.Places.{at_set, at_set_other}
use Rattle.meaning.specs.Plan.{Plan, Limits, Coloured}
use Rattle.meaning.specs.Joined.{Joined, labels}
use Rattle.meaning.specs.Kinds.{ncc, load, border}
use Rattle.meaning.specs.Moves.{recolour}
use Rattle.meaning.specs.Paths.{limits_ends}
use Rattle.meaning.proofs.Labels.{plan_labels}
use Rattle.meaning.specs.Faces.{lift, beside, pieces, area_to}
use Rattle.meaning.proofs.Put.{Put, put-recolour, put-own, label_else}
use Rattle.meaning.proofs.PutCounts.{ncc-put, ncc_else, beside_else}
use Rattle.meaning.proofs.Areas.{border-put}

module _ {P : Plan} {col : List ℕ} {v d : ℕ} (k : Coloured P col) (i : In P.R v) (j : In P.S d) where
  -- each region has a sector afterwards
  pub coloured-recolour : Coloured P (recolour col v d)
  coloured-recolour =
      record { size = length-set col (v - 1) d ∙ k.size; sector = λ u h. go u h (ℕ_discrete u v) }
    where
      go : (u : ℕ) → In P.R u → Dec (u ≡ v) → In P.S (at (recolour col v d) u)
      go u h (yes e) = rw (e, at_set col d k.size i) j
      go u h (no n) = rw (at_set_other col d k.size i h n) (k.sector u h)

  -- v's workload is taken from its old sector and added to the new
  load-change : (e : ℕ) → load P (recolour col v d) e + cond (eqb (at col v) e) (at P.workloads v) 0 ≡ load P col e + cond (eqb d e) (at P.workloads v) 0
  unfolding load
  load-change e =
      rw (at_set col d k.size i) at
      (sum-change P.R v (λ u. cond (eqb (at (recolour col v d) u) e) (at P.workloads u) 0) (λ u. cond (eqb (at col u) e) (at P.workloads u) 0) i
      (λ u h n. rw (at_set_other col d k.size i h n)))

  module _ (ne : d ≢ at col v) where
    -- the new sector's workload rises by that of v
    pub load_come : load P (recolour col v d) d ≡ load P col d + at P.workloads v
    load_come = omega (arith, rw (ne_eqb (at col v) d (λ e. ne (sym e)), eq-eqb d d refl) at (load-change d))

    -- the old sector's workload falls by that of v
    pub load_go : load P (recolour col v d) (at col v) + at P.workloads v ≡ load P col (at col v)
    load_go = omega (arith, rw (ne_eqb d (at col v) ne, eq-eqb (at col v) (at col v) refl) at (load-change (at col v)))

    -- every other sector's workload stays
    pub load_rest : (e : ℕ) → In P.S e → e ≢ d → e ≢ at col v → load P (recolour col v d) e ≡ load P col e
    load_rest e _ n m = omega (arith, rw (ne_eqb d e (λ z. n (sym z)), ne_eqb (at col v) e (λ z. m (sym z))) at (load-change e))

module _ {P : Plan} {col : List ℕ} {v d : ℕ} (l : Limits P) (k : Coloured P col) (i : In P.R v) (j : In P.S d) where
  -- v comes to sector d
  come : Put P.R (lift col v) (recolour col v d) v d
  come = put-recolour col k.size i (λ u h. (k.sector u h).low) j.low

  -- and goes from its own
  gone : Put P.R (lift col v) col v (at col v)
  gone = put-own col k.size i (λ u h. (k.sector u h).low)

  -- a region that is joined to v neither before nor afterwards keeps its label
  pub label_rest : {u : ℕ} → In P.R u → (Joined P.edges col u v → ⊥) → (Joined P.edges (recolour col v d) u v → ⊥) → at (labels P.edges (recolour col v d)) u ≡ at (labels P.edges col) u
  label_rest h before after =
      label_else (limits_ends P l) come (plan_labels l _ come.size0) (plan_labels l _ come.size1) h after
      ∙ sym (label_else (limits_ends P l) gone (plan_labels l _ gone.size0) (plan_labels l _ gone.size1) h before)

  -- the border gains v's edges to its old sector and loses those to the new
  pub border-recolour : border P (recolour col v d) + area_to P.edges (lift col v) v d ≡ border P col + area_to P.edges (lift col v) v (at col v)
  border-recolour = border-put l come ∙ sym (border-put l gone)

  module _ (ne : d ≢ at col v) where
    -- the new sector's components fall by those that share a face with v, less one
    pub ncc_come : ncc P (recolour col v d) d + beside P.edges col v d ≡ ncc P col d + 1
    ncc_come = omega (arith, ncc-put l come, ncc_else l gone d j.low ne, beside_else l gone d j.low ne)

    -- the old sector's components rise by the pieces that v's own falls into, less one
    pub ncc_go : ncc P (recolour col v d) (at col v) + 1 ≡ ncc P col (at col v) + pieces P.edges col v
    unfolding pieces
    ncc_go = omega (arith, ncc-put l gone, ncc_else l come (at col v) (k.sector v i).low (λ e. ne (sym e)))

    -- every other sector has as many components as before
    pub ncc_rest : (e : ℕ) → In P.S e → e ≢ d → e ≢ at col v → ncc P (recolour col v d) e ≡ ncc P col e
    ncc_rest e h n m = ncc_else l come e h.low n ∙ sym (ncc_else l gone e h.low m)
