-- A section of a sheet put down in its place, and all of them: what is held then is the sheet's contents.
-- Assumes nothing.
use Rattle.std.specs.Prelude.{ℕ, ◌+◌, ◌-◌, ◌≤◌, ◌≡◌, refl, List, [], ◌∷◌, length, replicate}
use Rattle.std.proofs.Common.{zero-add, arith, sym, ap, ◌∙◌}
use Rattle.std.proofs.lemmas.List.{length-replicate}
use borrow.Rule.Slice.PartMut.{mid_of, put_mid, mid_len}
use Rattle.packing.specs.Put.{put, put-none, part-put}
use Rattle.blocks.specs.Layout.{Layout, blocks_in, numbers_at, numbers_of, length-numbers}
use Rattle.form.specs.declared.Form.{Form}
use Rattle.form.specs.declared.Form.TheVariants.{First, Second}
use Rattle.form.specs.declared.Head.{Head}
use Rattle.form.specs.Form.{workload_layout, outside_layout, edge_layout, constraint_layout, colouring_layout, count_layout, visit_layout, layouts, turned, unstored, Contents, head_in, contents_of, contents_in}
use Rattle.form.specs.Firsts.{workload_first, outside_first, edge_first, constraint_first, colouring_first, count_first, visit_first, HasBlocks}
use Rattle.form.proofs.FormLaws.{bounded, length-turned}
use Rattle.form.proofs.ContentsLaws.{Counted, counted_in}
use Rattle.holding.specs.Held.{outside_at, edges_at, constraints_at, colouring_at, counts_at, visits_at, held_end, most_held, contents_held}
use Rattle.holding.specs.HeldLaws.{held_room}
use Rattle.packing.specs.Puts.{put-part, put-over, put_all, Standing, standing}

-- the lists of a head within the limits have room where the most numbers have it
room : {f : Form} {sheet : List ℕ} {h : Head} {n : ℕ} → HasBlocks f sheet h × (most_held ≤ n) → held_end h ≤ n
room {f} {h = h} p = held_room h (bounded f p.0.limits) p.1

-- ---- one kind

-- the numbers of a kind, from block n on, are put down at a place
put_from : (l : Layout) (sheet held : List ℕ) {held' : List ℕ} {first at : ℕ} (n to : ℕ) → first ≡ n → at ≡ to → held' ≡ put held at (numbers_at l first sheet) → held' ≡ put held to (numbers_at l n sheet)
put_from l sheet held n to i j r = rw (← i, ← j) r

module _ {f : Form} {sheet : List ℕ} {h : Head} (held : List ℕ) (p : HasBlocks f sheet h × (most_held ≤ length held)) {at end : ℕ} where
  -- outside areas that were put down over zeros; where the form stores none, the zeros stay
  pub outside_read : {zeros held' : List ℕ} → at ≡ outside_at h → end ≡ edges_at h → zeros ≡ replicate (length (mid_of at (end - at) held)) 0
      → held' ≡ put (put_mid at (end - at) held zeros) (outside_at h) (numbers_at (outside_layout f h) (outside_first f h) sheet)
      → held' ≡ put held (outside_at h) (unstored f h.regions (numbers_at (outside_layout f h) (outside_first f h) sheet))
  outside_read {zeros} i j z r = r ∙ rw (put-part at end held zeros (omega arith) size, i) (over f)
    where
      R : end - at ≡ h.regions
      R = omega arith

      is : zeros ≡ replicate h.regions 0
      is = z ∙ ap (λ (k : ℕ). replicate k 0) (mid_len at end held (omega (arith, room p)) ∙ R)

      size : length zeros ≡ end - at
      size = rw is (length-replicate {A = ℕ} h.regions 0 ∙ sym R)

      over : (f : Form) → put (put held (outside_at h) zeros) (outside_at h) (numbers_at (outside_layout f h) (outside_first f h) sheet) ≡ put held (outside_at h) (unstored f h.regions (numbers_at (outside_layout f h) (outside_first f h) sheet))
      over First = put-none (put held (outside_at h) zeros) (outside_at h) ∙ rw is
      over Second =
          put-over held (outside_at h) zeros (numbers_at (outside_layout Second h) (outside_first Second h) sheet) (omega (arith, size, room p)) (length-numbers (outside_layout Second h) (outside_first Second h) sheet ∙ omega (arith, size))

  -- constraints that were put down, and turned there
  pub constraints_read : {held' last : List ℕ} → at ≡ constraints_at h → end ≡ colouring_at h → held' ≡ put held (constraints_at h) (numbers_at (constraint_layout h) (constraint_first f h) sheet)
      → last ≡ turned (mid_of at (end - at) held') → put_mid at (end - at) held' last ≡ put held (constraints_at h) (turned (numbers_at (constraint_layout h) (constraint_first f h) sheet))
  constraints_read {held'} {last} i j r t =
      let xs = numbers_at (constraint_layout h) (constraint_first f h) sheet in
      let e : end ≡ at + length xs = omega (arith, length-numbers (constraint_layout h) (constraint_first f h) sheet) in
      let q : held' ≡ put held at xs = rw i r in
      let m : last ≡ turned xs = t ∙ ap turned (rw (q, e) (part-put held at xs (omega (arith, room p)))) in
      let k : length last ≡ length xs = rw m (length-turned xs) in
      put-part at end held' last (omega arith) (omega arith) ∙ rw (q, put-over held at xs last (omega (arith, room p)) k, m, i)

-- ---- all sections

-- the workloads start after the head, which has one block
pub one_head : (f : Form) → 1 ≡ workload_first f
one_head First = refl
one_head Second = refl

-- the lists of contents, put down one after the other, are held
contents-held : {h : Head} {k : Contents} {w o e t s n v : List ℕ} (d : List ℕ) → Counted h k → held_end h ≤ length d
    → w ≡ put d 0 k.workloads → o ≡ put w (outside_at h) k.outside → e ≡ put o (edges_at h) k.edges → t ≡ put e (constraints_at h) k.constraints
    → s ≡ put t (colouring_at h) k.colouring → n ≡ put s (counts_at h) k.counts → v ≡ put n (visits_at h) k.visits
    → contents_held h v ≡ k
unfolding put_all
contents-held {h} {k} {v = v} d c r w o e t s n i =
    let xss = k.workloads ∷ k.outside ∷ k.edges ∷ k.constraints ∷ k.colouring ∷ k.counts ∷ k.visits ∷ [] in
    let all : v ≡ put_all d 0 xss = rw (i, n, s, t, e, o, w) (simp (zero-add, c.workloads, c.outside, c.edges, c.constraints, c.colouring, c.counts)) in
    let stand : Standing v 0 xss = rw all (standing d 0 xss (omega (arith, c.workloads, c.outside, c.edges, c.constraints, c.colouring, c.counts, c.visits))) in
    let p = simp (zero-add, c.workloads, c.outside, c.edges, c.constraints, c.colouring, c.counts, c.visits) at stand in
    rw (p.0, p.1.0, p.1.1.0, p.1.1.1.0, p.1.1.1.1.0, p.1.1.1.1.1.0, p.1.1.1.1.1.1.0, ← c.regions, ← c.sectors)

-- the sections of a sheet, put down one after the other, are its contents
pub lists_held : {f : Form} {sheet : List ℕ} {h : Head} {w o e t s n v : List ℕ} (d : List ℕ) → h ≡ head_in f sheet → HasBlocks f sheet h × (most_held ≤ length d)
    → w ≡ put d 0 (numbers_at (workload_layout h) (workload_first f) sheet)
    → o ≡ put w (outside_at h) (unstored f h.regions (numbers_at (outside_layout f h) (outside_first f h) sheet))
    → e ≡ put o (edges_at h) (numbers_at (edge_layout h) (edge_first f h) sheet)
    → t ≡ put e (constraints_at h) (turned (numbers_at (constraint_layout h) (constraint_first f h) sheet))
    → s ≡ put t (colouring_at h) (numbers_at (colouring_layout h) (colouring_first f h) sheet)
    → n ≡ put s (counts_at h) (numbers_at (count_layout h) (count_first f h) sheet)
    → v ≡ put n (visits_at h) (numbers_at (visit_layout h) (visit_first f h) sheet)
    → contents_held h v ≡ contents_in f sheet
unfolding contents_in contents_of layouts
lists_held {f} {sheet} {h} d g p w o e t s n v =
    let k = contents_of f h (numbers_of (layouts f h) sheet) in
    let c : Counted h k = rw g (counted_in f sheet) in
    contents-held {k = k} d c (room p) w o e t s n v ∙ rw g

-- each kind's numbers, put down from the block after the kind before it
pub lists_read : {f : Form} {sheet : List ℕ} {h : Head} (d : List ℕ) {w z o e t u s n v : List ℕ} {n1 n2 n3 n4 n5 n6 a1 a2 a3 a4 a5 a6 : ℕ} → h ≡ head_in f sheet → HasBlocks f sheet h × (most_held ≤ length d)
    → n1 ≡ 1 + blocks_in (workload_layout h) → n2 ≡ n1 + blocks_in (outside_layout f h) → n3 ≡ n2 + blocks_in (edge_layout h) → n4 ≡ n3 + blocks_in (constraint_layout h)
    → n5 ≡ n4 + blocks_in (colouring_layout h) → n6 ≡ n5 + blocks_in (count_layout h)
    → a1 ≡ outside_at h → a2 ≡ edges_at h → a3 ≡ constraints_at h → a4 ≡ colouring_at h → a5 ≡ counts_at h → a6 ≡ visits_at h
    → length w ≡ length d → length e ≡ length d
    → w ≡ put d 0 (numbers_at (workload_layout h) 1 sheet)
    → z ≡ replicate (length (mid_of a1 (a2 - a1) w)) 0
    → o ≡ put (put_mid a1 (a2 - a1) w z) a1 (numbers_at (outside_layout f h) n1 sheet)
    → e ≡ put o a2 (numbers_at (edge_layout h) n2 sheet)
    → t ≡ put e a3 (numbers_at (constraint_layout h) n3 sheet)
    → u ≡ turned (mid_of a3 (a4 - a3) t)
    → s ≡ put (put_mid a3 (a4 - a3) t u) a4 (numbers_at (colouring_layout h) n4 sheet)
    → n ≡ put s a5 (numbers_at (count_layout h) n5 sheet)
    → v ≡ put n a6 (numbers_at (visit_layout h) n6 sheet)
    → contents_held h v ≡ contents_in f sheet
lists_read {f} {sheet} {h} d {w} {z} {o} {e} {t} {u} {s} {n} {n1 = n1} {n2} {n3} {n4} {n5} {n6} {a1} {a2} {a3} {a4} i p b1 b2 b3 b4 b5 b6 j1 j2 j3 j4 j5 j6 lw le pw pz po pe pt pu ps pn pv =
    let k1 : n1 ≡ outside_first f h = omega (arith, one_head f) in
    let k2 : n2 ≡ edge_first f h = omega arith in
    let k3 : n3 ≡ constraint_first f h = omega arith in
    let k4 : n4 ≡ colouring_first f h = omega arith in
    let k5 : n5 ≡ count_first f h = omega arith in
    let k6 : n6 ≡ visit_first f h = omega arith in
    lists_held d i p (put_from (workload_layout h) sheet d (workload_first f) 0 (one_head f) refl pw)
    (outside_read w (p.0, omega (arith, p.1)) j1 j2 pz (put_from (outside_layout f h) sheet (put_mid a1 (a2 - a1) w z) (outside_first f h) (outside_at h) k1 j1 po))
    (put_from (edge_layout h) sheet o (edge_first f h) (edges_at h) k2 j2 pe)
    (constraints_read e (p.0, omega (arith, p.1)) j3 j4 (put_from (constraint_layout h) sheet e (constraint_first f h) (constraints_at h) k3 j3 pt) pu)
    (put_from (colouring_layout h) sheet (put_mid a3 (a4 - a3) t u) (colouring_first f h) (colouring_at h) k4 j4 ps)
    (put_from (count_layout h) sheet s (count_first f h) (counts_at h) k5 j5 pn)
    (put_from (visit_layout h) sheet n (visit_first f h) (visits_at h) k6 j6 pv)
