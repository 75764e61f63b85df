-- What stands in the work memory that a call leaves: labels, component counts, workload sums and T.
-- Assumes nothing.
use Rattle.std.specs.Prelude.{ℕ, ◌+◌, ◌-◌, ◌*◌, ◌<◌, ◌≡◌, length}
use Rattle.std.proofs.Common.{arith, ◌∙◌, length-append, get_or-take, get_or-append-add}
use Rattle.std.proofs.Math.Path.{sym, ap}
use mathlib.Core.List.{List, [], ◌∷◌, ◌++◌, append_assoc}
use Rattle.std.proofs.Math.ListN.{get_or, get_or-append}
use Rattle.lists.specs.Sums.{In, at}
use Rattle.meaning.specs.Plan.{Plan}
use Rattle.meaning.specs.Joined.{labels}
use Rattle.meaning.specs.Kinds.{ncc, load, counts, loads, border}
use Rattle.meaning.specs.Moves.{work}
use Rattle.meaning.proofs.Labels.{plan_labels}
use Rattle.meaning.proofs.Components.{counts-length, counts-at, loads-length, loads-at}
use Rattle.call.specs.Promise.{Input, Outcome, Promise, plan_in}
use Rattle.demands.specs.Calls.{work_written, call_valid, coloured-left, work-left}

-- the label of each region, how many components and what workload each sector has, and T
pub record Numbers : Type 0 where
  pub label : ℕ → ℕ
  pub components : ℕ → ℕ
  pub workload : ℕ → ℕ
  pub border : ℕ

-- those of a colouring, by their definitions
abbrev pub numbers_of : Plan → List ℕ → Numbers
numbers_of P col = record { label = at (labels P.edges col); components = ncc P col; workload = load P col; border = border P col }

-- those that are read in the work memory that a call leaves: that of region u at place u - 1, those of sector c at places R + c - 1 and R + S + c - 1, and T behind them
abbrev pub numbers_in : Input → Outcome → Numbers
numbers_in i o =
    record {
      label = at o.work;
      components = λ c. get_or o.work (i.R + c - 1) 0;
      workload = λ c. get_or o.work (i.R + i.S + c - 1) 0;
      border = get_or o.work (i.R + 2 * i.S) 0;
    }

module _ {i : Input} {o : Outcome} (p : Promise i o) (z : o.answer.code ≡ 0) where
  -- its plan
  abbrev P : Plan
  P = plan_in i

  -- and the colouring that it leaves
  abbrev col : List ℕ
  col = o.colouring

  -- each region has a label
  labels_size : length (labels P.edges col) ≡ i.R
  labels_size =
      let size = (coloured-left p z).size in
      (plan_labels (call_valid p z).plan.limits col size).size ∙ size

  -- labels and component counts are R + S numbers
  front_size : length (labels P.edges col ++ counts P col) ≡ i.R + i.S
  front_size = omega (arith, length-append (labels P.edges col) (counts P col), labels_size, counts-length P col)

  -- all that is written, with workload sums and T behind these
  work-at : (n : ℕ) → n < work_written i → get_or o.work n 0 ≡ get_or ((labels P.edges col ++ counts P col) ++ (loads P col ++ (border P col ∷ []))) n 0
  unfolding work
  work-at n h =
      sym (get_or-take (work_written i) o.work n 0 h)
      ∙ ap (λ w. get_or w n 0) (work-left p z ∙ append_assoc (labels P.edges col ++ counts P col) (loads P col) (border P col ∷ []))

  -- labels and component counts stand at the front
  work-front : (n : ℕ) → n < i.R + i.S → get_or o.work n 0 ≡ get_or (labels P.edges col ++ counts P col) n 0
  work-front n h = work-at n (omega arith) ∙ get_or-append (labels P.edges col ++ counts P col) _ 0 n (omega (arith, front_size))

  -- workload sums and T stand behind them
  work_behind : (n : ℕ) → n < i.S + 1 → get_or o.work (i.R + i.S + n) 0 ≡ get_or (loads P col ++ (border P col ∷ [])) n 0
  work_behind n h =
      work-at (i.R + i.S + n) (omega arith)
      ∙ rw (← front_size) (get_or-append-add (labels P.edges col ++ counts P col) (loads P col ++ (border P col ∷ [])) n 0)

  -- the labels that a call leaves are those of the colouring that it leaves
  pub work-labels : (u : ℕ) → In i.R u → (numbers_in i o).label u ≡ (numbers_of P col).label u
  work-labels u h = work-front (u - 1) (omega arith) ∙ get_or-append (labels P.edges col) (counts P col) 0 (u - 1) (omega (arith, labels_size))

  -- and so are the component counts
  pub work-counts : (c : ℕ) → In i.S c → (numbers_in i o).components c ≡ (numbers_of P col).components c
  work-counts c h =
      let e : i.R + c - 1 ≡ length (labels P.edges col) + (c - 1) = omega (arith, labels_size) in
      work-front (i.R + c - 1) (omega arith)
      ∙ rw e (get_or-append-add (labels P.edges col) (counts P col) (c - 1) 0 ∙ counts-at P col c h)

  -- and the workload sums
  pub work-loads : (c : ℕ) → In i.S c → (numbers_in i o).workload c ≡ (numbers_of P col).workload c
  work-loads c h =
      let e : i.R + i.S + c - 1 ≡ i.R + i.S + (c - 1) = omega arith in
      rw e (work_behind (c - 1) (omega arith) ∙ get_or-append (loads P col) _ 0 (c - 1) (omega (arith, loads-length P col)) ∙ loads-at P col c h)

  -- and T
  pub work-border : (numbers_in i o).border ≡ (numbers_of P col).border
  work-border =
      let e : i.R + 2 * i.S ≡ i.R + i.S + i.S = omega arith in
      let f : i.S ≡ length (loads P col) + 0 = omega (arith, loads-length P col) in
      rw e (work_behind i.S (omega arith) ∙ ap (λ (k : ℕ). get_or (loads P col ++ (border P col ∷ [])) k 0) f ∙ get_or-append-add (loads P col) (border P col ∷ []) 0 0)
