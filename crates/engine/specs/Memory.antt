-- The front of the work memory, as it is read and written: the labels of R regions, the component counts of S sectors and their workload sums. What the sectors pay stands beside it.
-- Assumes nothing.
use Rattle.std.specs.Prelude.{ℕ, ◌+◌, ◌-◌, ◌*◌, ◌≤◌, ◌<◌, ◌≡◌, length, get_or, set, take, drop}
use Rattle.std.proofs.Common.{zero-add, suc-add, arith, sym, ◌∙◌, length-append, length-set, length-drop, take-append-drop, get_or-append-add, drop-drop, take_at, drop_at}
use Rattle.std.proofs.Math.Path.{ap}
use mathlib.Core.List.{List, [], ◌∷◌, ◌++◌, append_assoc}
use Rattle.std.proofs.Math.ListN.{get_or-append}
use Rattle.std.proofs.lemmas.List.{set-append_left}
use Rattle.lists.specs.Sums.{In, at}
use Rattle.meaning.specs.Plan.{Plan, Limits, Coloured}
use Rattle.meaning.specs.Joined.{labels}
use Rattle.meaning.specs.Kinds.{counts, loads}
use Rattle.meaning.proofs.Labels.{plan_labels}
use Rattle.meaning.proofs.Components.{counts-length, counts-at, loads-length, loads-at}
use Rattle.meaning.specs.Prices.{prices}
use Rattle.meaning.proofs.PriceLaws.{prices-length, prices-at}
use Rattle.change.specs.declared.Pair.{Pair}
use Rattle.change.specs.declared.Sides.{Sides}
use Rattle.change.specs.Changed.{pair_of, sides_of}
use Rattle.engine.specs.State.{memory, memory_length}

-- the index of sector c's component count; that of its workload sum is S further
abbrev pub count_at : ℕ → ℕ → ℕ
count_at R c = R + c - 1

-- there is room for the front and for a price of each sector, and the two sectors are of 1..S
pub record Placed (w ps : List ℕ) (R S own d : ℕ) : Type 0 where
  pub room : R + 2 * S ≤ length w
  pub prices : S ≤ length ps
  pub old : In S own
  pub new : In S d

-- the numbers at two indices
abbrev pub pair_in : List ℕ → ℕ → ℕ → Pair
pair_in w i j = record { old = get_or w i 0; new = get_or w j 0 }

-- the components, the workloads and the prices of two sectors
abbrev pub sides_in : List ℕ → List ℕ → ℕ → ℕ → ℕ → ℕ → Sides
sides_in w ps R S own d =
    record { components = pair_in w (count_at R own) (count_at R d); workloads = pair_in w (count_at R own + S) (count_at R d + S); prices = pair_in ps (own - 1) (d - 1) }

-- two numbers put down
abbrev pub pair_put : List ℕ → ℕ → ℕ → Pair → List ℕ
pair_put w i j p = set (set w i p.old) j p.new

-- the components and the workloads of two sectors put down
abbrev pub sides_put : List ℕ → ℕ → ℕ → ℕ → ℕ → Sides → List ℕ
sides_put w R S own d s =
    pair_put (pair_put w (count_at R own) (count_at R d) s.components) (count_at R own + S) (count_at R d + S) s.workloads

-- ---- three lists in a row

-- a number set behind a list
set_behind : (xs ys : List ℕ) (i x : ℕ) → set (xs ++ ys) (length xs + i) x ≡ xs ++ set ys i x
set_behind [] ys i x = rw (zero-add i)
set_behind (y ∷ xs) ys i x = rw (suc-add (length xs) i, set_behind xs ys i x)

module _ (a b r : List ℕ) {i n : ℕ} (e : n ≡ length a + i) (h : i < length b) where
  -- a number of the second is read
  second_at : get_or (a ++ b ++ r) n 0 ≡ get_or b i 0
  second_at = rw (append_assoc a b r, e) (get_or-append-add a (b ++ r) i 0 ∙ get_or-append b r 0 i h)

  -- a number of the second is set
  second_set : (x : ℕ) → set (a ++ b ++ r) n x ≡ a ++ set b i x ++ r
  second_set x = rw (append_assoc a b r, e, set_behind a (b ++ r) i x, set-append_left b r i x h, ← append_assoc a (set b i x) r)

-- two numbers of the second are set
second_put_lem : (a b r : List ℕ) (i j : ℕ) {n m : ℕ} (p : Pair) → n ≡ length a + i → m ≡ length a + j → i < length b → j < length b → pair_put (a ++ b ++ r) n m p ≡ a ++ pair_put b i j p ++ r
second_put_lem a b r i j p e f h k =
    rw (second_set a b r e h p.old)
    (second_set a (set b i p.old) r f (rw (length-set b i p.old) k) p.new)

module _ {R S : ℕ} (ls cs : List ℕ) (hl : length ls ≡ R) (hc : length cs ≡ S) where
  -- the first two are R + S long
  pub both_length : length (ls ++ cs) ≡ R + S
  both_length = length-append ls cs ∙ omega arith

-- all three are as long as the front of the work memory
front_length : {R S : ℕ} (ls cs xs : List ℕ) → length ls ≡ R → length cs ≡ S → length xs ≡ S → length (ls ++ cs ++ xs) ≡ R + 2 * S
front_length ls cs xs hl hc hx = length-append (ls ++ cs) xs ∙ omega (arith, both_length ls cs hl hc)

module _ {R S : ℕ} (ls cs xs r : List ℕ) (hl : length ls ≡ R) (hc : length cs ≡ S) (hx : length xs ≡ S) where
  module _ {c : ℕ} (i : In S c) where
    -- the component count of sector c
    count_in : get_or (ls ++ cs ++ xs ++ r) (count_at R c) 0 ≡ at cs c
    count_in = rw (append_assoc (ls ++ cs) xs r) (second_at ls cs (xs ++ r) (omega arith) (omega arith))

    -- its workload sum
    load_in : get_or (ls ++ cs ++ xs ++ r) (count_at R c + S) 0 ≡ at xs c
    load_in = second_at (ls ++ cs) xs r (omega (arith, both_length ls cs hl hc)) (omega arith)

  module _ {own d : ℕ} (i : In S own) (j : In S d) where
    -- what two sectors have is read
    sides_in_lem : (ps : List ℕ) → sides_in (ls ++ cs ++ xs ++ r) ps R S own d ≡ record { components = pair_of (at cs) own d; workloads = pair_of (at xs) own d; prices = pair_of (at ps) own d }
    sides_in_lem ps = rw (count_in i, count_in j, load_in i, load_in j)

    -- what two sectors have is put down
    pub sides-put : (s : Sides) → sides_put (ls ++ cs ++ xs ++ r) R S own d s ≡ ls ++ pair_put cs (own - 1) (d - 1) s.components ++ pair_put xs (own - 1) (d - 1) s.workloads ++ r
    sides-put s =
        let cs' = pair_put cs (own - 1) (d - 1) s.components in
        let long : length cs' ≡ S = simp length-set hc in
        rw (append_assoc (ls ++ cs) xs r, second_put_lem ls cs (xs ++ r) (own - 1) (d - 1) {n = count_at R own} {m = count_at R d} s.components (omega arith) (omega arith) (omega arith) (omega arith), ← append_assoc (ls ++ cs') xs r)
        (second_put_lem (ls ++ cs') xs r (own - 1) (d - 1) s.workloads (omega (arith, length-append ls cs')) (omega (arith, length-append ls cs')) (omega arith) (omega arith))

-- ---- the front of the work memory of a plan

-- where the prices are those of a colouring, there is one of each sector
pub plan_placed : (P : Plan) (col : List ℕ) {w ps : List ℕ} {own d : ℕ} → memory_length P ≤ length w → ps ≡ prices P col → In P.S own → In P.S d → Placed w ps P.R P.S own d
plan_placed P col room paid old new =
    record { room = room; prices = omega (arith, ap length paid ∙ prices-length P col); old = old; new = new }

-- the plan is within its limits, each region has a sector, and the work memory starts with what is kept of the colouring
pub record Kept (P : Plan) (col w : List ℕ) : Type 0 where
  pub limits : Limits P
  pub coloured : Coloured P col
  pub room : memory_length P ≤ length w
  pub work : take (memory_length P) w ≡ memory P col

module _ {P : Plan} {col : List ℕ} (l : Limits P) (k : Coloured P col) where
  -- there is a label for each region
  pub labels_length : length (labels P.edges col) ≡ P.R
  labels_length = (plan_labels l col k.size).size ∙ k.size

  -- the front is as long as it is said to be
  memory-length : length (memory P col) ≡ memory_length P
  unfolding memory
  memory-length = front_length (labels P.edges col) (counts P col) (loads P col) labels_length (counts-length P col) (loads-length P col)

  module _ (w : List ℕ) {w' : List ℕ} (e : w' ≡ memory P col ++ drop (memory_length P) w) where
    -- the front is that of the colouring
    pub memory_kept : memory_length P ≤ length w → Kept P col w'
    memory_kept room =
        record {
          limits = l;
          coloured = k;
          room = rw e (omega (arith, length-append (memory P col) (drop (memory_length P) w), length-drop (memory_length P) w, memory-length));
          work = ap (take (memory_length P)) e ∙ take_at (memory P col) _ (memory_length P) memory-length;
        }

module _ {P : Plan} {col w : List ℕ} (k : Kept P col w) where
  -- the front, and what lies beyond
  pub kept-front : w ≡ memory P col ++ drop (memory_length P) w
  kept-front = sym (take-append-drop (memory_length P) w) ∙ ap (λ (m : List ℕ). m ++ drop (memory_length P) w) k.work

  -- the labels stand first
  apart : w ≡ labels P.edges col ++ (counts P col ++ (loads P col ++ drop (memory_length P) w))
  unfolding memory
  apart = kept-front ∙ append_assoc (labels P.edges col ++ counts P col) (loads P col) _ ∙ append_assoc (labels P.edges col) (counts P col) _

  -- they are read
  pub kept-labels : take P.R w ≡ labels P.edges col
  kept-labels = ap (take P.R) apart ∙ take_at (labels P.edges col) _ P.R (labels_length k.limits k.coloured)

  -- behind them stand the others
  behind : drop P.R w ≡ counts P col ++ (loads P col ++ drop (memory_length P) w)
  behind = ap (drop P.R) apart ∙ drop_at (labels P.edges col) _ P.R (labels_length k.limits k.coloured)

  -- the component counts are read
  pub kept-counts : take P.S (drop P.R w) ≡ counts P col
  kept-counts = ap (take P.S) behind ∙ take_at (counts P col) _ P.S (counts-length P col)

  -- the workload sums are read
  pub kept-loads : take P.S (drop (P.R + P.S) w) ≡ loads P col
  kept-loads =
      ap (take P.S) (sym (drop-drop P.S P.R w) ∙ ap (drop P.S) behind ∙ drop_at (counts P col) _ P.S (counts-length P col))
      ∙ take_at (loads P col) _ P.S (loads-length P col)

  module _ {own d : ℕ} (i : In P.S own) (j : In P.S d) where
    -- the components and the workloads of two sectors are read, and what they pay
    pub kept-sides : {ps : List ℕ} → ps ≡ prices P col → sides_in w ps P.R P.S own d ≡ sides_of P col own d
    unfolding memory
    kept-sides {ps} paid =
        ap (λ (m : List ℕ). sides_in m ps P.R P.S own d) kept-front
        ∙ sides_in_lem (labels P.edges col) (counts P col) (loads P col) (drop (memory_length P) w) (labels_length k.limits k.coloured) (counts-length P col) (loads-length P col) i j ps
        ∙ rw (paid, counts-at P col own i, counts-at P col d j, loads-at P col own i, loads-at P col d j, prices-at P col own i, prices-at P col d j)

  module _ (ls : List ℕ) (h : length ls ≡ P.R) where
    -- other labels are put down: the others stand behind them
    relabelled_apart : ls ++ drop P.R w ≡ ls ++ counts P col ++ loads P col ++ drop (memory_length P) w
    relabelled_apart = ap (λ (m : List ℕ). ls ++ m) behind ∙ sym (append_assoc (ls ++ counts P col) (loads P col) _ ∙ append_assoc ls (counts P col) _)

    -- they are as many as before
    front : length (ls ++ counts P col ++ loads P col) ≡ memory_length P
    front = front_length ls (counts P col) (loads P col) h (counts-length P col) (loads-length P col)

    -- there is as much room as before
    pub relabelled_room : memory_length P ≤ length (ls ++ drop P.R w)
    relabelled_room = omega (arith, length-append ls (drop P.R w), length-drop P.R w, k.room)

    -- the front has the other labels
    pub relabelled-front : take (memory_length P) (ls ++ drop P.R w) ≡ ls ++ counts P col ++ loads P col
    relabelled-front = ap (take (memory_length P)) relabelled_apart ∙ take_at (ls ++ counts P col ++ loads P col) _ (memory_length P) front

    -- what lies beyond is as it was
    pub relabelled-beyond : drop (memory_length P) (ls ++ drop P.R w) ≡ drop (memory_length P) w
    relabelled-beyond = ap (drop (memory_length P)) relabelled_apart ∙ drop_at (ls ++ counts P col ++ loads P col) _ (memory_length P) front
