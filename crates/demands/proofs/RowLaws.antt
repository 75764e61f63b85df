-- The rows that a call leaves: row k is that of move k, on the colouring that the moves before it lead to; then what document 01 says of rows, one by one.
-- Assumes nothing.
use Rattle.std.specs.Prelude.{ℕ, suc, ◌+◌, ◌*◌, ◌<◌, ◌≡◌, ◌≢◌, ◌⊎◌, Bool, not, List, [], ◌∷◌, eqb, ℤ, ◌-ℤ◌, take}
use Rattle.std.proofs.Common.{arith, ◌∙◌, take_all}
use Rattle.std.proofs.Math.Path.{refl, sym, ap}
use Rattle.std.proofs.Math.Bool.{true, false}
use Rattle.std.proofs.Math.IntN.{pos}
use Rattle.lists.specs.Sums.{In, at}
use Rattle.lists.specs.Counts.{count_same}
use Rattle.terms.specs.Moves.{status}
use Rattle.terms.specs.declared.Move.{Move}
use Rattle.terms.specs.declared.Move.TheVariants.{Recolour, Exchange, Ask, Refused}
use Rattle.meaning.specs.Plan.{Plan}
use Rattle.meaning.specs.Joined.{labels}
use Rattle.meaning.specs.Kinds.{total, region_violation}
use Rattle.meaning.specs.Moves.{move_length, move_at, moves_of, recolour, swap, made, next, delta, differing, relabelled, row, last}
use Rattle.meaning.proofs.MoveLaws.{recolour-own, exchange-alike, made-total, not_made, row-still}
use Rattle.call.specs.Promise.{Input, Outcome, Promise, plan_in, ran}
use Rattle.turns.specs.Taken.{move_count}
use Rattle.demands.specs.MoveLists.{moves_next, row-at, last-append}
use Rattle.demands.specs.MoveNumbers.{is_made, asked, status_of}
use Rattle.demands.proofs.MoveNumberLaws.{asked-recolour, asked-exchange, made-numbers, accepted-asked, status-numbers}
use Rattle.demands.specs.Calls.{SamePlan, same_plan, call_valid, has_run, colouring-left}
use Rattle.demands.specs.Work.{work-labels}
use Rattle.demands.specs.Rows.{colouring_at, first_at, kind_at, labels_at, row_left, second_at, still, total_at}
use Rattle.std.proofs.Math.IntN.{+ℤ_invr}
use Rattle.std.proofs.Math.IntN.{+ℤ-neg_ℤ_cancel}

-- ---- the row of a move

module _ (P : Plan) (col : List ℕ) where
  -- that of a refused move
  pub row-refused : (m : Move) → status m ≢ 0 → row P col m ≡ still (pos (status m)) (pos 0) (total P col)
  unfolding delta next
  row-refused (Recolour make v c) ne = absurd (ne refl)
  row-refused (Exchange make a b) ne = absurd (ne refl)
  row-refused (Ask v) ne = absurd (ne refl)
  row-refused (Refused s) ne = row-still P col (Refused s) refl

  -- that of a recolouring, probed or made, that leaves the colouring as it is
  row-recolour : (make : Bool) (a c : ℕ) → recolour col a c ≡ col → row P col (Recolour make (record { 0 = a }) (record { 0 = c })) ≡ still (pos 0) (pos 0) (total P col)
  unfolding delta next
  row-recolour true a c e = row-still P col _ e ∙ rw (e, +ℤ_invr (pos (total P col)))
  row-recolour false a c e = row-still P col _ refl ∙ rw (e, +ℤ_invr (pos (total P col)))

  -- that of an exchange, probed or made, that leaves the colouring as it is
  row-exchange : (make : Bool) (a b : ℕ) → swap col a b ≡ col → row P col (Exchange make (record { 0 = a }) (record { 0 = b })) ≡ still (pos 0) (pos 0) (total P col)
  unfolding delta next
  row-exchange true a b e = row-still P col _ e ∙ rw (e, +ℤ_invr (pos (total P col)))
  row-exchange false a b e = row-still P col _ refl ∙ rw (e, +ℤ_invr (pos (total P col)))

-- lists that agree on 1..R differ in as many places
differing-same : (R : ℕ) (a b c d : List ℕ) → ((u : ℕ) → In R u → at a u ≡ at c u) → ((u : ℕ) → In R u → at b u ≡ at d u) → differing R a b ≡ differing R c d
unfolding differing
differing-same R a b c d f g = count_same R (λ u. not (eqb (at a u) (at b u))) (λ u. not (eqb (at c u) (at d u))) (λ u i. rw (f u i, g u i))

module _ {i : Input} {o : Outcome} (p : Promise i o) (z : o.answer.code ≡ 0) where
  module _ (k : ℕ) (h : k < move_count i.moves) where
    -- ---- row k and move k

    -- row k is the row of move k on the colouring that the moves before it lead to
    pub row_of_move : row_left o k ≡ row (plan_in i) (colouring_at i k) (move_at (plan_in i) i.moves k)
    unfolding ran colouring_at
    row_of_move = rw (has_run p z) (row-at (plan_in i) i.moves k h i.colouring _)

    -- the colouring after move k is the one that the move leads to
    pub colouring-next : colouring_at i (suc k) ≡ next (colouring_at i k) (move_at (plan_in i) i.moves k)
    unfolding colouring_at last
    colouring-next =
        let ms = moves_of (plan_in i) (take (move_length * k) i.moves) in
        rw (moves_next (plan_in i) i.moves k h) (last-append i.colouring ms (move_at (plan_in i) i.moves k ∷ []))

    -- a row's status goes by the move's three numbers: 21, 22 or 23, checked in that order, else 0
    pub row-status : (row_left o k).status ≡ pos (status_of i.R i.S (kind_at i k) (first_at i k) (second_at i k))
    unfolding row
    row-status = ap (λ r. r.status) row_of_move ∙ rw (status-numbers i.R i.S (kind_at i k) (first_at i k) (second_at i k))

    -- a row's total is that of the colouring after the move
    pub row-total : (row_left o k).total ≡ pos (total_at i (suc k))
    unfolding row
    row-total = ap (λ r. r.total) row_of_move ∙ rw colouring-next

    -- a row's count is the number of labels that differ before and after the move
    pub row-relabelled : (row_left o k).relabelled ≡ pos (differing i.R (labels_at i k) (labels_at i (suc k)))
    unfolding row relabelled
    row-relabelled = ap (λ r. r.relabelled) row_of_move ∙ rw colouring-next

    -- ---- what is made, and what is not

    -- a move is made exactly where its kind is 2 or 4 and its row's status is 0
    row_made : is_made (kind_at i k) (row_left o k).status ≡ made (move_at (plan_in i) i.moves k)
    unfolding row
    row_made = rw (ap (λ r. r.status) row_of_move) (made-numbers i.R i.S (kind_at i k) (first_at i k) (second_at i k))

    -- a made move's delta is the total after it minus the total before it
    pub made-delta : is_made (kind_at i k) (row_left o k).status ≡ true → (row_left o k).delta ≡ pos (total_at i (suc k)) -ℤ pos (total_at i k)
    unfolding row
    made-delta e =
        let m = move_at (plan_in i) i.moves k in
        ap (λ r. r.delta) row_of_move
        ∙ sym (+ℤ-neg_ℤ_cancel (delta (plan_in i) (colouring_at i k) m) (pos (total_at i k)))
        ∙ rw (colouring-next, made-total (plan_in i) (colouring_at i k) m (sym row_made ∙ e))

    module _ (e : is_made (kind_at i k) (row_left o k).status ≡ false) where
      -- a move that is not made leads nowhere
      unmade_next : next (colouring_at i k) (move_at (plan_in i) i.moves k) ≡ colouring_at i k
      unmade_next = not_made (colouring_at i k) (move_at (plan_in i) i.moves k) (sym row_made ∙ e)

      -- a move that is not made, as a probe or a question, leaves the colouring as it was
      pub unmade_colouring : colouring_at i (suc k) ≡ colouring_at i k
      unmade_colouring = colouring-next ∙ unmade_next

      -- the row of a move that is not made reports the current total, and no region relabelled
      pub unmade_row : row_left o k ≡ still (row_left o k).status (row_left o k).delta (total_at i k)
      unfolding row
      unmade_row =
          row_of_move
          ∙ row-still (plan_in i) (colouring_at i k) (move_at (plan_in i) i.moves k) unmade_next
          ∙ rw (ap (λ r. r.status) row_of_move, ap (λ r. r.delta) row_of_move)

    -- a refused move's row is its status, 0, the current total, 0
    pub refused-row : (row_left o k).status ≢ pos 0 → row_left o k ≡ still (row_left o k).status (pos 0) (total_at i k)
    unfolding row
    refused-row ne =
        let s = ap (λ r. r.status) row_of_move in
        row_of_move ∙ rw s (row-refused (plan_in i) (colouring_at i k) (move_at (plan_in i) i.moves k) (λ e. ne (s ∙ ap pos e)))

    -- ---- accepted moves

    module _ (e : (row_left o k).status ≡ pos 0) where
      -- an accepted move is what its three numbers ask for
      pub accepted_move : move_at (plan_in i) i.moves k ≡ asked (kind_at i k) (first_at i k) (second_at i k)
      unfolding row
      accepted_move =
          let s : pos (status (move_at (plan_in i) i.moves k)) ≡ pos 0 = sym (ap (λ r. r.status) row_of_move) ∙ e in
          accepted-asked i.R i.S (kind_at i k) (first_at i k) (second_at i k) (cc s)

      -- a question's delta is the region's violation
      pub question-row : kind_at i k ≡ 5 → row_left o k ≡ still (pos 0) (pos (region_violation (plan_in i) (colouring_at i k) (first_at i k))) (total_at i k)
      unfolding delta next
      question-row n = row_of_move ∙ rw (accepted_move, n) (row-still (plan_in i) (colouring_at i k) _ refl)

      module _ (n : (kind_at i k ≡ 1) ⊎ (kind_at i k ≡ 2)) where
        -- of kind 1 or 2 it is a recolouring
        recolours : move_at (plan_in i) i.moves k ≡ Recolour (eqb (kind_at i k) 2) (record { 0 = first_at i k }) (record { 0 = second_at i k })
        recolours = accepted_move ∙ asked-recolour n

        -- the delta of a recolouring, probed or made, is the total with the region in that sector minus the current total
        pub recolour-delta : (row_left o k).delta ≡ pos (total (plan_in i) (recolour (colouring_at i k) (first_at i k) (second_at i k))) -ℤ pos (total_at i k)
        unfolding row delta
        recolour-delta = ap (λ r. r.delta) row_of_move ∙ rw recolours

        -- a region given to the sector that it has: delta 0, count 0
        pub own-sector-row : second_at i k ≡ at (colouring_at i k) (first_at i k) → row_left o k ≡ still (pos 0) (pos 0) (total_at i k)
        own-sector-row s =
            let col = colouring_at i k in
            let a = first_at i k in
            row_of_move ∙ rw recolours (row-recolour (plan_in i) col (eqb (kind_at i k) 2) a (second_at i k) (ap (recolour col a) s ∙ recolour-own col a))

      module _ (n : (kind_at i k ≡ 3) ⊎ (kind_at i k ≡ 4)) where
        -- of kind 3 or 4 it is an exchange
        exchanges : move_at (plan_in i) i.moves k ≡ Exchange (eqb (kind_at i k) 4) (record { 0 = first_at i k }) (record { 0 = second_at i k })
        exchanges = accepted_move ∙ asked-exchange n

        -- the delta of an exchange, probed or made, is the total with the two sectors exchanged minus the current total
        pub exchange-delta : (row_left o k).delta ≡ pos (total (plan_in i) (swap (colouring_at i k) (first_at i k) (second_at i k))) -ℤ pos (total_at i k)
        unfolding row delta
        exchange-delta = ap (λ r. r.delta) row_of_move ∙ rw exchanges

        -- an exchange of two regions of one sector: delta 0, count 0
        pub one_sector-row : at (colouring_at i k) (first_at i k) ≡ at (colouring_at i k) (second_at i k) → row_left o k ≡ still (pos 0) (pos 0) (total_at i k)
        one_sector-row s =
            let col = colouring_at i k in
            let a = first_at i k in
            let b = second_at i k in
            row_of_move ∙ rw exchanges (row-exchange (plan_in i) col (eqb (kind_at i k) 4) a b (exchange-alike col a b s))

        -- an exchange of a region with itself: delta 0, count 0
        pub itself_row : first_at i k ≡ second_at i k → row_left o k ≡ still (pos 0) (pos 0) (total_at i k)
        itself_row s = one_sector-row (ap (at (colouring_at i k)) s)

  -- ---- from the first colouring to the last

  -- before the first move stands the colouring lent
  pub colouring_first_lem : colouring_at i 0 ≡ i.colouring
  unfolding colouring_at last moves_of
  colouring_first_lem = refl

  -- after the last move stands the colouring left
  pub colouring-last : colouring_at i (move_count i.moves) ≡ o.colouring
  unfolding colouring_at
  colouring-last =
      ap (λ xs. last i.colouring (moves_of (plan_in i) xs)) (take_all (move_length * move_count i.moves) i.moves (omega (arith, (call_valid p z).moves_whole)))
      ∙ sym (colouring-left p z)

  module _ {j : Input} {q : Outcome} (p₁ : Promise j q) (z₁ : q.answer.code ≡ 0) (s : SamePlan i j) where
    -- the colouring before move k is the one that a call with the moves before it leaves
    pub colouring_call : j.colouring ≡ i.colouring → (k : ℕ) → j.moves ≡ take (move_length * k) i.moves → q.colouring ≡ colouring_at i k
    unfolding colouring_at
    colouring_call start k m = colouring-left p₁ z₁ ∙ rw (start, m, same_plan s)

    module _ {j' : Input} {q' : Outcome} (p₂ : Promise j' q') (z₂ : q'.answer.code ≡ 0) (s' : SamePlan i j') where
      -- the count of row k is the number of labels that differ in the work memory that a call leaves with the colouring before move k and one with the colouring after it
      pub relabelled-work : (k : ℕ) → k < move_count i.moves → q.colouring ≡ colouring_at i k → q'.colouring ≡ colouring_at i (suc k)
          → (row_left o k).relabelled ≡ pos (differing i.R q.work q'.work)
      relabelled-work k h before after =
          row-relabelled k h
          ∙ ap pos (sym (differing-same i.R q.work q'.work (labels_at i k) (labels_at i (suc k))
          (λ u d. work-labels p₁ z₁ u (rw s.R at d) ∙ rw (before, s.edges))
          (λ u d. work-labels p₂ z₂ u (rw s'.R at d) ∙ rw (after, s'.edges))))
