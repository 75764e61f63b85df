-- Probes and questions change nothing, and a probe's delta is the one that making it there and then gives.
-- Assumes nothing.
use Rattle.std.specs.Prelude.{ℕ, zero, suc, ◌≤◌, ◌<◌, ◌≡◌, ◌≢◌, false, List, []}
use Rattle.std.proofs.Common.{arith, sym, ◌∙◌, inl, inr}
use Rattle.std.proofs.Math.Decide.{ℕ_discrete}
use Rattle.std.proofs.Math.Path.{ap}
use Rattle.terms.specs.Moves.{move_of, status}
use Rattle.meaning.specs.Plan.{Plan}
use Rattle.meaning.specs.Moves.{moves_of, delta, row, last}
use Rattle.call.specs.Promise.{Input, Outcome, Promise, plan_in}
use Rattle.turns.specs.Taken.{move_count}
use Rattle.demands.specs.MoveNumbers.{is_made, asked, Probes}
use Rattle.demands.proofs.MoveNumberLaws.{kind_unmade, accepted-asked, status-numbers, probe_status}
use Rattle.demands.specs.Calls.{SamePlan, same_plan, verdicts_left, work_left, colouring-left, first_total, last-total}
use Rattle.demands.proofs.SumLaws.{same-verdicts, same-work}
use Rattle.demands.specs.Rows.{kind_at, first_at, second_at, colouring_at, row_left}
use Rattle.demands.proofs.RowLaws.{row-refused, row_of_move, row-status, unmade_colouring, colouring_first_lem, colouring-last}

-- ---- a call that makes no move

module _ {i : Input} {o : Outcome} (p : Promise i o) (z : o.answer.code ≡ 0) where
  -- a list of probes and questions, none of kind 2 or 4, makes no move
  pub unmade_kinds : ((k : ℕ) → k < move_count i.moves → (kind_at i k ≢ 2) × (kind_at i k ≢ 4))
      → (k : ℕ) → k < move_count i.moves → is_made (kind_at i k) (row_left o k).status ≡ false
  unmade_kinds n k h = kind_unmade (kind_at i k) (row_left o k).status (n k h).0 (n k h).1

  module _ (none : (k : ℕ) → k < move_count i.moves → is_made (kind_at i k) (row_left o k).status ≡ false) where
    -- up to each of its moves the colouring is the one lent
    unmade_before : (k : ℕ) → k ≤ move_count i.moves → colouring_at i k ≡ i.colouring
    unmade_before zero h = colouring_first_lem p z
    unmade_before (suc k) h = unmade_colouring p z k h (none k h) ∙ unmade_before k (omega arith)

    -- a call that makes no move leaves the colouring as it was
    pub unmade_all : o.colouring ≡ i.colouring
    unmade_all = sym (colouring-last p z) ∙ unmade_before (move_count i.moves) (omega arith)

    -- the last total of a call that makes no move is its first
    pub unmade_totals : o.answer.last ≡ o.answer.first
    unmade_totals = last-total p z ∙ rw (unmade_all, first_total p z)

    module _ {j : Input} {q : Outcome} (p₁ : Promise j q) (z₁ : q.answer.code ≡ 0) (s : SamePlan i j) (start : j.colouring ≡ i.colouring) (m : j.moves ≡ []) where
      -- both end on the colouring lent
      unmade_end : o.colouring ≡ q.colouring
      unfolding last moves_of
      unmade_end = unmade_all ∙ rw (colouring-left p₁ z₁, m, start)

      -- a call that makes no move leaves the verdicts that a call with no moves leaves
      pub unmade_verdicts : verdicts_left i o ≡ verdicts_left j q
      unmade_verdicts = same-verdicts p z p₁ z₁ s unmade_end

      -- a call that makes no move leaves the work memory that a call with no moves leaves
      pub unmade_work : work_left i o ≡ work_left j q
      unmade_work = same-work p z p₁ z₁ s unmade_end

-- ---- a probe and the move made

-- a probe's delta is that of making it
delta_probe : (P : Plan) (col : List ℕ) {kind kind' : ℕ} (a b : ℕ) → Probes kind kind' → delta P col (move_of P.R P.S kind a b) ≡ delta P col (move_of P.R P.S kind' a b)
unfolding delta row
delta_probe P col {kind} {kind'} a b e = go (ℕ_discrete (status (move_of P.R P.S kind a b)) 0)
  where
    same : status (move_of P.R P.S kind a b) ≡ status (move_of P.R P.S kind' a b)
    same = rw (status-numbers P.R P.S kind a b, status-numbers P.R P.S kind' a b, probe_status P.R P.S a b e)

    by_asked : Probes kind kind' → delta P col (asked kind a b) ≡ delta P col (asked kind' a b)
    by_asked (inl n) = rw (n.0, n.1)
    by_asked (inr n) = rw (n.0, n.1)

    go : Dec (status (move_of P.R P.S kind a b) ≡ 0) → delta P col (move_of P.R P.S kind a b) ≡ delta P col (move_of P.R P.S kind' a b)
    go (yes z) = rw (accepted-asked P.R P.S kind a b z, accepted-asked P.R P.S kind' a b (sym same ∙ z)) (by_asked e)
    go (no ne) =
        ap (λ r. r.delta) (row-refused P col (move_of P.R P.S kind a b) ne)
        ∙ sym (ap (λ r. r.delta) (row-refused P col (move_of P.R P.S kind' a b) (λ z. ne (same ∙ z))))

module _ {i j : Input} {o q : Outcome} (p : Promise i o) (z : o.answer.code ≡ 0) (p₁ : Promise j q) (z₁ : q.answer.code ≡ 0) (s : SamePlan i j)
    (k l : ℕ) (h : k < move_count i.moves) (h₁ : l < move_count j.moves) (on : colouring_at i k ≡ colouring_at j l)
    (kinds : Probes (kind_at i k) (kind_at j l)) (first : first_at i k ≡ first_at j l) (second : second_at i k ≡ second_at j l) where
  -- a probe, and the made move with the same two numbers on the same colouring, have one status
  pub probe_row-status : (row_left o k).status ≡ (row_left q l).status
  probe_row-status =
      row-status p z k h ∙ rw (row-status p₁ z₁ l h₁, first, second, s.R, s.S, probe_status j.R j.S (first_at j l) (second_at j l) kinds)

  -- a probe, and the made move with the same two numbers on the same colouring, have one delta
  pub probe_row-delta : (row_left o k).delta ≡ (row_left q l).delta
  unfolding row
  probe_row-delta =
      ap (λ r. r.delta) (row_of_move p z k h)
      ∙ rw (first, second, on, same_plan s, s.R, s.S, delta_probe (plan_in j) (colouring_at j l) (first_at j l) (second_at j l) kinds)
      (sym (ap (λ r. r.delta) (row_of_move p₁ z₁ l h₁)))
