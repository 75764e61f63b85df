-- The verdicts, as a loop over the constraints puts them down.
-- Assumes nothing.
use Rattle.std.specs.Prelude.{ℕ, suc, ◌+◌, ◌*◌, ◌≤◌, ◌≡◌, refl, List, [], ◌∷◌, ◌++◌, eqb, length, set, drop}
use Rattle.std.proofs.Common.{zero-add, add-one, arith, ◌∙◌, drop_of_length-le}
use Rattle.std.proofs.lemmas.List.Edits.{sets, sets-eq}
use Rattle.lists.specs.Sums.{bit}
use Rattle.meaning.specs.Moves.{verdict_length}
use Rattle.judge.specs.Figures.{judged}

-- a verdict takes two numbers
judged-length : (vs : List ℕ) → length (judged vs) ≡ verdict_length * length vs
judged-length [] = refl
judged-length (v ∷ vs) = omega (arith, judged-length vs)

-- out has the verdicts by the violations before place k: with the others stored from there on it has all of them, and then what out₀ has
pub record Judging (vs out₀ : List ℕ) (k : ℕ) (out : List ℕ) : Type 0 where
  pub rest : sets out (verdict_length * k) (judged (drop k vs)) ≡ judged vs ++ drop (verdict_length * length vs) out₀

module _ {vs out₀ : List ℕ} where
  -- before the first verdict out is out₀
  pub judging_start : verdict_length * length vs ≤ length out₀ → Judging vs out₀ 0 out₀
  judging_start h =
      record { rest = sets-eq (judged vs) out₀ 0 (omega (arith, judged-length vs)) ∙ rw (zero-add, judged-length vs) }

  module _ {out : List ℕ} {k : ℕ} (j : Judging vs out₀ k out) where
    -- the next verdict stored at its place
    pub judging_turn : {b w v : ℕ} → drop k vs ≡ v ∷ drop (suc k) vs → b ≡ bit (eqb w 0) → w ≡ v → Judging vs out₀ (k + 1) (set (set out (verdict_length * k) b) (verdict_length * k + 1) w)
    judging_turn next p q =
        let e : verdict_length * (k + 1) ≡ suc (suc (verdict_length * k)) = omega arith in
        record { rest = rw (e, add-one k, add-one (verdict_length * k), p, q) (rw next at j.rest) }

    -- past the last verdict all are stored
    pub judging_end : length vs ≤ k → out ≡ judged vs ++ drop (verdict_length * length vs) out₀
    judging_end h = rw (drop_of_length-le vs h) at j.rest
