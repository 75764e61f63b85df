-- Numbers put down in front of others, by a loop that does one a turn.
-- Assumes nothing.
use Rattle.std.specs.Prelude.{ℕ, ◌+◌, ◌≤◌, ◌<◌, ◌≡◌, refl, List, ◌++◌, length, get_or, set, drop}
use Rattle.std.proofs.Common.{zero-add, add-one, arith, ◌∙◌, length-set, drop_of_length-le, drop-cons}
use Rattle.std.proofs.lemmas.List.Edits.{sets, sets-eq}

-- the numbers before index i are put down: with the others put down from there on, all are, and then comes what out₀ has
pub record Copied (from out₀ : List ℕ) (i : ℕ) (out : List ℕ) : Type 0 where
  pub size : length out ≡ length out₀
  pub rest : sets out i (drop i from) ≡ from ++ drop (length from) out₀

module _ {from out₀ : List ℕ} where
  -- before the first number out is out₀
  pub copied_start : length from ≤ length out₀ → Copied from out₀ 0 out₀
  copied_start h = record { size = refl; rest = sets-eq from out₀ 0 (omega arith) ∙ rw (zero-add (length from)) }

  module _ {out : List ℕ} {i : ℕ} (k : Copied from out₀ i out) where
    -- the next number is put down
    pub copied_turn : i < length from → Copied from out₀ (i + 1) (set out i (get_or from i 0))
    copied_turn h =
        record { size = length-set out i (get_or from i 0) ∙ k.size; rest = rw (add-one i) (rw (drop-cons from i 0 h) at k.rest) }

    -- past the last number all are put down
    pub copied_end : length from ≤ i → out ≡ from ++ drop (length from) out₀
    copied_end h = rw (drop_of_length-le from h) at k.rest
