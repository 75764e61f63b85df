-- A loop that adds the two sums of a block's bytes up; both fit in 32 bits.
-- Assumes nothing.
use Rattle.std.specs.Prelude.{ℕ, ◌+◌, ◌*◌, ◌%◌, ◌≤◌, ◌<◌, ◌≡◌, refl, List, [], ◌∷◌, length, get_or, drop}
use Rattle.std.proofs.Common.{add-one, arith, sym, ap, ◌∙◌, drop_of_length-le, drop-cons}
use Rattle.blocks.specs.Fletcher.{modulus, check, added, check-added}
use Rattle.blocks.specs.Block.{checked_length}

-- the most that a byte is
abbrev pub most_byte : ℕ
most_byte = 255

-- the most that the first sum of a block's bytes comes to
abbrev pub most_first : ℕ
most_first = most_byte * checked_length

-- a and b are the sums of the bytes before index i: gone on with over the others they are the sums of all
pub record Summing (bytes : List ℕ) (i a b : ℕ) : Type 0 where
  pub few : i ≤ length bytes
  pub first : a ≤ most_byte * i
  pub second : b ≤ most_first * i
  pub rest : added a b (drop i bytes) ≡ added 0 0 bytes

-- both are 0 before the first byte
pub summing_start : {bytes : List ℕ} → Summing bytes 0 0 0
summing_start = record { few = omega arith; first = omega arith; second = omega arith; rest = refl }

module _ {bytes : List ℕ} {i a b : ℕ} (s : Summing bytes i a b) where
  -- one byte more
  pub summing_turn : length bytes ≤ checked_length → i < length bytes → get_or bytes i 0 ≤ most_byte → Summing bytes (i + 1) (a + get_or bytes i 0) (b + (a + get_or bytes i 0))
  summing_turn short h byte =
      record {
        few = omega arith;
        first = omega (arith, s.first);
        second = omega (arith, s.first, s.second);
        rest = rw (add-one i) (ap (added a b) (sym (drop-cons bytes i 0 h)) ∙ s.rest);
      }

  -- past the last byte their remainders are the check
  pub summing_end : length bytes ≤ i → a % modulus ∷ b % modulus ∷ [] ≡ check bytes
  summing_end h =
      ap (λ (p : ℕ × ℕ). p.0 % modulus ∷ p.1 % modulus ∷ []) (ap (added a b) (sym (drop_of_length-le bytes h)) ∙ s.rest)
      ∙ sym (check-added bytes)
