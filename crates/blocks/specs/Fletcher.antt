-- Document 01, "The sheet": Fletcher's two sums over bytes, and that their remainders may be taken once, at the end.
-- Assumes nothing.
use Rattle.std.specs.Prelude.{ℕ, ◌+◌, ◌%◌, ◌≡◌, refl, List, [], ◌∷◌}
use Rattle.std.proofs.Math.Nat.{mod-add-mod, add-mod}
use Rattle.std.proofs.Common.{sym, ap}

-- both sums are taken modulo 255
abbrev pub modulus : ℕ
modulus = 255

-- the sums a and b, gone on with over bytes: for each, first sum plus byte, then second sum plus first sum
abbrev pub sums : ℕ → ℕ → List ℕ → ℕ × ℕ
sums a b [] = (a, b)
sums a b (x ∷ xs) = sums ((a + x) % modulus) ((b + (a + x) % modulus) % modulus) xs

-- the two sums, which start at 0, as the two bytes that end a block
abbrev pub check : List ℕ → List ℕ
check bytes = (sums 0 0 bytes).0 ∷ (sums 0 0 bytes).1 ∷ []

-- ---- all bytes first, the remainders last

-- the sums a and b, gone on with over bytes in the same way, with no remainder taken
abbrev pub added : ℕ → ℕ → List ℕ → ℕ × ℕ
added a b [] = (a, b)
added a b (x ∷ xs) = added (a + x) (b + (a + x)) xs

-- both orders give the same two sums
pub sums-added : (a b : ℕ) (bytes : List ℕ) → sums (a % modulus) (b % modulus) bytes ≡ ((added a b bytes).0 % modulus, (added a b bytes).1 % modulus)
sums-added a b [] = refl
sums-added a b (x ∷ xs) =
    rw (mod-add-mod a modulus x) (rw (sym (add-mod b (a + x) modulus)) (sums-added (a + x) (b + (a + x)) xs))

-- and so the same check
pub check-added : (bytes : List ℕ) → check bytes ≡ (added 0 0 bytes).0 % modulus ∷ (added 0 0 bytes).1 % modulus ∷ []
check-added bytes = ap (λ (p : ℕ × ℕ). p.0 ∷ p.1 ∷ []) (sums-added 0 0 bytes)
