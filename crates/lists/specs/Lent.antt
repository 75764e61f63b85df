-- A lent list, as a proof by hand has it: the machine value of its slice, and what is owned of it by one who reads it, or who writes it.
-- Assumes nothing.
use Rattle.std.specs.Prelude.{ℕ, List, [], ◌∷◌, length}
use mir.Syntax.{named}
use mir.Val.{Val}
use base.Fml.{Lft, Fml}
use Rattle.std.specs.Borrow.{RattleType, Bor, MutBor}
use denote.Slice.{slice_val, ShrSlice, MutSlice}

abbrev pub slice : {A : Type 0} → Bor (List A) → Val
slice x = slice_val x.ref_ptr (length x.now)

-- lifetime n of the signature is κ
abbrev pub Reads : ℕ → Lft → (T : RattleType) → Bor (List T.Denot) → Fml
Reads n κ T x = (ShrSlice (named n) κ T).own_val x (slice x ∷ [])

abbrev pub Writes : ℕ → Lft → (T : RattleType) → MutBor (List T.Denot) → Fml
Writes n κ T x = (MutSlice (named n) κ T).own_val x (slice_val x.ref_ptr (length x.now) ∷ [])
