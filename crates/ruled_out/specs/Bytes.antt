-- The bytes of sheet A.
-- Assumes nothing.
use Rattle.std.specs.Prelude.{ℕ, List}
use Rattle.form.specs.declared.Form.TheVariants.{First}
use Rattle.form.specs.Form.{sheet_of}
use Rattle.form.proofs.SheetA.{sheet_a}

-- sheet A's five blocks
abbrev pub bytes_a : List ℕ
bytes_a = sheet_of First sheet_a
