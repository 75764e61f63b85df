-- What is held through a reader is what is held of its sheet.
-- Assumes nothing.
use Rattle.std.specs.Prelude.{ℕ, List}
use Rattle.std.specs.Borrow.{Bor}
use Rattle.refusals.specs.declared.Refusal.{Refusal}
use Rattle.form.specs.Form.{form_in}
use Rattle.holding.specs.Held.{Holds}
use Rattle.reader.specs.declared.Reader.{Reader}
use Rattle.reader.specs.Kept.{Keeps}

-- a reader keeps the lent sheet, wherever it stands
pub keeps_held : {lent : Bor (List ℕ)} {n : ℕ} {r : Reader} {f : Refusal} {held : List ℕ} → Keeps lent n r → Holds (form_in r.sheet.now) r.sheet.now f held → Holds (form_in lent.now) lent.now f held
keeps_held k h = rw k.sheet at h
