-- Document 01, "The sheet": a reader keeps the lent sheet and its place in it.
-- Assumes nothing.
use Rattle.std.specs.Prelude.{ℕ, ◌≡◌, List}
use Rattle.std.proofs.Common.{sym, ◌∙◌}
use Rattle.std.specs.Borrow.{Bor}
use Rattle.sheet.specs.Showing as Showing
use Rattle.reader.specs.declared.Reader.{Reader}

-- a reader of a lent sheet at a place
abbrev pub reader_at : Bor (List ℕ) → ℕ → Reader
reader_at lent n = record { sheet = lent; place = n }

-- what a call that hands back a reader promises: it keeps the lent sheet itself, not a copy of it, and stands at place n
pub record Keeps (lent : Bor (List ℕ)) (n : ℕ) (r : Reader) : Type 0 where
  pub sheet : r.sheet ≡ lent
  pub place : r.place ≡ n

-- a reader that meets the promise is that reader
pub is_reader : {lent : Bor (List ℕ)} {n : ℕ} {r : Reader} → Keeps lent n r → r ≡ reader_at lent n
is_reader k = rw (← k.sheet, ← k.place)

-- so the promise leaves one reader: its bytes and its place are determined
pub unique : {lent : Bor (List ℕ)} {n : ℕ} {r r' : Reader} → Keeps lent n r → Keeps lent n r' → r ≡ r'
unique k k' = is_reader k ∙ sym (is_reader k')

-- a promise of one equation, as those on the place and on the end, leaves one answer
pub unique_answer : {A : Type 0} {x a a' : A} → a ≡ x → a' ≡ x → a ≡ a'
unique_answer e e' = e ∙ sym e'

-- ---- what a reader gives is what its sheet gives at its place

module _ {lent : Bor (List ℕ)} {n : ℕ} {r : Reader} (k : Keeps lent n r) where
  -- a reader that goes elsewhere keeps the sheet
  pub keeps_moved : {m : ℕ} {r' : Reader} → Keeps r.sheet m r' → Keeps lent m r'
  keeps_moved h = record { sheet = h.sheet ∙ k.sheet; place = h.place }

  -- what its block shows is what that block of the sheet shows
  pub keeps_shown : {p : Bor (List ℕ)} → Showing.Promise r.sheet r.place p → Showing.Promise lent n p
  keeps_shown h = rw (k.sheet, k.place) at h
