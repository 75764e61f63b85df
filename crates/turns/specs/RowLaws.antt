-- The row of a move: what it says, and the stores that put it down.
-- Assumes nothing.
use Rattle.std.specs.Prelude.{ℕ, ◌+◌, ◌-◌, ◌≤◌, ◌≡◌, List, [], ◌∷◌, ℤ, pos, length, take}
use Rattle.std.proofs.Common.{arith, ap, sym, append_assoc, drop-drop, ◌∙◌, SFits, to_z, of_z, to_z-of_z}
use Rattle.std.proofs.lemmas.List.Edits.{sets, sets-eq}
use borrow.Rule.Slice.PartMut.{put_mid}
use Rattle.std.specs.Int.{w64}
use Rattle.lists.specs.Sums.{Every}
use Rattle.terms.specs.Moves.{status}
use Rattle.terms.specs.declared.Move.{Move}
use Rattle.meaning.specs.Plan.{Plan, Limits}
use Rattle.meaning.specs.Moves.{Row, row_length, row, cells}
use Rattle.meaning.proofs.Deltas.{delta_reads, row_fits}
use Rattle.engine.specs.State.{Within, Answered}
use Rattle.turns.specs.Decoded.{status_small}
use Rattle.engine.specs.declared.Stepped.{Stepped}
use Rattle.turns.specs.declared.rows.Row as code

-- what a row says, as four signed numbers
abbrev pub meant : code.Row → Row
meant r = record { status = pos r.status; delta = r.delta; total = pos r.total; relabelled = pos r.relabelled }

-- a signed number, read back from its bits
abbrev read : ℤ → ℤ
read z = to_z w64 (of_z w64 z)

-- a row's numbers, each exact in an i64, put in the place of four are its cells put down
pub row-stored : (l : List ℤ) (n : ℕ) (r : Row) → Every (SFits w64) (cells r) → n + row_length ≤ length l
    → {vs : List ℤ} → vs ≡ read r.status ∷ read r.delta ∷ read r.total ∷ read r.relabelled ∷ [] → put_mid n (n + row_length - n) l vs ≡ sets l n (cells r)
unfolding cells
row-stored l n r f room e =
    let k : n + (n + row_length - n) ≡ n + row_length = omega arith in
    rw (e, to_z-of_z f.0, to_z-of_z f.1.0, to_z-of_z f.1.1.0, to_z-of_z f.1.1.1.0, drop-drop (n + row_length - n) n l, k) (sym (sets-eq (r.status ∷ r.delta ∷ r.total ∷ r.relabelled ∷ []) l n room ∙ append_assoc (take n l) _ _))

-- what the row of a move says, by its status and its answer
abbrev said : ℕ → Stepped → code.Row
said status r = record { status = status; delta = read r.delta; total = r.standing.total; relabelled = r.relabelled }

module _ {P : Plan} {col w : List ℕ} {asked : Move} {col' w' ps' : List ℕ} {r : Stepped} (l : Limits P) (a : Answered P col w asked col' w' ps' r) {m : Move} (e : asked ≡ m) {st : ℕ} (s : st ≡ status asked) where
  -- it says the row of the meaning
  pub said_row : meant (said st r) ≡ row P col m
  unfolding row
  said_row = rw (s, a.delta, a.standing, a.relabelled, delta_reads P l col asked, e)

  -- each number of it is exact in an i64
  pub said_fits : Within P m → Every (SFits w64) (cells (meant (said st r)))
  said_fits i = rw said_row (row_fits P l col m (omega (arith, status_small P m i)))

  -- where its cells are put down, those of the move's row are
  pub said_put : (rs : List ℤ) (n : ℕ) {rs' : List ℤ} → rs' ≡ sets rs n (cells (meant (said st r))) → rs' ≡ sets rs n (cells (row P col m))
  said_put rs n p = p ∙ ap (λ x. sets rs n (cells x)) said_row
