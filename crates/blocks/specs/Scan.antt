-- Blocks gone through in turn for the first that is refused.
-- Assumes nothing.
use Rattle.std.specs.Prelude.{ℕ, ◌+◌, ◌*◌, ◌≤◌, ◌<◌, ◌≡◌, refl, List, ◌≢◌, length, get_or, drop}
use Rattle.std.proofs.Common.{add-one, arith, sym, ap, ◌∙◌, drop-drop}
use Rattle.packing.specs.Part.{part, part_none, part-cons}
use Rattle.refusals.specs.Table.{refused, none}
use Rattle.blocks.specs.declared.Due.{Due}
use Rattle.blocks.specs.Block.{block_length, wrong}
use Rattle.blocks.specs.Section.{no_due}
use Rattle.blocks.specs.Sheet.{block_at, or_later, fault_from}
use Rattle.blocks.specs.SheetLaws.{or_later_some}

-- of the blocks from block `from` up to block `to` none before block n is refused: the first of the others that is is the first of all
pub record Scan (letters sheet : List ℕ) (ds : List Due) (from to n : ℕ) : Type 0 where
  pub inside : to ≤ length ds
  pub rest : fault_from letters n (part n to ds) (drop (block_length * n) sheet) ≡ fault_from letters from (part from to ds) (drop (block_length * from) sheet)

-- none is gone through
pub scan_start : {letters sheet : List ℕ} {ds : List Due} {from to : ℕ} → to ≤ length ds → Scan letters sheet ds from to from
scan_start h = record { inside = h; rest = refl }

module _ {letters sheet : List ℕ} {ds : List Due} {from to n : ℕ} (s : Scan letters sheet ds from to n) where
  -- none is refused
  pub scan_end : to ≤ n → none ≡ fault_from letters from (part from to ds) (drop (block_length * from) sheet)
  scan_end h = ap (λ (l : List Due). fault_from letters n l (drop (block_length * n) sheet)) (sym (part_none n to ds h)) ∙ s.rest

  module _ {d : Due} {code : ℕ} (h : n < to) (here : d ≡ get_or ds n no_due) (e : code ≡ wrong letters d.kind n d.used (block_at sheet n)) where
    next : or_later code n (fault_from letters (n + 1) (part (n + 1) to ds) (drop (block_length * (n + 1)) sheet)) ≡ fault_from letters from (part from to ds) (drop (block_length * from) sheet)
    next =
        let m : block_length * (n + 1) ≡ block_length * n + block_length = omega arith in
        rw (e, here, m, ← drop-drop block_length (block_length * n) sheet, add-one n)
        (rw (part-cons n to ds no_due h s.inside, add-one n) at s.rest)

    -- block n is
    pub scan_off : code ≢ 0 → refused code n ≡ fault_from letters from (part from to ds) (drop (block_length * from) sheet)
    scan_off z = sym (or_later_some code n _ z) ∙ next

    -- block n is not
    pub scan_turn : code ≡ 0 → Scan letters sheet ds from to (n + 1)
    scan_turn z = record { inside = s.inside; rest = rw z at next }
