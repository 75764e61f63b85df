-- Document 01, "The sheet": a part of a lent sheet that is shown, not copied: which bytes it has, and where they lie.
-- Assumes nothing.
use Rattle.std.specs.Prelude.{ℕ, ◌+◌, ◌-◌, ◌*◌, ◌≤◌, ◌≡◌, List, take, drop}
use Rattle.std.proofs.Common.{arith, sym, ap, ◌∙◌}
use Rattle.std.specs.Borrow.{Bor}
use Rattle.packing.specs.Part.{part}
use Rattle.blocks.specs.Block.{block_length, header_length, most_payload, payload_of}
use Rattle.blocks.specs.Sheet.{block_at}
use Rattle.blocks.specs.SheetLaws.{payload_part_lem}

-- which part of a sheet: the byte that it starts at, and how many it has
pub record Extent : Type 0 where
  pub from : ℕ
  pub length : ℕ

-- the bytes of that part
abbrev pub bytes_in : Extent → List ℕ → List ℕ
bytes_in e sheet = take e.length (drop e.from sheet)

-- the empty part at a sheet's start
abbrev pub no_part : Extent
no_part = record { from = 0; length = 0 }

-- bytes 10 up to 10 plus used of block n
abbrev pub payload_part : ℕ → ℕ → Extent
payload_part n used = record { from = block_length * n + header_length; length = used }

-- p is a part of a lent sheet: it lies in the lent memory itself, that far from its start, and has those bytes
pub record PartOf (lent : Bor (List ℕ)) (e : Extent) (p : Bor (List ℕ)) : Type 0 where
  pub lies : p.ref_ptr ≡ (lent.ref_ptr.0, e.from + lent.ref_ptr.1)
  pub bytes : p.now ≡ bytes_in e lent.now

-- the same part of a lent sheet lies at the same place and has the same bytes
pub same-part : {lent : Bor (List ℕ)} {e : Extent} {p p' : Bor (List ℕ)} → PartOf lent e p → PartOf lent e p' → (p.ref_ptr ≡ p'.ref_ptr) × (p.now ≡ p'.now)
same-part a b = (a.lies ∙ sym b.lies, a.bytes ∙ sym b.bytes)

-- what is shown from an index up to that many bytes later has that many bytes
pub part_bytes : (from length : ℕ) (sheet : List ℕ) → part from (from + length) sheet ≡ take length (drop from sheet)
part_bytes from length sheet =
    let e : from + length - from ≡ length = omega arith in
    ap (λ (k : ℕ). take k (drop from sheet)) e

-- bytes 10 up to 10 plus used of block n are its used payload
pub payload_bytes : (sheet : List ℕ) (n used : ℕ) → used ≤ most_payload → bytes_in (payload_part n used) sheet ≡ payload_of used (block_at sheet n)
payload_bytes sheet n used h = sym (part_bytes (block_length * n + header_length) used sheet) ∙ payload_part_lem sheet n used h

-- so the part of a lent sheet that is those bytes has them
pub part_payload : {lent : Bor (List ℕ)} (n : ℕ) {used : ℕ} {p : Bor (List ℕ)} → used ≤ most_payload → PartOf lent (payload_part n used) p → p.now ≡ payload_of used (block_at lent.now n)
part_payload {lent} n {used} h o = o.bytes ∙ payload_bytes lent.now n used h
